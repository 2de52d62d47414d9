-- Texts of records that a fold takes whole, and what a cut off one tells.
use Rattle.std.specs.Prelude.{◌≡◌, ◌↔◌, ◌⊎◌, ℕ, ◌≤◌, IsTrue, List, [], ◌∷◌, map, Option, Some}
use Rattle.std.specs.Option.{option_and_then, is_some}
use Rattle.graph_types.specs.meaning.Graph.{Graph}
use Rattle.graph_types.specs.meaning.Piece.{PieceValue}
use Rattle.job_io.specs.meaning.Lines.{Line, whole_lines_of, without_cr}
use Rattle.mining_model.specs.meaning.Embeddings.{Pattern, embeddings}
use Rattle.mining_model.specs.meaning.History.{graph_at}
use Rattle.record_text.specs.declared.read.RecordLine.{RecordLine}
use Rattle.record_text.specs.declared.read.RecordLine.TheVariants.{Done}
use Rattle.record_text.specs.meaning.Grammar.{record_of}
use Rattle.snapshot_fold.specs.meaning.FoldState.{FoldState, empty_fold}
use Rattle.snapshot_fold.specs.meaning.FoldText.{state_after_line, fold_text}
use Rattle.snapshot_fold.specs.meaning.Records.{pieces_of}

-- what the whole lines of a text say, where they are in one of the forms
abbrev pub said_by : List ℕ → List (Option RecordLine)
said_by text = map (λ line. record_of (without_cr line.bytes)) (whole_lines_of text)

-- timestamp t is done, with a count or without one
abbrev pub SaysDone : Option RecordLine → ℕ → Type 0
SaysDone said t = (count : Option ℕ) × (said ≡ Some (Done t count))

-- one of the lines says that timestamp t is done
abbrev pub SayDone : List Line → ℕ → Type 0
SayDone [] t = ⊥
SayDone (line ∷ lines) t = SaysDone (record_of (without_cr line.bytes)) t ⊎ SayDone lines t

-- the fold after some lines, where each is nothing, or a record that is not refused
abbrev pub state_after_lines : FoldState → List Line → Option FoldState
state_after_lines s [] = Some s
state_after_lines s (line ∷ lines) = option_and_then (λ next. state_after_lines next lines) (state_after_line s line)

-- a text of which a fold takes each whole line, up to timestamp m
pub record IsAccepted (text : List ℕ) (m : ℕ) : Type 0 where
  pub end : FoldState
  -- Each whole line is nothing, or a record that is not refused.
  pub accepted : state_after_lines empty_fold (whole_lines_of text) ≡ Some end
  -- After them m is the last timestamp that is done.
  pub done_is : end.done ≡ m

-- what a part of the text of a history up to timestamp m tells, wherever it was cut off
pub record TellsHistory (pattern : Pattern) (first : Graph) (later : List Graph) (m : ℕ) (written : List ℕ) : Type 0 where
  -- What it tells of a timestamp is the embeddings there, each once and in their order; and the timestamp is
  -- one of the history, or 0.
  pub exact : (t : ℕ) (pieces : List PieceValue) → fold_text written t ≡ Some pieces →
      (t ≤ m) × (pieces ≡ pieces_of pattern.mode (embeddings pattern (graph_at first later t)))
  -- Beside timestamp 0 it tells of those that one of its whole lines says are done, and of no other.
  pub where_done : (t : ℕ) → 1 ≤ t → IsTrue (is_some (fold_text written t)) ↔ SayDone (whole_lines_of written) t
