-- A text of records, written anew in format 2.
use Rattle.std.specs.Prelude.{ℕ, suc, List, [], ◌∷◌, ◌++◌, length, Option, None, Some, Result, Ok, Err}
use Rattle.graph_types.specs.meaning.Piece.{members_of_all}
use Rattle.job_io.specs.meaning.Lines.{Line, without_cr}
use Rattle.record_text.specs.declared.read.RecordLine.{RecordLine}
use Rattle.record_text.specs.declared.read.RecordLine.TheVariants.{Nothing, Head, Rem, Add, Done}
use Rattle.record_text.specs.meaning.Grammar.{record_of}
use Rattle.record_text.specs.meaning.Text.{delta_text, done_text, head_text}
use Rattle.snapshot_fold.specs.meaning.FoldState.{FoldState, empty_fold}
use Rattle.snapshot_fold.specs.meaning.Folding.{state_after_one_line}

-- the block of timestamp t, as it closes: what went, what came, and how many pieces there are
abbrev pub block_text : FoldState → ℕ → List ℕ
block_text s t = delta_text t (members_of_all s.went) (members_of_all s.came) ++ done_text t (Some (length s.held))

-- what a line that is accepted adds: where it closes a timestamp, the block of that one
abbrev pub added_text : FoldState → Option RecordLine → List ℕ
added_text s None = []
added_text s (Some Nothing) = []
added_text s (Some Head) = []
added_text s (Some (Rem t p)) = []
added_text s (Some (Add t p)) = []
added_text s (Some (Done t count)) = block_text s t

-- nothing is written from the first line on that is refused
abbrev pub unless_refused : {E : Type 0} → Result FoldState E → (FoldState → List ℕ) → List ℕ
unless_refused (Ok behind) text = text behind
unless_refused (Err why) text = []

-- The blocks that whole lines close, which stand after n others, where at most `most` lines are allowed: those
-- before the first line that is refused. What is said after the last timestamp that is done is dropped.
abbrev pub migrated_from : ℕ → ℕ → FoldState → List Line → List ℕ
migrated_from most n s [] = []
migrated_from most n s (line ∷ lines) =
    unless_refused (state_after_one_line most (suc n) s line)
    (λ behind. added_text s (record_of (without_cr line.bytes)) ++ migrated_from most (suc n) behind lines)

-- the text in format 2 that the whole lines of a text lead to
abbrev pub migrated_text : ℕ → List Line → List ℕ
migrated_text most lines = head_text ++ migrated_from most 0 empty_fold lines
