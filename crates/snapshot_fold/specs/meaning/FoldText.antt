-- The pieces that a text of records tells of.
use Rattle.std.specs.Prelude.{ℕ, eqb, List, [], ◌∷◌, Option, None, Some, Result, Ok, Err, if◌then◌else◌}
use Rattle.std.specs.Option.{option_and_then}
use Rattle.graph_types.specs.meaning.Piece.{PieceValue}
use Rattle.job_io.specs.meaning.Lines.{Line, whole_lines_of, without_cr}
use Rattle.record_text.specs.meaning.Grammar.{record_of}
use Rattle.snapshot_fold.specs.declared.fault.FoldRefusal.{FoldRefusal}
use Rattle.snapshot_fold.specs.meaning.FoldState.{FoldState, empty_fold}
use Rattle.snapshot_fold.specs.meaning.Taking.{state_after_record}

abbrev pub accepted_state : Result FoldState FoldRefusal → Option FoldState
accepted_state (Ok behind) = Some behind
accepted_state (Err why) = None

-- the fold after a line, where the line is nothing, or a record that is not refused
abbrev pub state_after_line : FoldState → Line → Option FoldState
state_after_line s line = option_and_then (λ said. accepted_state (state_after_record s said)) (record_of (without_cr line.bytes))

-- the pieces where t is done, if some lines lead there
abbrev pub pieces_where_done : FoldState → List Line → ℕ → Option (List PieceValue)
pieces_where_done s [] t = None
pieces_where_done s (line ∷ lines) t =
    option_and_then (λ behind. if eqb behind.done t then Some behind.settled else pieces_where_done behind lines t) (state_after_line s line)

-- the pieces at timestamp t of a text, by its whole lines; none at timestamp 0
abbrev pub fold_text : List ℕ → ℕ → Option (List PieceValue)
fold_text text t = if eqb t 0 then Some [] else pieces_where_done empty_fold (whole_lines_of text) t
