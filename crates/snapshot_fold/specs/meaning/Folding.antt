-- What a text of records comes to: the pieces at a timestamp, or why it is refused.
use Rattle.std.specs.Prelude.{ℕ, suc, Bool, false, eqb, nat_lt, List, [], ◌∷◌, length}
use Rattle.std.specs.Prelude.{Option, None, Some, Result, Ok, Err, if◌then◌else◌}
use Rattle.graph_types.specs.meaning.Piece.{PieceValue}
use Rattle.job_io.specs.meaning.Lines.{Line, without_cr, most_line_bytes}
use Rattle.record_text.specs.meaning.Grammar.{record_of}
use Rattle.record_text.specs.declared.read.RecordLine.{RecordLine}
use Rattle.record_text.specs.declared.read.RecordLine.TheVariants.{Done}
use Rattle.snapshot_fold.specs.declared.fault.FoldRefusal.{FoldRefusal}
use Rattle.snapshot_fold.specs.declared.folding.FoldStop.{FoldStop}
use Rattle.snapshot_fold.specs.declared.folding.FoldStop.TheVariants as stop
use Rattle.snapshot_fold.specs.meaning.FoldState.{FoldState, empty_fold}
use Rattle.snapshot_fold.specs.meaning.Taking.{state_after_record}

-- what a record at line n leads to
abbrev pub state_or_stop : ℕ → Result FoldState FoldRefusal → Result FoldState FoldStop
state_or_stop n (Ok behind) = Ok behind
state_or_stop n (Err why) = Err (stop.Refused n why)

-- line n, by what it says
abbrev pub state_after_content : ℕ → FoldState → Option RecordLine → Result FoldState FoldStop
state_after_content n s None = Err (stop.BadLine n)
state_after_content n s (Some said) = state_or_stop n (state_after_record s said)

-- The fold after line n, where at most `most` lines are allowed, or why it stops there. A last line
-- without LF is dropped, but its limits count.
abbrev pub state_after_one_line : ℕ → ℕ → FoldState → Line → Result FoldState FoldStop
state_after_one_line most n s line =
    if nat_lt most n then Err (stop.TooMany n)
    else if nat_lt most_line_bytes (length line.bytes) then Err (stop.TooLong n)
    else if line.whole then state_after_content n s (record_of (without_cr line.bytes))
    else Ok s

-- the timestamp that was named is done
abbrev pub is_reached : Option ℕ → ℕ → Bool
is_reached None done = false
is_reached (Some t) done = eqb done t

-- what a fold comes to where its text ends after n whole lines
abbrev pub outcome_at_end : Option ℕ → ℕ → FoldState → Result (List PieceValue) FoldStop
outcome_at_end None n s = Ok s.settled
outcome_at_end (Some t) n s = Err (stop.NotDone n)

-- what a line leads to, by what comes after it
abbrev pub outcome_after : Result FoldState FoldStop → (FoldState → Result (List PieceValue) FoldStop) →
    Result (List PieceValue) FoldStop
outcome_after (Ok behind) rest = rest behind
outcome_after (Err why) rest = Err why

-- What the lines after n whole ones come to. Where the timestamp that was named is done, nothing more is
-- read.
abbrev pub fold_outcome_from : ℕ → Option ℕ → ℕ → FoldState → List Line → Result (List PieceValue) FoldStop
fold_outcome_from most at n s [] = if is_reached at s.done then Ok s.settled else outcome_at_end at n s
fold_outcome_from most at n s (line ∷ lines) =
    if is_reached at s.done then Ok s.settled
    else outcome_after (state_after_one_line most (suc n) s line)
    (λ behind. fold_outcome_from most at (if line.whole then suc n else n) behind lines)

-- what all lines of a text come to: the pieces at the timestamp that is named, or else at the last one
-- that is done, or the first stop
abbrev pub fold_outcome : ℕ → Option ℕ → List Line → Result (List PieceValue) FoldStop
fold_outcome most at lines = fold_outcome_from most at 0 empty_fold lines

-- the last timestamp that is done after a line
abbrev pub done_after_record : ℕ → Option RecordLine → ℕ
done_after_record t (Some (Done u count)) = u
done_after_record t said = t

abbrev pub last_done_from : ℕ → List Line → ℕ
last_done_from t [] = t
last_done_from t (line ∷ lines) = last_done_from (done_after_record t (record_of (without_cr line.bytes))) lines

-- the timestamp of the last line that says that one is done, or 0
abbrev pub last_done : List Line → ℕ
last_done lines = last_done_from 0 lines
