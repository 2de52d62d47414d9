-- What a record does to a fold, or why it is refused.
use Rattle.std.specs.Prelude.{◌≡◌, ℕ, ◌+◌, Bool, false, not, ◌&&◌, eqb, List, [], ◌∷◌, ◌++◌, length, Option, None, Some, Result, Ok, Err, if◌then◌else◌}
use Rattle.std.specs.Option.{is_none}
use Rattle.std.specs.Ordering.{is_eq}
use Rattle.graph_types.specs.declared.ids.Mode.{Mode}
use Rattle.graph_types.specs.meaning.Piece.{PieceValue, mode_cmp}
use Rattle.record_text.specs.declared.read.RecordLine.{RecordLine}
use Rattle.record_text.specs.declared.read.RecordLine.TheVariants.{Nothing, Head, Rem, Add, Done}
use Rattle.snapshot_fold.specs.declared.fault.FoldFault.{FoldFault}
use Rattle.snapshot_fold.specs.declared.fault.FoldFault.TheVariants.{Refused, NoMemory}
use Rattle.snapshot_fold.specs.declared.fault.FoldRefusal.{FoldRefusal}
use Rattle.snapshot_fold.specs.declared.fault.FoldRefusal.TheVariants.{WrongForm, MixedModes, OutOfOrder, AddsPresent, RemovesAbsent, WrongCount}
use Rattle.snapshot_fold.specs.meaning.FoldState.{FoldState, last_rem, last_new}
use Rattle.snapshot_fold.specs.meaning.Forms.{is_of_form, format_after}
use Rattle.snapshot_fold.specs.meaning.Pieces.{is_above, has_piece, with_piece, without_piece}

abbrev pub is_other_mode : Option Mode → Mode → Bool
is_other_mode None mode = false
is_other_mode (Some first) mode = not (is_eq (mode_cmp first mode))

-- a piece was accepted before, and the first one was of another mode
abbrev pub is_of_other_mode : FoldState → PieceValue → Bool
is_of_other_mode s p = is_other_mode s.mode p.mode

-- the timestamp is the one after the last that is done
abbrev pub is_open : FoldState → ℕ → Bool
is_open s t = eqb t (s.done + 1)

-- within a timestamp the pieces that go ascend, and stand before those that come
abbrev pub goes_in_order : FoldState → ℕ → PieceValue → Bool
goes_in_order s t p = is_open s t && is_none (last_new s) && is_above (last_rem s) p

-- the pieces that come ascend too
abbrev pub comes_in_order : FoldState → ℕ → PieceValue → Bool
comes_in_order s t p = is_open s t && is_above (last_new s) p

-- after a piece went; all that are accepted are of one mode
abbrev pub after_rem : FoldState → PieceValue → FoldState
after_rem s p = record s { mode = Some p.mode; held = without_piece s.held p; went = s.went ++ p ∷ [] }

-- after a piece came
abbrev pub after_new : FoldState → PieceValue → FoldState
after_new s p = record s { mode = Some p.mode; held = with_piece s.held p; came = s.came ++ p ∷ [] }

-- after the line that closes timestamp t
abbrev pub after_done : FoldState → ℕ → FoldState
after_done s t = record s { done = t; settled = s.held; went = []; came = [] }

-- after the line that closes timestamp t, where the count that it has, if it has one, is the number of pieces
abbrev pub closed_with : FoldState → ℕ → Option ℕ → Result FoldState FoldRefusal
closed_with s t None = Ok (after_done s t)
closed_with s t (Some n) = if eqb n (length s.held) then Ok (after_done s t) else Err (WrongCount n (length s.held))

-- the fold after a record that has the form of its text, or the first reason to refuse it
abbrev pub state_in_form : FoldState → RecordLine → Result FoldState FoldRefusal
state_in_form s Nothing = Ok s
state_in_form s Head = Ok s
state_in_form s (Rem t p) =
    if is_of_other_mode s p then Err MixedModes
    else if not (goes_in_order s t p) then Err OutOfOrder
    else if has_piece s.held p then Ok (after_rem s p)
    else Err RemovesAbsent
state_in_form s (Add t p) =
    if is_of_other_mode s p then Err MixedModes
    else if not (comes_in_order s t p) then Err OutOfOrder
    else if has_piece s.held p then Err AddsPresent
    else Ok (after_new s p)
state_in_form s (Done t count) = if is_open s t then closed_with s t count else Err OutOfOrder

-- where a line is accepted, its text has a format from then on
abbrev pub with_format : RecordLine → Result FoldState FoldRefusal → Result FoldState FoldRefusal
with_format said (Ok behind) = Ok (record behind { format = format_after behind.format said })
with_format said (Err why) = Err why

-- the fold after a record, or the first reason to refuse it
abbrev pub state_after_record : FoldState → RecordLine → Result FoldState FoldRefusal
state_after_record s said = if is_of_form s.format said then with_format said (state_in_form s said) else Err WrongForm

-- the record is refused for this reason; or memory ran out, and it isn't refused
abbrev pub IsRecordFault : Result FoldState FoldRefusal → FoldFault → Type 0
IsRecordFault (Ok behind) fault = fault ≡ NoMemory
IsRecordFault (Err why) fault = fault ≡ Refused why
