-- What one line does to a fold.
use Rattle.std.proofs.Common.{◌≡◌, ℕ, ◌+◌, ◌<◌, ◌≤◌, Bool, true, false, cond, eqb}
use Rattle.std.proofs.Common.{not, length, None, Some, Option, Result, Ok, Err}
use Rattle.std.proofs.Common.{refl, sym, ap, ◌∙◌, subst, inl, arith}
use Rattle.std.specs.Prelude.{nat_lt}
use Rattle.std.specs.Option.{option_and_then}
use Rattle.std.proofs.lemmas.Bool.{eqb-true}
use Rattle.std.proofs.lemmas.Bool.Decides.{nat_tests}
use Rattle.job_io.specs.meaning.Lines.{Line, without_cr, most_line_bytes}
use Rattle.record_text.specs.meaning.Grammar.{record_of}
use Rattle.record_text.specs.declared.read.RecordLine.{RecordLine}
use Rattle.record_text.specs.declared.read.RecordLine.TheVariants.{Nothing, Head, Rem, Add, Done}
use Rattle.snapshot_fold.specs.declared.fault.FoldRefusal.{FoldRefusal}
use Rattle.snapshot_fold.specs.declared.fault.FoldRefusal.TheVariants.{WrongForm, MixedModes, OutOfOrder, AddsPresent, RemovesAbsent, WrongCount}
use Rattle.snapshot_fold.specs.declared.fault.FoldFault.TheVariants as fault
use Rattle.snapshot_fold.specs.calls.Reading.{IsStopOf}
use Rattle.snapshot_fold.specs.declared.folding.FoldStop.{FoldStop}
use Rattle.snapshot_fold.specs.declared.folding.FoldStop.TheVariants as stop
use Rattle.snapshot_fold.specs.meaning.FoldState.{FoldState}
use Rattle.snapshot_fold.specs.meaning.FoldText.{state_after_line, accepted_state}
use Rattle.snapshot_fold.specs.meaning.Folding.{state_or_stop, state_after_content, state_after_one_line, done_after_record}
use Rattle.snapshot_fold.specs.meaning.Pieces.{has_piece}
use Rattle.snapshot_fold.specs.meaning.Taking.{IsRecordFault, state_after_record, state_in_form, with_format, closed_with, is_of_other_mode, is_open, goes_in_order, comes_in_order}
use Rattle.snapshot_fold.specs.meaning.Forms.{is_of_form, format_after}
use Rattle.snapshot_fold.specs.meaning.Taking.{after_rem, after_new, after_done}

module _ {E : Type 0} (e : E) (behind : FoldState) (r : Result FoldState E) where
  -- what is accepted passed the test for a refusal
  pub passes : (b : Bool) → cond b (Err e) r ≡ Ok behind → r ≡ Ok behind
  passes true so = cc
  passes false so = so

  pub meets : (b : Bool) → cond b r (Err e) ≡ Ok behind → r ≡ Ok behind
  meets true so = so
  meets false so = cc

-- The timestamp that is done stays, and so do its pieces, or it is the next one.
pub data Moves (s behind : FoldState) : Type 0 where
  stays : behind.done ≡ s.done → behind.settled ≡ s.settled → Moves s behind
  rises : behind.done ≡ s.done + 1 → Moves s behind

-- what a record that is accepted does to the timestamps
pub record Closes (s behind : FoldState) (said : RecordLine) : Type 0 where
  pub done_is : done_after_record s.done (Some said) ≡ behind.done
  pub moves : Moves s behind

closes-same : (s behind : FoldState) (said : RecordLine) → done_after_record s.done (Some said) ≡ s.done →
    behind.done ≡ s.done → behind.settled ≡ s.settled → Closes s behind said
closes-same s behind said same done settled = record {
  done_is = same ∙ sym done;
  moves = stays done settled;
}

closes-kept : (s behind : FoldState) (said : RecordLine) → done_after_record s.done (Some said) ≡ s.done → s ≡ behind → Closes s behind said
closes-kept s behind said same e =
    closes-same s behind said same (ap (λ (x : FoldState). x.done) (sym e)) (ap (λ (x : FoldState). x.settled) (sym e))

pub closed-ok : (s behind : FoldState) (t : ℕ) (count : Option ℕ) → closed_with s t count ≡ Ok behind → after_done s t ≡ behind
closed-ok s behind t None so = cc
closed-ok s behind t (Some n) so =
    let fine = meets (WrongCount n (length s.held)) behind (Ok (after_done s t)) (eqb n (length s.held)) so in cc

in_form-closes : (s behind : FoldState) (said : RecordLine) → state_in_form s said ≡ Ok behind → Closes s behind said
in_form-closes s behind Nothing so = closes-kept s behind Nothing refl (let e : s ≡ behind = cc in e)
in_form-closes s behind Head so = closes-kept s behind Head refl (let e : s ≡ behind = cc in e)
in_form-closes s behind (Rem t p) so =
    let of_mode = passes MixedModes behind _ (is_of_other_mode s p) so in
    let in_order = passes OutOfOrder behind _ (not (goes_in_order s t p)) of_mode in
    let there = meets RemovesAbsent behind (Ok (after_rem s p)) (has_piece s.held p) in_order in
    let e : after_rem s p ≡ behind = cc in
    closes-same s behind (Rem t p) refl (ap (λ (x : FoldState). x.done) (sym e)) (ap (λ (x : FoldState). x.settled) (sym e))
in_form-closes s behind (Add t p) so =
    let of_mode = passes MixedModes behind _ (is_of_other_mode s p) so in
    let in_order = passes OutOfOrder behind _ (not (comes_in_order s t p)) of_mode in
    let absent = passes AddsPresent behind (Ok (after_new s p)) (has_piece s.held p) in_order in
    let e : after_new s p ≡ behind = cc in
    closes-same s behind (Add t p) refl (ap (λ (x : FoldState). x.done) (sym e)) (ap (λ (x : FoldState). x.settled) (sym e))
in_form-closes s behind (Done t count) so =
    let by_test : (b : Bool) → is_open s t ≡ b → cond b (closed_with s t count) (Err OutOfOrder) ≡ Ok behind → Closes s behind (Done t count) =
    elim [
      | true ↦ λ open_is so.
          let e = closed-ok s behind t count so in
          let done : t ≡ behind.done = ap (λ (x : FoldState). x.done) e in
          record { done_is = done; moves = rises (sym done ∙ eqb-true t (s.done + 1) open_is) }
      | false ↦ λ _ so. cc
    ] in
    by_test (is_open s t) refl so

-- a record that is accepted has the form of its text, and leads on in that form
pub record InForm (s behind : FoldState) (said : RecordLine) : Type 0 where
  pub form : is_of_form s.format said ≡ true
  pub mid : FoldState
  pub taken : state_in_form s said ≡ Ok mid
  pub is : record mid { format = format_after mid.format said } ≡ behind

pub in_form : (s behind : FoldState) (said : RecordLine) → state_after_record s said ≡ Ok behind → InForm s behind said
in_form s behind said so =
    let by_result : is_of_form s.format said ≡ true → (r : Result FoldState FoldRefusal) → state_in_form s said ≡ r → with_format said r ≡ Ok behind → InForm s behind said =
    λ form. elim [
      | Ok mid ↦ λ taken so.
          let e : record mid { format = format_after mid.format said } ≡ behind = cc in record { form = form; mid = mid; taken = taken; is = e }
      | Err why ↦ λ _ so. cc
    ] in
    let by_test : (b : Bool) → is_of_form s.format said ≡ b → cond b (with_format said (state_in_form s said)) (Err WrongForm) ≡ Ok behind → InForm s behind said =
    elim [
      | true ↦ λ form so. by_result form (state_in_form s said) refl so
      | false ↦ λ _ so. cc
    ] in
    by_test (is_of_form s.format said) refl so

moves-format : (s mid : FoldState) (said : RecordLine) → Moves s mid → Moves s (record mid { format = format_after mid.format said })
moves-format s mid said (stays done settled) = stays done settled
moves-format s mid said (rises done) = rises done

pub taken-closes : (s behind : FoldState) (said : RecordLine) → state_after_record s said ≡ Ok behind → Closes s behind said
taken-closes s behind said so =
    let formed = in_form s behind said so in
    let closes = in_form-closes s formed.mid said formed.taken in
    subst (λ b. Closes s b said) formed.is (record { done_is = closes.done_is; moves = moves-format s formed.mid said closes.moves })

-- A whole line says a record that is accepted.
pub record SaysRecord (s behind : FoldState) (line : Line) : Type 0 where
  pub said : RecordLine
  pub said_is : record_of (without_cr line.bytes) ≡ Some said
  pub taken_is : state_after_record s said ≡ Ok behind

taken_at-ok : (n : ℕ) (behind : FoldState) (r : Result FoldState FoldRefusal) → state_or_stop n r ≡ Ok behind → r ≡ Ok behind
taken_at-ok n behind (Ok other) so = let e : other ≡ behind = cc in ap Ok e
taken_at-ok n behind (Err why) so = cc

said_at-ok : (n : ℕ) (s behind : FoldState) (o : Option RecordLine) → state_after_content n s o ≡ Ok behind →
    (said : RecordLine) × (o ≡ Some said) × (state_after_record s said ≡ Ok behind)
said_at-ok n s behind None so = cc
said_at-ok n s behind (Some said) so = (said, refl, taken_at-ok n behind (state_after_record s said) so)

-- a record that is refused stops the fold at its line
pub refused_at : (n : ℕ) (r : Result FoldState FoldRefusal) (why : FoldRefusal) → IsRecordFault r (fault.Refused why) → IsStopOf (state_or_stop n r) (stop.Refused n why)
refused_at n (Ok behind) why is = cc
refused_at n (Err other) why is = let same : other ≡ why = cc in inl (ap (λ w. Err (stop.Refused n w)) same)

module _ (most n : ℕ) (s : FoldState) (line : Line) where
  -- what the line says, where it is whole
  abbrev Within : Bool → Result FoldState FoldStop
  Within whole = cond whole (state_after_content n s (record_of (without_cr line.bytes))) (Ok s)

  within_limits : (behind : FoldState) → state_after_one_line most n s line ≡ Ok behind → Within line.whole ≡ Ok behind
  within_limits behind so =
      passes (stop.TooLong n) behind _ (nat_lt most_line_bytes (length line.bytes))
      (passes (stop.TooMany n) behind _ (nat_lt most n) so)

  pub one_line-says : (behind : FoldState) → line.whole ≡ true → state_after_one_line most n s line ≡ Ok behind → SaysRecord s behind line
  one_line-says behind whole so =
      let found = said_at-ok n s behind (record_of (without_cr line.bytes)) (ap Within (sym whole) ∙ within_limits behind so) in
      record { said = found.0; said_is = found.1; taken_is = found.2 }

  pub one_line-torn : (behind : FoldState) → line.whole ≡ false → state_after_one_line most n s line ≡ Ok behind → s ≡ behind
  one_line-torn behind torn so =
      let same : ◌≡◌ {A = Result FoldState FoldStop} (Ok s) (Ok behind) = ap Within (sym torn) ∙ within_limits behind so in cc

  -- a line that isn't one too many is judged by its length
  not_many : n ≤ most → state_after_one_line most n s line ≡ cond (nat_lt most_line_bytes (length line.bytes)) (Err (stop.TooLong n)) (Within line.whole)
  not_many few =
      let is : nat_lt most n ≡ false = grind (arith, nat_tests) in
      ap (λ b. cond b (Err (stop.TooMany n)) (cond (nat_lt most_line_bytes (length line.bytes)) (Err (stop.TooLong n)) (Within line.whole))) is

  pub one_line-short : n ≤ most → length line.bytes ≤ most_line_bytes → state_after_one_line most n s line ≡ Within line.whole
  one_line-short few short =
      let is : nat_lt most_line_bytes (length line.bytes) ≡ false = grind (arith, nat_tests) in
      not_many few ∙ ap (λ b. cond b (Err (stop.TooLong n)) (Within line.whole)) is

  pub one_line-long : n ≤ most → most_line_bytes < length line.bytes → state_after_one_line most n s line ≡ Err (stop.TooLong n)
  one_line-long few long =
      let is : nat_lt most_line_bytes (length line.bytes) ≡ true = grind (arith, nat_tests) in
      not_many few ∙ ap (λ b. cond b (Err (stop.TooLong n)) (Within line.whole)) is

  pub one_line-many : most < n → state_after_one_line most n s line ≡ Err (stop.TooMany n)
  one_line-many many =
      let is : nat_lt most n ≡ true = grind (arith, nat_tests) in
      ap (λ b. cond b (Err (stop.TooMany n)) (cond (nat_lt most_line_bytes (length line.bytes)) (Err (stop.TooLong n)) (Within line.whole))) is

module _ (s behind : FoldState) (line : Line) (says : SaysRecord s behind line) where
  -- the text goes on after the line
  pub behind_line-is : state_after_line s line ≡ Some behind
  behind_line-is =
      ap (λ o. option_and_then (λ said. accepted_state (state_after_record s said)) o) says.said_is ∙ ap accepted_state says.taken_is

  pub line-closes : (done_after_record s.done (record_of (without_cr line.bytes)) ≡ behind.done) × Moves s behind
  line-closes =
      let closes = taken-closes s behind says.said says.taken_is in
      (ap (done_after_record s.done) says.said_is ∙ closes.done_is, closes.moves)
