-- What was migrated tells what the text told.
use Rattle.std.proofs.Common.{◌≡◌, ◌≢◌, ℕ, suc, ◌+◌, ◌^◌, ◌<◌, ◌≤◌, inl, inr, Bool, true, false, not, cond, eqb, List, [], ◌∷◌, ◌++◌, length, map, Option, None, Some, Result, Ok, Err, refl, sym, ap, subst, ◌∙◌, arith, append_assoc, append-nil}
use Rattle.std.specs.Prelude.{codes, filter, nat_lt}
use Rattle.std.specs.List.{AllByRecursion}
use Rattle.std.specs.Option.{option_and_then}
use Rattle.std.proofs.lemmas.Bool.{and_parts, cases_eq, eq-eqb, eqb-true, eqb-false, ltb-false, ltb-true, ne_eqb}
use Rattle.std.proofs.lemmas.List.{map-append}
use Rattle.std.proofs.lemmas.Map.Made.{length-remove_key}
use Rattle.graph_types.specs.meaning.Piece.{PieceValue, members_of_all}
use Rattle.job_io.specs.meaning.Lines.{Line, lines_of, whole_lines_of, without_cr}
use Rattle.record_text.specs.declared.read.RecordLine.{RecordLine}
use Rattle.record_text.specs.declared.read.RecordLine.TheVariants.{Nothing, Head, Rem, Add, Done}
use Rattle.record_text.specs.declared.record_format.RecordFormat.{RecordFormat}
use Rattle.record_text.specs.declared.record_format.RecordFormat.TheVariants.{Two}
use Rattle.record_text.specs.meaning.Grammar.{record_of}
use Rattle.record_text.specs.meaning.Text.{done_text, records_text}
use Rattle.record_text.specs.meaning.Writable.{IsStamp, IsWritable}
use Rattle.record_text.proofs.Written.{new_written, rem_written}
use Rattle.shared_lemmas.proofs.Claims.{all-append}
use Rattle.snapshot_fold.specs.declared.fault.FoldRefusal.{FoldRefusal}
use Rattle.snapshot_fold.specs.declared.fault.FoldRefusal.TheVariants.{MixedModes, OutOfOrder, AddsPresent, RemovesAbsent, WrongCount}
use Rattle.snapshot_fold.specs.declared.folding.FoldStop.{FoldStop}
use Rattle.snapshot_fold.specs.declared.folding.FoldStop.TheVariants as stop
use Rattle.snapshot_fold.specs.meaning.Accepted.{said_by}
use Rattle.snapshot_fold.specs.meaning.FoldState.{FoldState, empty_fold}
use Rattle.snapshot_fold.specs.meaning.FoldText.{accepted_state, fold_text, pieces_where_done, state_after_line}
use Rattle.snapshot_fold.specs.meaning.Folding.{done_after_record, fold_outcome, fold_outcome_from, state_after_one_line}
use Rattle.snapshot_fold.specs.meaning.Forms.{format_after}
use Rattle.snapshot_fold.specs.meaning.Pieces.{has_piece, is_same_piece}
use Rattle.snapshot_fold.specs.meaning.Taking.{after_done, after_new, after_rem, closed_with, comes_in_order, goes_in_order, is_of_other_mode, is_open, state_after_record, state_in_form, with_format}
use Rattle.snapshot_fold.proofs.Accepting.{state_after_said}
use Rattle.snapshot_fold.proofs.Judging.{SaysRecord, closed-ok, in_form, meets, one_line-many, one_line-says, one_line-torn, passes, taken-closes}
use Rattle.snapshot_fold.proofs.Lasts.{none_last}
use Rattle.snapshot_fold.proofs.Saying.{pieces_said, said_by-done, said_by-head}
use Rattle.snapshot_fold.proofs.Told.{folded_from-cons, folded_from-reached, led_on-ok}
use Rattle.snapshot_fold.proofs.Totals.{length-with}
use Rattle.record_migration.specs.meaning.Migrated.{added_text, block_text, migrated_from, migrated_text, unless_refused}
use Rattle.record_migration.proofs.Readable.{CanBeWritten, record_read}

-- ---- a fold whose text is in format 2

abbrev in_two : FoldState → FoldState
in_two s = record s { format = Some Two }

abbrev two : Result FoldState FoldRefusal → Result FoldState FoldRefusal
two (Ok s) = Ok (in_two s)
two (Err why) = Err why

refused_or : (why : FoldRefusal) (b : Bool) (r : Result FoldState FoldRefusal) → cond b (Err why) (two r) ≡ two (cond b (Err why) r)
refused_or why true r = refl
refused_or why false r = refl

or_refused : (why : FoldRefusal) (b : Bool) (r : Result FoldState FoldRefusal) → cond b (two r) (Err why) ≡ two (cond b r (Err why))
or_refused why true r = refl
or_refused why false r = refl

-- a record does the same to it
in_two-form : (s : FoldState) (said : RecordLine) → state_in_form (in_two s) said ≡ two (state_in_form s said)
in_two-form s Nothing = refl
in_two-form s Head = refl
in_two-form s (Rem t p) =
    ap (λ r. cond (is_of_other_mode s p) (Err MixedModes) (cond (not (goes_in_order s t p)) (Err OutOfOrder) r)) (or_refused RemovesAbsent (has_piece s.held p) (Ok (after_rem s p)))
    ∙ ap (λ r. cond (is_of_other_mode s p) (Err MixedModes) r) (refused_or OutOfOrder (not (goes_in_order s t p)) (cond (has_piece s.held p) (Ok (after_rem s p)) (Err RemovesAbsent)))
    ∙ refused_or MixedModes (is_of_other_mode s p) (cond (not (goes_in_order s t p)) (Err OutOfOrder) (cond (has_piece s.held p) (Ok (after_rem s p)) (Err RemovesAbsent)))
in_two-form s (Add t p) =
    ap (λ r. cond (is_of_other_mode s p) (Err MixedModes) (cond (not (comes_in_order s t p)) (Err OutOfOrder) r)) (refused_or AddsPresent (has_piece s.held p) (Ok (after_new s p)))
    ∙ ap (λ r. cond (is_of_other_mode s p) (Err MixedModes) r) (refused_or OutOfOrder (not (comes_in_order s t p)) (cond (has_piece s.held p) (Err AddsPresent) (Ok (after_new s p))))
    ∙ refused_or MixedModes (is_of_other_mode s p) (cond (not (comes_in_order s t p)) (Err OutOfOrder) (cond (has_piece s.held p) (Err AddsPresent) (Ok (after_new s p))))
in_two-form s (Done t None) = or_refused OutOfOrder (is_open s t) (Ok (after_done s t))
in_two-form s (Done t (Some n)) =
    ap (λ r. cond (is_open s t) r (Err OutOfOrder)) (or_refused (WrongCount n (length s.held)) (eqb n (length s.held)) (Ok (after_done s t)))
    ∙ or_refused OutOfOrder (is_open s t) (cond (eqb n (length s.held)) (Ok (after_done s t)) (Err (WrongCount n (length s.held))))

-- ---- the records of the open timestamp

abbrev rems : ℕ → List PieceValue → List RecordLine
rems t pieces = map (λ p. Rem t p) pieces

abbrev news : ℕ → List PieceValue → List RecordLine
news t pieces = map (λ p. Add t p) pieces

abbrev open_records : FoldState → List RecordLine
open_records s = rems (suc s.done) s.went ++ news (suc s.done) s.came

-- a record that closes no timestamp
abbrev Quiet : RecordLine → Type 0
Quiet r = (d : ℕ) → done_after_record d (Some r) ≡ d

quiet_rems : (t : ℕ) (pieces : List PieceValue) → AllByRecursion Quiet (rems t pieces)
quiet_rems t [] = tt
quiet_rems t (p ∷ pieces) = (λ d. refl, quiet_rems t pieces)

quiet_news : (t : ℕ) (pieces : List PieceValue) → AllByRecursion Quiet (news t pieces)
quiet_news t [] = tt
quiet_news t (p ∷ pieces) = (λ d. refl, quiet_news t pieces)

-- ---- what is told, by what lines say

abbrev told_said : FoldState → List (Option RecordLine) → ℕ → Option (List PieceValue)
told_said s [] t = None
told_said s (said ∷ more) t =
    option_and_then (λ b. cond (eqb b.done t) (Some b.settled) (told_said b more t)) (option_and_then (λ r. accepted_state (state_after_record s r)) said)

told_lines : (s : FoldState) (lines : List Line) (t : ℕ) → pieces_where_done s lines t ≡ told_said s (map (λ line. record_of (without_cr line.bytes)) lines) t
told_lines s [] t = refl
told_lines s (line ∷ lines) t = λ i. option_and_then (λ b. cond (eqb b.done t) (Some b.settled) (told_lines b lines t i)) (state_after_line s line)

told_next : (s b : FoldState) (r : RecordLine) (more : List (Option RecordLine)) (t : ℕ) → state_after_record s r ≡ Ok b →
    told_said s (Some r ∷ more) t ≡ cond (eqb b.done t) (Some b.settled) (told_said b more t)
told_next s b r more t is = ap (λ x. option_and_then (λ b. cond (eqb b.done t) (Some b.settled) (told_said b more t)) (accepted_state x)) is

-- records that close no timestamp tell of none
told_quiet : (s mid : FoldState) (records : List RecordLine) (more : List (Option RecordLine)) (t : ℕ) → AllByRecursion Quiet records → s.done ≢ t →
    state_after_said s (map Some records) ≡ Some mid → told_said s (map Some records ++ more) t ≡ told_said mid more t
told_quiet s mid [] more t quiet other led = let e : s ≡ mid = cc in ap (λ x. told_said x more t) e
told_quiet s mid (r ∷ records) more t quiet other led =
    let by_result : (x : Result FoldState FoldRefusal) → state_after_record s r ≡ x → option_and_then (λ next. state_after_said next (map Some records)) (accepted_state x) ≡ Some mid →
    told_said s (Some r ∷ (map Some records ++ more)) t ≡ told_said mid more t = elim [
      | Ok b ↦ λ is led.
          let same : s.done ≡ b.done = sym (quiet.0 s.done) ∙ (taken-closes s b r is).done_is in
          told_next s b r (map Some records ++ more) t is
          ∙ ap (λ x. cond x (Some b.settled) (told_said b (map Some records ++ more) t)) (ne_eqb b.done t (λ e. other (same ∙ e)))
          ∙ told_quiet b mid records more t quiet.1 (λ e. other (same ∙ e)) led
      | Err why ↦ λ is led. cc
    ] in
    by_result (state_after_record s r) refl led

-- ---- what is told so far

-- A fold of a text, and one of what was migrated of it so far: the records of the open timestamp lead the second to
-- where the first is.
record IsRetold (n : ℕ) (s s0 : FoldState) : Type 0 where
  leads : (more : List (Option RecordLine)) → state_after_said s0 (map Some (open_records s) ++ more) ≡ state_after_said (in_two s) more
  went_can : AllByRecursion IsWritable s.went
  came_can : AllByRecursion IsWritable s.came
  few : length s.held ≤ n
  done_is : s0.done ≡ s.done

-- a record of the open timestamp is one more
record OneMore (s next : FoldState) (r : RecordLine) : Type 0 where
  records : open_records next ≡ open_records s ++ r ∷ []
  takes : state_after_record (in_two s) r ≡ Ok (in_two next)

one_more : (s next s0 : FoldState) (r : RecordLine) → OneMore s next r → ((more : List (Option RecordLine)) → state_after_said s0 (map Some (open_records s) ++ more) ≡ state_after_said (in_two s) more) →
    (more : List (Option RecordLine)) → state_after_said s0 (map Some (open_records next) ++ more) ≡ state_after_said (in_two next) more
one_more s next s0 r one leads more =
    ap (λ records. state_after_said s0 (map Some records ++ more)) one.records
    ∙ ap (λ said. state_after_said s0 (said ++ more)) (map-append Some (open_records s) (r ∷ []))
    ∙ ap (state_after_said s0) (append_assoc (map Some (open_records s)) (Some r ∷ []) more)
    ∙ leads (Some r ∷ more)
    ∙ ap (λ x. option_and_then (λ next. state_after_said next more) (accepted_state x)) one.takes

-- what a record does, that is accepted, in format 2
two_takes : (s mid next : FoldState) (said : RecordLine) → with_format said (Ok (in_two mid)) ≡ Ok (in_two mid) → in_two mid ≡ in_two next → state_in_form s said ≡ Ok mid →
    with_format said (state_in_form (in_two s) said) ≡ Ok (in_two next)
two_takes s mid next said kept same taken = ap (with_format said) (in_two-form s said ∙ ap two taken) ∙ kept ∙ ap Ok same

refuted : (why : FoldRefusal) (behind : FoldState) (r : Result FoldState FoldRefusal) (b : Bool) → cond b (Err why) r ≡ Ok behind → b ≡ false
refuted why behind r true so = cc
refuted why behind r false so = refl

met : (why : FoldRefusal) (behind : FoldState) (r : Result FoldState FoldRefusal) (b : Bool) → cond b r (Err why) ≡ Ok behind → b ≡ true
met why behind r true so = refl
met why behind r false so = cc

not_false : (b : Bool) → not b ≡ false → b ≡ true
not_false true is = refl
not_false false is = cc

-- a line that changes no piece
retold_kept : (n : ℕ) (s s0 : FoldState) (format : Option RecordFormat) → IsRetold n s s0 → IsRetold (suc n) (record s { format = format }) s0
retold_kept n s s0 format was = record {
  leads = was.leads;
  went_can = was.went_can;
  came_can = was.came_can;
  few = let few = was.few in omega (arith, few);
  done_is = was.done_is;
}

-- a piece went
rem_next : (n : ℕ) (s s0 next : FoldState) (t : ℕ) (p : PieceValue) → IsWritable p → IsRetold n s s0 → state_after_record s (Rem t p) ≡ Ok next → IsRetold (suc n) next s0
rem_next n s s0 next t p can was so =
    let formed = in_form s next (Rem t p) so in
    let mid = formed.mid in
    let of_mode = passes MixedModes mid _ (is_of_other_mode s p) formed.taken in
    let ordered = refuted OutOfOrder mid _ (not (goes_in_order s t p)) of_mode in
    let in_order = passes OutOfOrder mid _ (not (goes_in_order s t p)) of_mode in
    let there : has_piece s.held p ≡ true = met RemovesAbsent mid (Ok (after_rem s p)) (has_piece s.held p) in_order in
    let taken = meets RemovesAbsent mid (Ok (after_rem s p)) (has_piece s.held p) in_order in
    let e : after_rem s p ≡ mid = cc in
    let order = and_parts _ _ (not_false (goes_in_order s t p) ordered) in
    let first = and_parts _ _ order.0 in
    let open_is = eqb-true t (s.done + 1) first.0 in
    let d = suc s.done in
    let at : d ≡ t = omega (arith, open_is) in
    let none : s.came ≡ [] = none_last s.came first.1 in
    let target : FoldState = record (after_rem s p) { format = format_after s.format (Rem t p) } in
    let next_is : target ≡ next = ap {A = FoldState} (λ m. record m { format = format_after m.format (Rem t p) }) e ∙ formed.is in
    let one : OneMore s target (Rem t p) = record {
      records =
          ap (λ c. rems d (s.went ++ p ∷ []) ++ news d c) none ∙ append-nil (rems d (s.went ++ p ∷ []))
          ∙ map-append (λ p. Rem d p) s.went (p ∷ [])
          ∙ ap (λ t. rems d s.went ++ (Rem t p ∷ [])) at
          ∙ ap (λ r. r ++ (Rem t p ∷ [])) (sym (append-nil (rems d s.went)) ∙ ap (λ c. rems d s.went ++ news d c) (sym none));
      takes = two_takes s (after_rem s p) target (Rem t p) refl refl (formed.taken ∙ ap Ok (sym e));
    } in
    let len = length-remove_key (is_same_piece p) s.held there in
    let few = was.few in
    subst (λ x. IsRetold (suc n) x s0) next_is (record {
      leads = one_more s target s0 (Rem t p) one was.leads;
      went_can = all-append IsWritable s.went (p ∷ []) was.went_can (can, tt);
      came_can = was.came_can;
      few = omega (arith, len, few);
      done_is = was.done_is;
    })

-- a piece came
new_next : (n : ℕ) (s s0 next : FoldState) (t : ℕ) (p : PieceValue) → IsWritable p → IsRetold n s s0 → state_after_record s (Add t p) ≡ Ok next → IsRetold (suc n) next s0
new_next n s s0 next t p can was so =
    let formed = in_form s next (Add t p) so in
    let mid = formed.mid in
    let of_mode = passes MixedModes mid _ (is_of_other_mode s p) formed.taken in
    let ordered = refuted OutOfOrder mid _ (not (comes_in_order s t p)) of_mode in
    let in_order = passes OutOfOrder mid _ (not (comes_in_order s t p)) of_mode in
    let absent : has_piece s.held p ≡ false = refuted AddsPresent mid (Ok (after_new s p)) (has_piece s.held p) in_order in
    let taken = passes AddsPresent mid (Ok (after_new s p)) (has_piece s.held p) in_order in
    let e : after_new s p ≡ mid = cc in
    let order = and_parts _ _ (not_false (comes_in_order s t p) ordered) in
    let open_is = eqb-true t (s.done + 1) order.0 in
    let d = suc s.done in
    let at : d ≡ t = omega (arith, open_is) in
    let target : FoldState = record (after_new s p) { format = format_after s.format (Add t p) } in
    let next_is : target ≡ next = ap {A = FoldState} (λ m. record m { format = format_after m.format (Add t p) }) e ∙ formed.is in
    let one : OneMore s target (Add t p) = record {
      records =
          ap (λ r. rems d s.went ++ r) (map-append (λ p. Add d p) s.came (p ∷ []))
          ∙ sym (append_assoc (rems d s.went) (news d s.came) (Add d p ∷ []))
          ∙ ap (λ t. open_records s ++ (Add t p ∷ [])) at;
      takes = two_takes s (after_new s p) target (Add t p) refl refl (formed.taken ∙ ap Ok (sym e));
    } in
    let len = length-with s.held p absent in
    let few = was.few in
    subst (λ x. IsRetold (suc n) x s0) next_is (record {
      leads = one_more s target s0 (Add t p) one was.leads;
      went_can = was.went_can;
      came_can = all-append IsWritable s.came (p ∷ []) was.came_can (can, tt);
      few = omega (arith, len, few);
      done_is = was.done_is;
    })

-- a timestamp is closed
record IsClosed (n : ℕ) (s next : FoldState) (t : ℕ) : Type 0 where
  at : suc s.done ≡ t
  done : next.done ≡ t
  takes : state_after_record (in_two s) (Done t (Some (length s.held))) ≡ Ok (in_two next)
  retold : IsRetold (suc n) next (in_two next)

done_next : (n : ℕ) (s s0 next : FoldState) (t : ℕ) (count : Option ℕ) → IsRetold n s s0 → state_after_record s (Done t count) ≡ Ok next → IsClosed n s next t
done_next n s s0 next t count was so =
    let formed = in_form s next (Done t count) so in
    let mid = formed.mid in
    let open_is = met OutOfOrder mid (closed_with s t count) (is_open s t) formed.taken in
    let taken = meets OutOfOrder mid (closed_with s t count) (is_open s t) formed.taken in
    let e : after_done s t ≡ mid = closed-ok s mid t count taken in
    let is_next = eqb-true t (s.done + 1) open_is in
    let held = length s.held in
    let target : FoldState = record (after_done s t) { format = format_after s.format (Done t count) } in
    let next_is : target ≡ next = ap {A = FoldState} (λ m. record m { format = format_after m.format (Done t count) }) e ∙ formed.is in
    let counted : state_in_form s (Done t (Some held)) ≡ Ok (after_done s t) =
    ap (λ b. cond b (closed_with s t (Some held)) (Err OutOfOrder)) open_is
    ∙ ap (λ b. cond b (Ok (after_done s t)) (Err (WrongCount held held))) (eq-eqb held held refl) in
    let few = was.few in
    subst (λ x. IsClosed n s x t) next_is (record {
      at = omega (arith, is_next);
      done = refl;
      takes = two_takes s (after_done s t) target (Done t (Some held)) refl refl counted;
      retold = record { leads = λ more. refl; went_can = tt; came_can = tt; few = omega (arith, few); done_is = refl };
    })

-- ---- a block, as it is read

block_said : (s : FoldState) (t : ℕ) (more : List ℕ) → suc s.done ≡ t → IsStamp t → length s.held < 2 ^ 64 → AllByRecursion IsWritable s.went → AllByRecursion IsWritable s.came →
    said_by (block_text s t ++ more) ≡ map Some (open_records s) ++ Some (Done t (Some (length s.held))) ∷ said_by more
block_said s t more at fits few went_can came_can =
    let held = length s.held in
    let rem = records_text (codes "REM") t (members_of_all s.went) in
    let new = records_text (codes "NEW") t (members_of_all s.came) in
    let closing = done_text t (Some held) in
    let after : List (Option RecordLine) = Some (Done t (Some held)) ∷ said_by more in
    ap said_by (append_assoc (rem ++ new) closing more ∙ append_assoc rem new (closing ++ more))
    ∙ pieces_said (codes "REM") t (λ p. Rem t p) (λ p line can is. rem_written t p line fits can is) s.went (new ++ (closing ++ more)) went_can
    ∙ ap (λ said. map Some (rems t s.went) ++ said)
    (pieces_said (codes "NEW") t (λ p. Add t p) (λ p line can is. new_written t p line fits can is) s.came (closing ++ more) came_can
    ∙ ap (λ said. map Some (news t s.came) ++ said) (said_by-done t (Some held) more fits few))
    ∙ sym (append_assoc (map Some (rems t s.went)) (map Some (news t s.came)) after)
    ∙ ap (λ said. said ++ after) (sym (map-append Some (rems t s.went) (news t s.came)) ∙ ap (λ u. map Some (rems u s.went ++ news u s.came)) (sym at))

-- ---- line by line

abbrev wholes : List Line → List Line
wholes lines = filter (λ line. line.whole) lines

module _ (most t : ℕ) (small : most ≤ 10 ^ 19) (lines : List Line) (pieces : List PieceValue)
    (rest : (m : ℕ) (b b0 : FoldState) → IsRetold m b b0 → b.done < t → fold_outcome_from most (Some t) m b lines ≡ Ok pieces →
    told_said b0 (said_by (migrated_from most m b (wholes lines))) t ≡ Some pieces)
    (n : ℕ) (s s0 behind : FoldState) (was : IsRetold n s s0) (early : s.done < t) (within : suc n ≤ most)
    (so : fold_outcome_from most (Some t) (suc n) behind lines ≡ Ok pieces) where
  abbrev later : List ℕ
  later = migrated_from most (suc n) behind (wholes lines)

  stays_open : behind.done ≡ s.done → IsRetold (suc n) behind s0 → told_said s0 (said_by later) t ≡ Some pieces
  stays_open same retold = rest (suc n) behind s0 retold (omega (arith, same, early)) so

  closes : (u : ℕ) → IsStamp u → IsClosed n s behind u → told_said s0 (said_by (block_text s u ++ later)) t ≡ Some pieces
  closes u fits closed =
      let few = was.few in
      let short : length s.held < 2 ^ 64 = omega (arith, few, within, small) in
      let before = was.done_is in
      let other : s0.done ≢ t = λ e. omega (arith, e, before, early) in
      let led : state_after_said s0 (map Some (open_records s)) ≡ Some (in_two s) = ap (state_after_said s0) (sym (append-nil (map Some (open_records s)))) ∙ was.leads [] in
      let quiet = all-append Quiet (rems (suc s.done) s.went) (news (suc s.done) s.came) (quiet_rems (suc s.done) s.went) (quiet_news (suc s.done) s.came) in
      let by_test : (b : Bool) → eqb behind.done t ≡ b → cond b (Some behind.settled) (told_said (in_two behind) (said_by later) t) ≡ Some pieces = elim [
        | true ↦ λ reached.
            let same : ◌≡◌ {A = Result (List PieceValue) FoldStop} (Ok behind.settled) (Ok pieces) = sym (folded_from-reached most (Some t) (suc n) behind lines reached) ∙ so in
            let e : behind.settled ≡ pieces = cc in ap Some e
        | false ↦ λ apart.
            let done = closed.done in
            let at = closed.at in
            let not_yet : behind.done ≢ t = eqb-false behind.done t apart in
            rest (suc n) behind (in_two behind) closed.retold (omega (arith, done, at, early, not_yet)) so
      ] in
      ap (λ said. told_said s0 said t) (block_said s u later closed.at fits short was.went_can was.came_can)
      ∙ told_quiet s0 (in_two s) (open_records s) (Some (Done u (Some (length s.held))) ∷ said_by later) t quiet other led
      ∙ told_next (in_two s) (in_two behind) (Done u (Some (length s.held))) (said_by later) t closed.takes
      ∙ by_test (eqb behind.done t) refl

  kept : (said : RecordLine) → state_after_record s said ≡ Ok behind → done_after_record s.done (Some said) ≡ s.done → behind.done ≡ s.done
  kept said is quiet = sym (taken-closes s behind said is).done_is ∙ quiet

  same_next : (said : RecordLine) → state_in_form s said ≡ Ok s → state_after_record s said ≡ Ok behind → IsRetold (suc n) behind s0
  same_next said form is =
      let formed = in_form s behind said is in
      let both : ◌≡◌ {A = Result FoldState FoldRefusal} (Ok s) (Ok formed.mid) = sym form ∙ formed.taken in
      let e : s ≡ formed.mid = cc in
      subst (λ x. IsRetold (suc n) x s0) (ap {A = FoldState} (λ m. record m { format = format_after m.format said }) e ∙ formed.is) (retold_kept n s s0 (format_after s.format said) was)

  by_said : (said : RecordLine) → CanBeWritten said → state_after_record s said ≡ Ok behind → told_said s0 (said_by (added_text s (Some said) ++ later)) t ≡ Some pieces
  by_said Nothing can is = stays_open (kept Nothing is refl) (same_next Nothing refl is)
  by_said Head can is = stays_open (kept Head is refl) (same_next Head refl is)
  by_said (Rem u p) can is = stays_open (kept (Rem u p) is refl) (rem_next n s s0 behind u p can.1 was is)
  by_said (Add u p) can is = stays_open (kept (Add u p) is refl) (new_next n s s0 behind u p can.1 was is)
  by_said (Done u count) can is = closes u can (done_next n s s0 behind u count was is)

  by_line : (line : Line) → SaysRecord s behind line → told_said s0 (said_by (added_text s (record_of (without_cr line.bytes)) ++ later)) t ≡ Some pieces
  by_line line says =
      ap (λ o. told_said s0 (said_by (added_text s o ++ later)) t) says.said_is
      ∙ by_said says.said (record_read (without_cr line.bytes) says.said says.said_is) says.taken_is

-- a line that is accepted is one of those allowed
line_within : (most n : ℕ) (s behind : FoldState) (line : Line) → state_after_one_line most n s line ≡ Ok behind → n ≤ most
line_within most n s behind line so =
    let by_test : (b : Bool) → nat_lt most n ≡ b → n ≤ most = elim [
      | true ↦ λ many. let stops = one_line-many most n s line (ltb-true most n many) in cc
      | false ↦ λ few. ltb-false most n few
    ] in
    by_test (nat_lt most n) refl

retells : (most t : ℕ) → most ≤ 10 ^ 19 → (n : ℕ) (s s0 : FoldState) (lines : List Line) (pieces : List PieceValue) → IsRetold n s s0 → s.done < t →
    fold_outcome_from most (Some t) n s lines ≡ Ok pieces → told_said s0 (said_by (migrated_from most n s (wholes lines))) t ≡ Some pieces
retells most t small n s s0 [] pieces was early so =
    let later : eqb s.done t ≡ false = ne_eqb s.done t (λ e. omega (arith, e, early)) in
    let never : ◌≡◌ {A = Result (List PieceValue) FoldStop} (Err (stop.NotDone n)) (Ok pieces) = ap (λ b. cond b (Ok s.settled) (Err (stop.NotDone n))) (sym later) ∙ so in cc
retells most t small n s s0 (line ∷ lines) pieces was early so =
    let later : eqb s.done t ≡ false = ne_eqb s.done t (λ e. omega (arith, e, early)) in
    let led = led_on-ok _ _ pieces (sym (folded_from-cons most (Some t) n s line lines later) ∙ so) in
    let goal : List Line → Type 0 = λ ls. told_said s0 (said_by (migrated_from most n s ls)) t ≡ Some pieces in
    let by_whole : (w : Bool) → line.whole ≡ w → goal (cond w (line ∷ wholes lines) (wholes lines)) = elim [
      | true ↦ λ whole.
          let says = one_line-says most (suc n) s line led.behind whole led.led_is in
          let so_behind = ap (λ w. fold_outcome_from most (Some t) (cond w (suc n) n) led.behind lines) (sym whole) ∙ led.rest_is in
          ap (λ r. told_said s0 (said_by (unless_refused r (λ b. added_text s (record_of (without_cr line.bytes)) ++ migrated_from most (suc n) b (wholes lines)))) t) led.led_is
          ∙ by_line most t small lines pieces (λ m b b0 retold soon done. retells most t small m b b0 lines pieces retold soon done) n s s0 led.behind was early
          (line_within most (suc n) s led.behind line led.led_is) so_behind line says
      | false ↦ λ torn.
          let same : s ≡ led.behind = one_line-torn most (suc n) s line led.behind torn led.led_is in
          retells most t small n s s0 lines pieces was early
          (ap (λ w. fold_outcome_from most (Some t) (cond w (suc n) n) s lines) (sym torn)
          ∙ ap (λ b. fold_outcome_from most (Some t) (cond line.whole (suc n) n) b lines) same ∙ led.rest_is)
    ] in
    by_whole line.whole refl

-- ---- a whole text

-- the first line alone
begun : IsRetold 0 empty_fold (in_two empty_fold)
begun = record { leads = λ more. refl; went_can = tt; came_can = tt; few = omega arith; done_is = refl }

pub retold_text : (most : ℕ) (text : List ℕ) (t : ℕ) (pieces : List PieceValue) → most ≤ 10 ^ 19 → fold_outcome most (Some t) (lines_of text) ≡ Ok pieces →
    fold_text (migrated_text most (whole_lines_of text)) t ≡ Some pieces
retold_text most text t pieces small so =
    let migrated = migrated_text most (whole_lines_of text) in
    let blocks = migrated_from most 0 empty_fold (whole_lines_of text) in
    elim (cases_eq t 0) as (λ _. fold_text migrated t ≡ Some pieces) [
      | inl none ↦
          let same : ◌≡◌ {A = Result (List PieceValue) FoldStop} (Ok []) (Ok pieces) = sym (folded_from-reached most (Some t) 0 empty_fold (lines_of text) (eq-eqb 0 t (sym none))) ∙ so in
          let e : [] ≡ pieces = cc in ap (fold_text migrated) none ∙ ap Some e
      | inr some ↦
          let early : 0 < t = omega (arith, some) in
          ap (λ b. cond b (Some []) (pieces_where_done empty_fold (whole_lines_of migrated) t)) (ne_eqb t 0 some)
          ∙ told_lines empty_fold (whole_lines_of migrated) t
          ∙ ap (λ said. told_said empty_fold said t) (said_by-head blocks)
          ∙ told_next empty_fold (in_two empty_fold) Head (said_by blocks) t refl
          ∙ ap (λ b. cond b (Some []) (told_said (in_two empty_fold) (said_by blocks) t)) (ne_eqb 0 t (λ e. some (sym e)))
          ∙ retells most t small 0 empty_fold (in_two empty_fold) (lines_of text) pieces begun early so
    ]
