-- A fold that takes the records of timestamps, one after the other.
use Rattle.std.proofs.Common.{◌≡◌, ℕ, suc, ◌+◌, Bool, true, false, not, List, [], ◌∷◌, ◌++◌, length, map, Option, None, Some, refl, sym, ap, subst, ◌∙◌, arith, append_assoc, append-nil, if◌then◌else◌}
use Rattle.std.specs.Prelude.{Ok, Err}
use Rattle.std.specs.List.{AllByRecursion}
use Rattle.std.specs.List.Sorted.{IsStrictlySortedBy}
use Rattle.std.specs.Option.{option_and_then, is_none}
use Rattle.std.specs.Ordering.{is_eq}
use Rattle.std.proofs.lemmas.Bool.{and_from, eq-eqb}
use Rattle.std.proofs.lemmas.List.{length-map, map-append}
use Rattle.graph_types.specs.meaning.Graph.{Graph}
use Rattle.graph_types.specs.declared.ids.Mode.{Mode}
use Rattle.graph_types.specs.declared.member.Member.{Member}
use Rattle.graph_types.specs.meaning.Piece.{PieceValue, mode_cmp}
use Rattle.job_io.specs.meaning.Lines.{Line, without_cr}
use Rattle.mining_model.specs.meaning.Changes.{removed_pieces, added_pieces}
use Rattle.mining_model.specs.meaning.Embeddings.{Pattern, embeddings}
use Rattle.mining_model.proofs.Ascending.{IsStrictlySortedBy-embeddings}
use Rattle.record_text.specs.declared.read.RecordLine.{RecordLine}
use Rattle.record_text.specs.declared.read.RecordLine.TheVariants.{Rem, Add, Done}
use Rattle.record_text.specs.declared.record_format.RecordFormat.{RecordFormat}
use Rattle.record_text.specs.declared.record_format.RecordFormat.TheVariants.{One, Two}
use Rattle.record_text.specs.meaning.Grammar.{record_of}
use Rattle.record_text.specs.meaning.Text.{count_in, total_after}
use Rattle.record_text.proofs.Pieces.{mode_itself}
use Rattle.record_text.proofs.Texts.{count_after-in}
use Rattle.shared_lemmas.proofs.Claims.{all-weaker}
use Rattle.snapshot_fold.specs.declared.fault.FoldRefusal.TheVariants.{WrongForm, MixedModes, OutOfOrder, AddsPresent, RemovesAbsent, WrongCount}
use Rattle.snapshot_fold.specs.meaning.Accepted.{state_after_lines}
use Rattle.snapshot_fold.specs.meaning.FoldState.{FoldState}
use Rattle.snapshot_fold.specs.meaning.FoldText.{accepted_state, state_after_line}
use Rattle.snapshot_fold.specs.meaning.Forms.{format_after, format_begun, is_of_form}
use Rattle.snapshot_fold.specs.meaning.Pieces.{is_above, has_piece, last_of, with_piece, without_piece}
use Rattle.snapshot_fold.specs.meaning.Records.{pieces_of, step_records}
use Rattle.snapshot_fold.specs.meaning.Taking.{after_done, after_new, closed_with, comes_in_order, goes_in_order, after_rem, is_of_other_mode, is_open, state_after_record, state_in_form, with_format}
use Rattle.snapshot_fold.proofs.Changes.{ascends-pieces_of, ascends-without, came-absent, came-ascends, changes, went-ascends, went-there, with_all, without_all}
use Rattle.snapshot_fold.proofs.Embedded.{piece_of}
use Rattle.snapshot_fold.proofs.Lasts.{last_of-push}
use Rattle.snapshot_fold.proofs.Totals.{above_first, rest_ascends, still_absent, still_there, total_after-embeddings}
use Rattle.snapshot_fold.proofs.Undone.{Ascends}

-- ---- one record

-- a text of this format is read: it is set, or it is 1 and none is set yet
abbrev pub Reads : RecordFormat → Option RecordFormat → Type 0
Reads format None = format ≡ One
Reads format (Some set) = set ≡ format

reads-after : (format : RecordFormat) (set : Option RecordFormat) (said : RecordLine) → format_begun said ≡ Some One → Reads format set → Reads format (format_after set said)
reads-after format None said begun is = subst (Reads format) (sym begun) (sym is)
reads-after format (Some set) said begun is = is

reads-done : (format : RecordFormat) (set : Option RecordFormat) (t n : ℕ) → Reads format set → is_of_form set (Done t (count_in format n)) ≡ true
reads-done One None t n is = refl
reads-done Two None t n is = cc
reads-done One (Some One) t n is = refl
reads-done One (Some Two) t n is = cc
reads-done Two (Some One) t n is = cc
reads-done Two (Some Two) t n is = refl

-- what is known of a fold within a timestamp
pub record IsWithin (s : FoldState) (format : RecordFormat) (kind : Mode) (t : ℕ) (held went came : List PieceValue) : Type 0 where
  pub reads : Reads format s.format
  pub alike : (members : List Member) → is_of_other_mode s (piece_of kind members) ≡ false
  pub done : s.done ≡ t
  pub held_is : s.held ≡ held
  pub went_is : s.went ≡ went
  pub came_is : s.came ≡ came

-- a record is taken, and this holds then
pub record Taken (s : FoldState) (said : RecordLine) (Then : FoldState → Type 0) : Type 0 where
  pub next : FoldState
  pub takes : state_after_record s said ≡ Ok next
  pub so : Then next

alike_itself : (kind : Mode) → not (is_eq (mode_cmp kind kind)) ≡ false
alike_itself kind = ap not (mode_itself kind)

module _ (format : RecordFormat) (kind : Mode) (t : ℕ) where
  rem_taken : (s : FoldState) (held went : List PieceValue) (members : List Member) → IsWithin s format kind t held went [] →
      is_above (last_of went) (piece_of kind members) ≡ true → has_piece held (piece_of kind members) ≡ true →
      Taken s (Rem (suc t) (piece_of kind members)) (λ next. IsWithin next format kind t (without_piece held (piece_of kind members)) (went ++ piece_of kind members ∷ []) [])
  rem_taken s held went members is above there =
      let p = piece_of kind members in
      let said : RecordLine = Rem (suc t) p in
      let next : is_open s (suc t) ≡ true = eq-eqb (suc t) (s.done + 1) (omega (arith, is.done)) in
      let first : is_none (last_of s.came) ≡ true = ap (λ c. is_none (last_of c)) is.came_is in
      let ordered : goes_in_order s (suc t) p ≡ true = and_from _ _ (and_from _ _ next first) (ap (λ w. is_above (last_of w) p) is.went_is ∙ above) in
      let found : has_piece s.held p ≡ true = ap (λ h. has_piece h p) is.held_is ∙ there in
      let taken : state_in_form s said ≡ Ok (after_rem s p) =
      ap (λ b. if b then Err MixedModes else if not (goes_in_order s (suc t) p) then Err OutOfOrder else if has_piece s.held p then Ok (after_rem s p) else Err RemovesAbsent) (is.alike members)
      ∙ ap (λ b. if not b then Err OutOfOrder else if has_piece s.held p then Ok (after_rem s p) else Err RemovesAbsent) ordered
      ∙ ap (λ b. if b then Ok (after_rem s p) else Err RemovesAbsent) found in
      record {
        next = record (after_rem s p) { format = format_after s.format said };
        takes = ap (with_format said) taken;
        so = record {
          reads = reads-after format s.format said refl is.reads;
          alike = λ _. alike_itself kind;
          done = is.done;
          held_is = ap (λ h. without_piece h p) is.held_is;
          went_is = ap (λ w. w ++ p ∷ []) is.went_is;
          came_is = is.came_is;
        };
      }

  new_taken : (s : FoldState) (held went came : List PieceValue) (members : List Member) → IsWithin s format kind t held went came →
      is_above (last_of came) (piece_of kind members) ≡ true → has_piece held (piece_of kind members) ≡ false →
      Taken s (Add (suc t) (piece_of kind members)) (λ next. IsWithin next format kind t (with_piece held (piece_of kind members)) went (came ++ piece_of kind members ∷ []))
  new_taken s held went came members is above absent =
      let p = piece_of kind members in
      let said : RecordLine = Add (suc t) p in
      let next : is_open s (suc t) ≡ true = eq-eqb (suc t) (s.done + 1) (omega (arith, is.done)) in
      let ordered : comes_in_order s (suc t) p ≡ true = and_from _ _ next (ap (λ c. is_above (last_of c) p) is.came_is ∙ above) in
      let found : has_piece s.held p ≡ false = ap (λ h. has_piece h p) is.held_is ∙ absent in
      let taken : state_in_form s said ≡ Ok (after_new s p) =
      ap (λ b. if b then Err MixedModes else if not (comes_in_order s (suc t) p) then Err OutOfOrder else if has_piece s.held p then Err AddsPresent else Ok (after_new s p)) (is.alike members)
      ∙ ap (λ b. if not b then Err OutOfOrder else if has_piece s.held p then Err AddsPresent else Ok (after_new s p)) ordered
      ∙ ap (λ b. if b then Err AddsPresent else Ok (after_new s p)) found in
      record {
        next = record (after_new s p) { format = format_after s.format said };
        takes = ap (with_format said) taken;
        so = record {
          reads = reads-after format s.format said refl is.reads;
          alike = λ _. alike_itself kind;
          done = is.done;
          held_is = ap (λ h. with_piece h p) is.held_is;
          went_is = is.went_is;
          came_is = ap (λ c. c ++ p ∷ []) is.came_is;
        };
      }

-- ---- the records of a timestamp

-- the fold after lines that say this, where each is nothing, or a record that is not refused
abbrev pub state_after_said : FoldState → List (Option RecordLine) → Option FoldState
state_after_said s [] = Some s
state_after_said s (said ∷ more) =
    option_and_then (λ next. state_after_said next more) (option_and_then (λ r. accepted_state (state_after_record s r)) said)

pub state_after_lines-said : (s : FoldState) (lines : List Line) → state_after_lines s lines ≡ state_after_said s (map (λ line. record_of (without_cr line.bytes)) lines)
state_after_lines-said s [] = refl
state_after_lines-said s (line ∷ lines) = λ i. option_and_then (λ next. state_after_lines-said next lines i) (state_after_line s line)

-- records lead a fold on, whatever is said after them
pub record Leads (s : FoldState) (records : List RecordLine) (Then : FoldState → Type 0) : Type 0 where
  pub next : FoldState
  pub so : Then next
  pub led : (more : List (Option RecordLine)) → state_after_said s (map Some records ++ more) ≡ state_after_said next more

pub leads-cons : {Then : FoldState → Type 0} (s next : FoldState) (r : RecordLine) (records : List RecordLine) → state_after_record s r ≡ Ok next → Leads next records Then → Leads s (r ∷ records) Then
leads-cons s next r records takes leads = record {
  next = leads.next;
  so = leads.so;
  led = λ more. ap (λ t. option_and_then (λ b. state_after_said b (map Some records ++ more)) (accepted_state t)) takes ∙ leads.led more;
}

leads-so : {Now Then : FoldState → Type 0} (s : FoldState) (records : List RecordLine) → ((next : FoldState) → Now next → Then next) → Leads s records Now → Leads s records Then
leads-so s records f leads = record { next = leads.next; so = f leads.next leads.so; led = leads.led }

pub leads-append : {Mid Then : FoldState → Type 0} (s : FoldState) (records others : List RecordLine) → Leads s records Mid → ((next : FoldState) → Mid next → Leads next others Then) → Leads s (records ++ others) Then
leads-append s records others first rest =
    let later = rest first.next first.so in
    record {
      next = later.next;
      so = later.so;
      led = λ more.
          ap (λ said. state_after_said s (said ++ more)) (map-append Some records others)
          ∙ ap (state_after_said s) (append_assoc (map Some records) (map Some others) more)
          ∙ first.led (map Some others ++ more) ∙ later.led more;
    }

-- what ascends goes on from its first piece
goes_on : (before : List PieceValue) (p : PieceValue) (pieces : List PieceValue) → Ascends (p ∷ pieces) → AllByRecursion (λ q. is_above (last_of (before ++ p ∷ [])) q ≡ true) pieces
goes_on before p pieces sorted =
    all-weaker (λ q. is_above (Some p) q ≡ true) (λ q. is_above (last_of (before ++ p ∷ [])) q ≡ true)
    (λ q above. ap (λ l. is_above l q) (last_of-push before p) ∙ above) pieces (above_first p pieces sorted)

module _ (format : RecordFormat) (kind : Mode) (i : ℕ) where
  rems_taken : (lists : List (List Member)) (s : FoldState) (held went : List PieceValue) → IsWithin s format kind i held went [] →
      Ascends held → Ascends (pieces_of kind lists) → AllByRecursion (λ p. is_above (last_of went) p ≡ true) (pieces_of kind lists) → AllByRecursion (λ p. has_piece held p ≡ true) (pieces_of kind lists) →
      Leads s (map (λ p. Rem (suc i) p) (pieces_of kind lists)) (λ next. IsWithin next format kind i (without_all held (pieces_of kind lists)) (went ++ pieces_of kind lists) [])
  rems_taken [] s held went is held_s sorted above there =
      record { next = s; so = subst (λ w. IsWithin s format kind i held w []) (sym (append-nil went)) is; led = λ _. refl }
  rems_taken (members ∷ lists) s held went is held_s sorted above there =
      let p = piece_of kind members in
      let pieces = pieces_of kind lists in
      let left = without_piece held p in
      let first = rem_taken format kind i s held went members is above.0 there.0 in
      leads-cons s first.next (Rem (suc i) p) (map (λ p. Rem (suc i) p) pieces) first.takes
      (leads-so first.next (map (λ p. Rem (suc i) p) pieces)
      (λ next so. subst (λ w. IsWithin next format kind i (without_all left pieces) w []) (append_assoc went (p ∷ []) pieces) so)
      (rems_taken lists first.next left (went ++ p ∷ []) first.so (ascends-without held p held_s) (rest_ascends p pieces sorted)
      (goes_on went p pieces sorted) (still_there held p pieces held_s sorted there.1)))

  news_taken : (lists : List (List Member)) (s : FoldState) (held went came : List PieceValue) → IsWithin s format kind i held went came →
      Ascends (pieces_of kind lists) → AllByRecursion (λ p. is_above (last_of came) p ≡ true) (pieces_of kind lists) → AllByRecursion (λ p. has_piece held p ≡ false) (pieces_of kind lists) →
      Leads s (map (λ p. Add (suc i) p) (pieces_of kind lists)) (λ next. IsWithin next format kind i (with_all held (pieces_of kind lists)) went (came ++ pieces_of kind lists))
  news_taken [] s held went came is sorted above absent =
      record { next = s; so = subst (λ c. IsWithin s format kind i held went c) (sym (append-nil came)) is; led = λ _. refl }
  news_taken (members ∷ lists) s held went came is sorted above absent =
      let p = piece_of kind members in
      let pieces = pieces_of kind lists in
      let now = with_piece held p in
      let first = new_taken format kind i s held went came members is above.0 absent.0 in
      leads-cons s first.next (Add (suc i) p) (map (λ p. Add (suc i) p) pieces) first.takes
      (leads-so first.next (map (λ p. Add (suc i) p) pieces)
      (λ next so. subst (λ c. IsWithin next format kind i (with_all now pieces) went c) (append_assoc came (p ∷ []) pieces) so)
      (news_taken lists first.next now went (came ++ p ∷ []) first.so (rest_ascends p pieces sorted)
      (goes_on came p pieces sorted) (still_absent held p pieces sorted absent.1)))

-- ---- a timestamp

-- a fold at a timestamp that is done
pub record IsAt (s : FoldState) (format : RecordFormat) (kind : Mode) (t : ℕ) (pieces : List PieceValue) : Type 0 where
  pub within : IsWithin s format kind t pieces [] []
  pub settled_is : s.settled ≡ pieces

closed_counted : (s : FoldState) (format : RecordFormat) (t n : ℕ) → n ≡ length s.held → closed_with s t (count_in format n) ≡ Ok (after_done s t)
closed_counted s One t n is = refl
closed_counted s Two t n is = ap (λ b. if b then Ok (after_done s t) else Err (WrongCount n (length s.held))) (eq-eqb n (length s.held) is)

reads-closed : (format : RecordFormat) (set : Option RecordFormat) (t : ℕ) (count : Option ℕ) → Reads format set → Reads format (format_after set (Done t count))
reads-closed format set t count is = reads-after format set (Done t count) refl is

pub done_taken : (s : FoldState) (format : RecordFormat) (kind : Mode) (i n : ℕ) (held went came : List PieceValue) → IsWithin s format kind i held went came → n ≡ length held →
    Taken s (Done (suc i) (count_in format n)) (λ next. IsAt next format kind (suc i) held)
done_taken s format kind i n held went came is counted =
    let said : RecordLine = Done (suc i) (count_in format n) in
    let next : is_open s (suc i) ≡ true = eq-eqb (suc i) (s.done + 1) (omega (arith, is.done)) in
    let taken : state_in_form s said ≡ Ok (after_done s (suc i)) =
    ap (λ b. if b then closed_with s (suc i) (count_in format n) else Err OutOfOrder) next
    ∙ closed_counted s format (suc i) n (counted ∙ ap length (sym is.held_is)) in
    record {
      next = record (after_done s (suc i)) { format = format_after s.format said };
      takes = ap (λ b. if b then with_format said (state_in_form s said) else Err WrongForm) (reads-done format s.format (suc i) n is.reads)
          ∙ ap (with_format said) taken;
      so = record {
        within = record {
          reads = reads-closed format s.format (suc i) (count_in format n) is.reads;
          alike = is.alike;
          done = refl;
          held_is = is.held_is;
          went_is = refl;
          came_is = refl;
        };
        settled_is = is.held_is;
      };
    }

all_above : (pieces : List PieceValue) → AllByRecursion (λ p. is_above None p ≡ true) pieces
all_above [] = tt
all_above (p ∷ pieces) = (refl, all_above pieces)

module _ (format : RecordFormat) (pattern : Pattern) (before now : Graph) (i : ℕ) (s : FoldState)
    (is : IsAt s format pattern.mode i (pieces_of pattern.mode (embeddings pattern before))) where
  abbrev rems : List RecordLine
  rems = map (λ p. Rem (suc i) p) (pieces_of pattern.mode (removed_pieces pattern before now))

  abbrev news : List RecordLine
  news = map (λ p. Add (suc i) p) (pieces_of pattern.mode (added_pieces pattern before now))

  -- what goes and what comes leads to the pieces of the next graph
  pub changes_taken : Leads s (rems ++ news) (λ next. IsWithin next format pattern.mode i (pieces_of pattern.mode (embeddings pattern now))
      (pieces_of pattern.mode (removed_pieces pattern before now)) (pieces_of pattern.mode (added_pieces pattern before now)))
  changes_taken =
      let kind = pattern.mode in
      let old = embeddings pattern before in
      let new = embeddings pattern now in
      let old_ascends = IsStrictlySortedBy-embeddings pattern before in
      let new_ascends = IsStrictlySortedBy-embeddings pattern now in
      let went = pieces_of kind (removed_pieces pattern before now) in
      let came = pieces_of kind (added_pieces pattern before now) in
      let held = pieces_of kind old in
      leads-append s rems news
      (rems_taken format kind i (removed_pieces pattern before now) s held [] is.within (ascends-pieces_of kind old old_ascends) (went-ascends kind old new old_ascends new_ascends)
      (all_above went) (went-there kind old new old_ascends new_ascends))
      (λ s' within.
      leads-so s' news (λ next so. subst (λ h. IsWithin next format kind i h went came) (changes kind old new old_ascends new_ascends) so)
      (news_taken format kind i (added_pieces pattern before now) s' (without_all held went) went [] within (came-ascends kind old new old_ascends new_ascends)
      (all_above came) (came-absent kind old new old_ascends new_ascends)))

  -- a timestamp leads from the pieces of its one graph to those of the next
  pub timestamp_taken : (n : ℕ) → n ≡ length (embeddings pattern before) →
      Leads s (step_records (count_in format n) pattern before now (suc i)) (λ next. IsAt next format pattern.mode (suc i) (pieces_of pattern.mode (embeddings pattern now)))
  timestamp_taken n counted =
      let kind = pattern.mode in
      let went = pieces_of kind (removed_pieces pattern before now) in
      let came = pieces_of kind (added_pieces pattern before now) in
      let held = pieces_of kind (embeddings pattern now) in
      let total = total_after pattern before now n in
      let count_is : total ≡ length held = total_after-embeddings pattern before now n counted ∙ sym (length-map (embeddings pattern now) _) in
      subst (λ records. Leads s records (λ next. IsAt next format kind (suc i) held))
      (append_assoc rems news (Done (suc i) (count_in format total) ∷ [])
      ∙ ap (λ count. rems ++ (news ++ (Done (suc i) count ∷ []))) (sym (count_after-in format pattern before now n)))
      (leads-append s (rems ++ news) (Done (suc i) (count_in format total) ∷ []) changes_taken
      (λ s' within.
      let closes = done_taken s' format kind i total held went came within count_is in
      leads-cons s' closes.next (Done (suc i) (count_in format total)) [] closes.takes
      (record { next = closes.next; so = closes.so; led = λ _. refl })))
