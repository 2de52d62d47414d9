-- What one record does to what a fold keeps.
use Rattle.std.proofs.Common.{◌≡◌, ℕ, Bool, true, false, not, ◌&&◌, ◌||◌, List, [], ◌∷◌, ◌++◌, Option, None, Some, refl, sym, ap, subst, ◌∙◌, ⊎_elim}
use Rattle.std.specs.List.{AllByRecursion}
use Rattle.std.specs.List.Sorted.{IsStrictlySortedBy}
use Rattle.std.specs.Prelude.{Result, Ok, Err, OnOk}
use Rattle.std.specs.Result.{is_err}
use Rattle.std.specs.declared.cmp.Ordering.TheVariants.{Less}
use Rattle.std.proofs.lemmas.Bool.{true≢false, or_cases, or_left, or_right}
use Rattle.std.proofs.lemmas.List.Folds.{list_any-append}
use Rattle.std.proofs.Math.Bool.{or-false}
use Rattle.graph_types.specs.declared.ids.Mode.{Mode}
use Rattle.graph_types.specs.meaning.Orders.{piece_cmp_total}
use Rattle.graph_types.specs.meaning.Piece.{PieceValue, piece_cmp}
use Rattle.record_text.specs.declared.record_format.RecordFormat.{RecordFormat}
use Rattle.graph_types.proofs.Members.{piece_cmp-IsAntisymmetric}
use Rattle.snapshot_fold.specs.meaning.FoldState.{FoldState, last_new, last_rem}
use Rattle.snapshot_fold.specs.meaning.Pieces.{is_above, has_piece, is_same_piece, last_of, with_piece, without_piece}
use Rattle.snapshot_fold.specs.meaning.Taking.{after_done, after_new, after_rem}
use Rattle.snapshot_fold.specs.storage.Undone.{IsOpen, pieces_before_open}
use Rattle.snapshot_fold.proofs.Lasts.{all_below_next}
use Rattle.snapshot_fold.proofs.Undone.{Ascends, among-undone, undone-ascends}
use Rattle.shared_lemmas.proofs.Ascending.{IsStrictlySortedBy-append, sorted-one}
use Rattle.shared_lemmas.proofs.Claims.{all-weaker}
use Rattle.shared_lemmas.proofs.Orderings.{same_item}
use Rattle.shared_lemmas.proofs.Sets.{among-insert_key, among-remove_key, same_list, sorted-insert_key, sorted-remove_key}

ascends-push : (pieces : List PieceValue) (p : PieceValue) → Ascends pieces → is_above (last_of pieces) p ≡ true → Ascends (pieces ++ p ∷ [])
ascends-push pieces p s above =
    IsStrictlySortedBy-append piece_cmp pieces (p ∷ []) s (sorted-one piece_cmp p)
    (all-weaker (λ q. piece_cmp q p ≡ Less) (λ q. AllByRecursion (λ r. piece_cmp q r ≡ Less) (p ∷ [])) (λ q less. (less, tt)) pieces (all_below_next pieces p s above))

among-push : (pieces : List PieceValue) (p q : PieceValue) → has_piece (pieces ++ p ∷ []) q ≡ (has_piece pieces q || is_same_piece q p)
among-push pieces p q = list_any-append (is_same_piece q) pieces (p ∷ []) ∙ ap (λ b. has_piece pieces q || b) (or-false (is_same_piece q p))

tied : (p q : PieceValue) (pieces : List PieceValue) (b : Bool) → has_piece pieces p ≡ b → is_same_piece q p ≡ true → has_piece pieces q ≡ b
tied p q pieces b is t = ap (has_piece pieces) (same_item piece_cmp-IsAntisymmetric q p t) ∙ is

-- what holds of each success holds where no error came
pub on_ok : {T E P : Type 0} (r : Result T E) → is_err r ≡ false → OnOk r P → P
on_ok (Ok v) fine p = p
on_ok (Err e) fine p = absurd (true≢false fine)

-- ---- a piece went

went_step : (w h e : Bool) → (e ≡ true → h ≡ true) → ((w || e) || ((not e && h) && true)) ≡ (w || (h && true))
went_step true h e so = refl
went_step false h false so = refl
went_step false true true so = refl
went_step false false true so = absurd (true≢false (sym (so refl)))

was_held : (e h : Bool) → (not e && h) ≡ true → (e ≡ false) × (h ≡ true)
was_held true h is = absurd (true≢false (sym is))
was_held false h is = (refl, is)

module _ (held went : List PieceValue) (p : PieceValue) (kept : IsOpen held went []) (above : is_above (last_of went) p ≡ true) (there : has_piece held p ≡ true) where
  left_among : (q : PieceValue) → has_piece (without_piece held p) q ≡ (not (is_same_piece q p) && has_piece held q)
  left_among = among-remove_key piece_cmp_total piece_cmp-IsAntisymmetric p held kept.held_ascends

  IsOpen-went : IsOpen (without_piece held p) (went ++ p ∷ []) []
  IsOpen-went = record {
    held_ascends = sorted-remove_key piece_cmp_total piece_cmp-IsAntisymmetric (is_same_piece p) held kept.held_ascends;
    went_ascends = ascends-push went p kept.went_ascends above;
    came_ascends = kept.came_ascends;
    came_held = λ q found. absurd (true≢false (sym found));
    went_away = λ q away stays.
        let left = was_held (is_same_piece q p) (has_piece held q) (sym (left_among q) ∙ stays) in
        let before : has_piece went q ≡ true = sym (or-false (has_piece went q)) ∙ ap (λ b. has_piece went q || b) (sym left.0) ∙ sym (among-push went p q) ∙ away in
        kept.went_away q before left.1;
  }

  undone-went : pieces_before_open (without_piece held p) (went ++ p ∷ []) [] ≡ pieces_before_open held went []
  undone-went =
      same_list piece_cmp_total piece_cmp-IsAntisymmetric _ _ (undone-ascends _ _ _ IsOpen-went) (undone-ascends _ _ _ kept)
      (λ q. among-undone q (without_piece held p) (went ++ p ∷ []) [] IsOpen-went
      ∙ (λ i. among-push went p q i || (left_among q i && true))
      ∙ went_step (has_piece went q) (has_piece held q) (is_same_piece q p) (tied p q held true there)
      ∙ sym (among-undone q held went [] kept))

-- ---- a piece came

came_step : (w h c e : Bool) → (e ≡ true → h ≡ false) → (w || ((e || h) && not (c || e))) ≡ (w || (h && not c))
came_step true h c e so = refl
came_step false h true false so = refl
came_step false h false false so = refl
came_step false false true true so = refl
came_step false false false true so = refl
came_step false true c true so = absurd (true≢false (so refl))

module _ (held went came : List PieceValue) (p : PieceValue) (kept : IsOpen held went came) (above : is_above (last_of came) p ≡ true) (absent : has_piece held p ≡ false) where
  more_among : (q : PieceValue) → has_piece (with_piece held p) q ≡ (is_same_piece q p || has_piece held q)
  more_among = among-insert_key piece_cmp_total piece_cmp-IsAntisymmetric p held

  IsOpen-came : IsOpen (with_piece held p) went (came ++ p ∷ [])
  IsOpen-came = record {
    held_ascends = sorted-insert_key piece_cmp_total piece_cmp-IsAntisymmetric p held kept.held_ascends;
    went_ascends = kept.went_ascends;
    came_ascends = ascends-push came p kept.came_ascends above;
    came_held = λ q there.
        more_among q ∙ ⊎_elim (λ before. or_right (is_same_piece q p) _ (kept.came_held q before)) (λ now. or_left (is_same_piece q p) _ now)
        (or_cases (has_piece came q) (is_same_piece q p) (sym (among-push came p q) ∙ there));
    went_away = λ q away there.
        among-push came p q ∙ ⊎_elim (λ now. or_right (has_piece came q) _ now) (λ before. or_left (has_piece came q) _ (kept.went_away q away before))
        (or_cases (is_same_piece q p) (has_piece held q) (sym (more_among q) ∙ there));
  }

  undone-came : pieces_before_open (with_piece held p) went (came ++ p ∷ []) ≡ pieces_before_open held went came
  undone-came =
      same_list piece_cmp_total piece_cmp-IsAntisymmetric _ _ (undone-ascends _ _ _ IsOpen-came) (undone-ascends _ _ _ kept)
      (λ q. among-undone q (with_piece held p) went (came ++ p ∷ []) IsOpen-came
      ∙ (λ i. has_piece went q || (more_among q i && not (among-push came p q i)))
      ∙ came_step (has_piece went q) (has_piece held q) (has_piece came q) (is_same_piece q p) (tied p q held false absent)
      ∙ sym (among-undone q held went came kept))

-- ---- a timestamp is done

pub IsOpen-done : (held went came : List PieceValue) → IsOpen held went came → IsOpen held [] []
unfolding IsStrictlySortedBy
IsOpen-done held went came kept = record {
  held_ascends = kept.held_ascends;
  went_ascends = tt;
  came_ascends = tt;
  came_held = λ q found. absurd (true≢false (sym found));
  went_away = λ q found _. found;
}

pub undone-none : (held : List PieceValue) → pieces_before_open held [] [] ≡ held
undone-none [] = refl
undone-none (p ∷ held) = ap (λ rest. p ∷ rest) (undone-none held)

-- ---- the fold

-- what contracts see of what a fold keeps
abbrev pub seen : Option RecordFormat → Option Mode → ℕ → List PieceValue → List PieceValue → List PieceValue → FoldState
seen format mode done held went came = record {
  format = format;
  mode = mode;
  done = done;
  settled = pieces_before_open held went came;
  held = held;
  went = went;
  came = came;
}

module _ (s : FoldState) (format : Option RecordFormat) (mode : Option Mode) (done : ℕ) (held went came : List PieceValue)
    (view : seen format mode done held went came ≡ s) (kept : IsOpen held went came) where
  -- a piece went that is there
  pub after_rem_is : (p : PieceValue) (kind : Mode) (left more : List PieceValue) → s.came ≡ [] → is_above (last_rem s) p ≡ true → has_piece held p ≡ true → left ≡ without_piece held p → more ≡ went ++ p ∷ [] → kind ≡ p.mode →
      IsOpen left more came × (seen format (Some kind) done left more came ≡ after_rem s p)
  after_rem_is p kind left more first above there left_is more_is kind_is =
      let none : came ≡ [] = ap (λ v. v.came) view ∙ first in
      let kept' : IsOpen held went [] = subst (IsOpen held went) none kept in
      let above' : is_above (last_of went) p ≡ true = ap (λ v. is_above (last_rem v) p) view ∙ above in
      let still = IsOpen-went held went p kept' above' there in
      let settled_is : pieces_before_open left more came ≡ s.settled =
      (λ i. pieces_before_open (left_is i) (more_is i) (none i)) ∙ undone-went held went p kept' above' there ∙ ap (pieces_before_open held went) (sym none) ∙ ap (λ v. v.settled) view in (
        subst (λ ls. IsOpen ls more came) (sym left_is) (subst (λ ms. IsOpen (without_piece held p) ms came) (sym more_is) (subst (IsOpen (without_piece held p) (went ++ p ∷ [])) (sym none) still)),
        λ i. record {
          format = (view i).format;
          mode = Some (kind_is i);
          done = (view i).done;
          settled = settled_is i;
          held = (left_is ∙ ap (λ v. without_piece v.held p) view) i;
          went = (more_is ∙ ap (λ v. v.went ++ p ∷ []) view) i;
          came = (view i).came;
        },
      )

  -- a piece came that isn't there
  pub after_new_is : (p : PieceValue) (kind : Mode) (now more : List PieceValue) → is_above (last_new s) p ≡ true → has_piece held p ≡ false → now ≡ with_piece held p → more ≡ came ++ p ∷ [] → kind ≡ p.mode →
      IsOpen now went more × (seen format (Some kind) done now went more ≡ after_new s p)
  after_new_is p kind now more above absent now_is more_is kind_is =
      let above' : is_above (last_of came) p ≡ true = ap (λ v. is_above (last_new v) p) view ∙ above in
      let still = IsOpen-came held went came p kept above' absent in
      let settled_is : pieces_before_open now went more ≡ s.settled =
      (λ i. pieces_before_open (now_is i) went (more_is i)) ∙ undone-came held went came p kept above' absent ∙ ap (λ v. v.settled) view in (
        subst (λ ns. IsOpen ns went more) (sym now_is) (subst (IsOpen (with_piece held p) went) (sym more_is) still),
        λ i. record {
          format = (view i).format;
          mode = Some (kind_is i);
          done = (view i).done;
          settled = settled_is i;
          held = (now_is ∙ ap (λ v. with_piece v.held p) view) i;
          went = (view i).went;
          came = (more_is ∙ ap (λ v. v.came ++ p ∷ []) view) i;
        },
      )

  -- the timestamp t is done
  pub after_done_is : (t : ℕ) → seen format mode t held [] [] ≡ after_done s t
  after_done_is t i = record {
    format = (view i).format;
    mode = (view i).mode;
    done = t;
    settled = (undone-none held ∙ ap (λ v. v.held) view) i;
    held = (view i).held;
    went = [];
    came = [];
  }
