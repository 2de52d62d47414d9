-- What taking back the open timestamp gives, and that a record more does not change it.
use Rattle.std.proofs.Common.{◌≡◌, Bool, true, false, not, ◌&&◌, ◌||◌, List, [], ◌∷◌, ◌++◌, drop, refl, sym, ap, subst, ◌∙◌, if◌then◌else◌}
use Rattle.std.specs.List.{AllByRecursion, list_any}
use Rattle.std.specs.List.Sorted.{IsStrictlySortedBy}
use Rattle.std.specs.Ordering.{is_eq, is_le, ordering_reverse}
use Rattle.std.specs.BTreeMap.Comparable.{le_lt_trans}
use Rattle.std.specs.Cmp.{eq_by_cmp_equiv}
use Rattle.std.specs.declared.cmp.Ordering.TheVariants.{Less, Equal, Greater}
use Rattle.std.proofs.lemmas.Bool.{true≢false, or_left, or_right, or_parts}
use Rattle.std.proofs.lemmas.List.Folds.{list_any-append}
use Rattle.std.proofs.lemmas.Map.Keys.{sorted_head, sorted_tail}
use Rattle.std.proofs.Math.Bool.{or-false}
use Rattle.graph_types.specs.meaning.Orders.{piece_cmp_total}
use Rattle.graph_types.specs.meaning.Piece.{PieceValue, piece_cmp}
use Rattle.graph_types.proofs.Members.{piece_cmp-IsAntisymmetric}
use Rattle.snapshot_fold.specs.meaning.Pieces.{has_piece, is_same_piece}
use Rattle.snapshot_fold.specs.storage.Undone.{IsOpen, begins_with, pieces_above, pieces_before_open, pieces_up_to}
use Rattle.shared_lemmas.proofs.Ascending.{IsStrictlySortedBy-append, SortedParts, all-below, sorted-parts}
use Rattle.shared_lemmas.proofs.Claims.{all-append, all-append_parts, all-weaker}
use Rattle.shared_lemmas.proofs.Orderings.{Less-turned, same_item}
use Rattle.shared_lemmas.proofs.Sets.{absent_below, first_apart}

abbrev same : (p q : PieceValue) → is_same_piece p q ≡ true → p ≡ q
same = same_item piece_cmp-IsAntisymmetric

apart_first : (p : PieceValue) (pieces : List PieceValue) → IsStrictlySortedBy piece_cmp (p ∷ pieces) → (q : PieceValue) → is_same_piece q p ≡ true → has_piece pieces q ≡ false
apart_first = first_apart piece_cmp_total piece_cmp-IsAntisymmetric

itself : (p : PieceValue) → is_same_piece p p ≡ true
itself = (eq_by_cmp_equiv piece_cmp_total).refl

mirrored : (p q : PieceValue) → is_same_piece p q ≡ is_same_piece q p
mirrored = (eq_by_cmp_equiv piece_cmp_total).symm

module _ (pieces : List PieceValue) where
  abbrev pub Ascends : Type 0
  Ascends = IsStrictlySortedBy piece_cmp pieces

-- ---- ascending pieces round p

parted : (pieces : List PieceValue) (p : PieceValue) → pieces_up_to pieces p ++ pieces_above pieces p ≡ pieces
parted [] p = refl
parted (q ∷ pieces) p =
    elim (is_le (piece_cmp q p)) as (λ b. (if b then q ∷ pieces_up_to pieces p else []) ++ (if b then pieces_above pieces p else q ∷ pieces) ≡ q ∷ pieces) [
      | true ↦ ap (λ rest. q ∷ rest) (parted pieces p)
      | false ↦ refl
    ]

up_to-below : (pieces : List PieceValue) (p : PieceValue) → AllByRecursion (λ q. is_le (piece_cmp q p) ≡ true) (pieces_up_to pieces p)
up_to-below [] p = tt
up_to-below (q ∷ pieces) p =
    elim (is_le (piece_cmp q p)) as (λ b. is_le (piece_cmp q p) ≡ b → AllByRecursion (λ q. is_le (piece_cmp q p) ≡ true) (if b then q ∷ pieces_up_to pieces p else [])) [
      | true ↦ λ below. (below, up_to-below pieces p)
      | false ↦ λ _. tt
    ] refl

not_below : (p q : PieceValue) → is_le (piece_cmp q p) ≡ false → piece_cmp p q ≡ Less
not_below p q above =
    piece_cmp_total.antisymm p q
    ∙ (elim (piece_cmp q p) as (λ o. is_le o ≡ false → ordering_reverse o ≡ Less) [ Less ↦ λ e. absurd (cc) | Equal ↦ λ e. absurd (cc) | Greater ↦ λ _. refl ] above)

beyond-above : (pieces : List PieceValue) (p : PieceValue) → Ascends pieces → AllByRecursion (λ q. piece_cmp p q ≡ Less) (pieces_above pieces p)
unfolding IsStrictlySortedBy
beyond-above [] p s = tt
beyond-above (q ∷ pieces) p s =
    elim (is_le (piece_cmp q p)) as (λ b. is_le (piece_cmp q p) ≡ b → AllByRecursion (λ q. piece_cmp p q ≡ Less) (if b then pieces_above pieces p else q ∷ pieces)) [
      | true ↦ λ _. beyond-above pieces p s.1
      | false ↦ λ above. let less = not_below p q above in (less, all-below piece_cmp_total p q pieces less s.0)
    ] refl

among-parts : (pieces : List PieceValue) (p q : PieceValue) → has_piece pieces q ≡ (has_piece (pieces_up_to pieces p) q || has_piece (pieces_above pieces p) q)
among-parts pieces p q = ap (list_any (is_same_piece q)) (sym (parted pieces p)) ∙ list_any-append (is_same_piece q) (pieces_up_to pieces p) (pieces_above pieces p)

among_beyond : (pieces : List PieceValue) (p q : PieceValue) → has_piece (pieces_above pieces p) q ≡ true → has_piece pieces q ≡ true
among_beyond pieces p q h = among-parts pieces p q ∙ or_right (has_piece (pieces_up_to pieces p) q) _ h

-- ---- one held piece less

differ : (p q : PieceValue) (pieces : List PieceValue) → has_piece pieces p ≡ false → has_piece pieces q ≡ true → is_same_piece q p ≡ false
differ p q pieces absent there =
    elim (is_same_piece q p) as (λ b. is_same_piece q p ≡ b → b ≡ false) [
      | true ↦ λ tied. absurd (true≢false (sym there ∙ ap (has_piece pieces) (same q p tied) ∙ absent))
      | false ↦ λ _. refl
    ] refl

behind : (p q : PieceValue) (pieces : List PieceValue) → is_same_piece q p ≡ false → has_piece (p ∷ pieces) q ≡ true → has_piece pieces q ≡ true
behind p q pieces other there = ap (λ b. b || has_piece pieces q) (sym other) ∙ there

module _ (p : PieceValue) (held went : List PieceValue) where
  -- the first one came
  IsOpen-came : (c : PieceValue) (came : List PieceValue) → IsOpen (p ∷ held) went (c ∷ came) → is_same_piece c p ≡ true → IsOpen held (pieces_above went p) came
  IsOpen-came c came kept tied =
      let first : c ≡ p = same c p tied in
      let apart : has_piece held p ≡ false = apart_first p held kept.held_ascends p (itself p) in
      let c_apart : has_piece came p ≡ false = apart_first c came kept.came_ascends p (mirrored p c ∙ tied) in
      record {
        held_ascends = sorted_tail piece_cmp p held kept.held_ascends;
        went_ascends = (sorted-parts piece_cmp (pieces_up_to went p) (pieces_above went p) (subst Ascends (sym (parted went p)) kept.went_ascends)).back;
        came_ascends = sorted_tail piece_cmp c came kept.came_ascends;
        came_held = λ q there. behind p q held (differ p q came c_apart there) (kept.came_held q (or_right (is_same_piece q c) _ there));
        went_away = λ q gone there.
            behind c q came (ap (is_same_piece q) first ∙ differ p q held apart there)
            (kept.went_away q (among_beyond went p q gone) (or_right (is_same_piece q p) _ there));
      }

  -- the first one that came isn't it
  absent : (came : List PieceValue) → IsOpen (p ∷ held) went came → begins_with came p ≡ false → has_piece came p ≡ false
  unfolding IsStrictlySortedBy
  absent [] kept other = refl
  absent (c ∷ came) kept other =
      let there : has_piece (p ∷ held) c ≡ true = kept.came_held c (or_left (is_same_piece c c) _ (itself c)) in
      let in_held : has_piece held c ≡ true = behind p c held other there in
      let less : piece_cmp p c ≡ Less =
      elim (piece_cmp p c) as (λ o. piece_cmp p c ≡ o → o ≡ Less) [
        | Less ↦ λ _. refl
        | Equal ↦ λ tied. absurd (true≢false (sym (mirrored c p ∙ ap is_eq tied) ∙ other))
        | Greater ↦ λ greater. absurd (true≢false (sym in_held ∙ absent_below piece_cmp c held
            (all-below piece_cmp_total c p held (Less-turned piece_cmp_total p c greater) kept.held_ascends.0)))
      ] refl in
      absent_below piece_cmp p (c ∷ came) (less, all-below piece_cmp_total p c came less kept.came_ascends.0)

  IsOpen-stays : (came : List PieceValue) → IsOpen (p ∷ held) went came → begins_with came p ≡ false → IsOpen held (pieces_above went p) came
  IsOpen-stays came kept other =
      let apart = absent came kept other in
      record {
        held_ascends = sorted_tail piece_cmp p held kept.held_ascends;
        went_ascends = (sorted-parts piece_cmp (pieces_up_to went p) (pieces_above went p) (subst Ascends (sym (parted went p)) kept.went_ascends)).back;
        came_ascends = kept.came_ascends;
        came_held = λ q there. behind p q held (differ p q came apart there) (kept.came_held q there);
        went_away = λ q gone there. kept.went_away q (among_beyond went p q gone) (or_right (is_same_piece q p) _ there);
      }

-- ---- the pieces before

all-undone : (P : PieceValue → Type 0) (held went came : List PieceValue) → AllByRecursion P held → AllByRecursion P went → AllByRecursion P (pieces_before_open held went came)
all-undone P [] went came on_held on_went = on_went
all-undone P (p ∷ held) went came on_held on_went =
    let parts = all-append_parts P (pieces_up_to went p) (pieces_above went p) (subst (AllByRecursion P) (sym (parted went p)) on_went) in
    all-append P (pieces_up_to went p) _ parts.0
    (elim (begins_with came p) as (λ b. AllByRecursion P (if b then pieces_before_open held (pieces_above went p) (drop 1 came) else p ∷ pieces_before_open held (pieces_above went p) came)) [
      | true ↦ all-undone P held (pieces_above went p) (drop 1 came) on_held.1 parts.1
      | false ↦ (on_held.0, all-undone P held (pieces_above went p) came on_held.1 parts.1)
    ])

came_step : (u w h c e : Bool) → (e ≡ true → h ≡ false) → (u || (w || (h && not c))) ≡ ((u || w) || ((e || h) && not (e || c)))
came_step true w h c e so = refl
came_step false true h c e so = refl
came_step false false h c false so = refl
came_step false false false c true so = refl
came_step false false true c true so = absurd (true≢false (so refl))

stays_step : (u w h c e : Bool) → (e ≡ true → c ≡ false) → (u || (e || (w || (h && not c)))) ≡ ((u || w) || ((e || h) && not c))
stays_step true w h c e so = refl
stays_step false true h c true so = refl
stays_step false true h c false so = refl
stays_step false false h c false so = refl
stays_step false false h true true so = absurd (true≢false (so refl))
stays_step false false h false true so = refl

module _ (q : PieceValue) where
  -- what is among the pieces before
  abbrev Before : List PieceValue → List PieceValue → List PieceValue → Bool
  Before held went came = has_piece went q || (has_piece held q && not (has_piece came q))

  among-stays : (p : PieceValue) (held went came : List PieceValue) → IsOpen (p ∷ held) went came → begins_with came p ≡ false
      → has_piece (pieces_before_open held (pieces_above went p) came) q ≡ Before held (pieces_above went p) came
      → has_piece (pieces_up_to went p ++ p ∷ pieces_before_open held (pieces_above went p) came) q ≡ Before (p ∷ held) went came
  among-stays p held went came kept other rest =
      let here : is_same_piece q p ≡ true → has_piece came q ≡ false = λ tied. ap (has_piece came) (same q p tied) ∙ absent p held went came kept other in
      list_any-append (is_same_piece q) (pieces_up_to went p) (p ∷ pieces_before_open held (pieces_above went p) came)
      ∙ ap (λ b. has_piece (pieces_up_to went p) q || (is_same_piece q p || b)) rest
      ∙ stays_step (has_piece (pieces_up_to went p) q) (has_piece (pieces_above went p) q) (has_piece held q) (has_piece came q) (is_same_piece q p) here
      ∙ ap (λ b. b || (has_piece (p ∷ held) q && not (has_piece came q))) (sym (among-parts went p q))

  among-came : (p c : PieceValue) (held went came : List PieceValue) → IsOpen (p ∷ held) went (c ∷ came) → is_same_piece c p ≡ true
      → has_piece (pieces_before_open held (pieces_above went p) came) q ≡ Before held (pieces_above went p) came
      → has_piece (pieces_up_to went p ++ pieces_before_open held (pieces_above went p) came) q ≡ Before (p ∷ held) went (c ∷ came)
  among-came p c held went came kept tied rest =
      list_any-append (is_same_piece q) (pieces_up_to went p) (pieces_before_open held (pieces_above went p) came)
      ∙ ap (λ b. has_piece (pieces_up_to went p) q || b) rest
      ∙ came_step (has_piece (pieces_up_to went p) q) (has_piece (pieces_above went p) q) (has_piece held q) (has_piece came q) (is_same_piece q p) (apart_first p held kept.held_ascends q)
      ∙ ap (λ b. b || (has_piece (p ∷ held) q && not (is_same_piece q p || has_piece came q))) (sym (among-parts went p q))
      ∙ ap (λ x. has_piece went q || (has_piece (p ∷ held) q && not (is_same_piece q x || has_piece came q))) (sym (same c p tied))

  pub among-undone : (held went came : List PieceValue) → IsOpen held went came → has_piece (pieces_before_open held went came) q ≡ (has_piece went q || (has_piece held q && not (has_piece came q)))
  among-undone [] went came kept = sym (or-false (has_piece went q))
  among-undone (p ∷ held) went [] kept = among-stays p held went [] kept refl (among-undone held (pieces_above went p) [] (IsOpen-stays p held went [] kept refl))
  among-undone (p ∷ held) went (c ∷ came) kept =
      elim (is_same_piece c p) as (λ b. is_same_piece c p ≡ b → has_piece (pieces_up_to went p ++ (if b then pieces_before_open held (pieces_above went p) came else p ∷ pieces_before_open held (pieces_above went p) (c ∷ came))) q ≡ Before (p ∷ held) went (c ∷ came)) [
        | true ↦ λ tied. among-came p c held went came kept tied (among-undone held (pieces_above went p) came (IsOpen-came p held went c came kept tied))
        | false ↦ λ other. among-stays p held went (c ∷ came) kept other (among-undone held (pieces_above went p) (c ∷ came) (IsOpen-stays p held went (c ∷ came) kept other))
      ] refl

-- ---- they ascend

strictly : (p : PieceValue) (pieces : List PieceValue) → AllByRecursion (λ q. is_le (piece_cmp q p) ≡ true) pieces → has_piece pieces p ≡ false → AllByRecursion (λ q. piece_cmp q p ≡ Less) pieces
strictly p [] below apart = tt
strictly p (q ∷ pieces) below apart =
    let parts = or_parts (is_same_piece p q) (has_piece pieces p) apart in
    let less : piece_cmp q p ≡ Less =
    elim (piece_cmp q p) as (λ o. is_le o ≡ true → is_eq o ≡ false → o ≡ Less) [
      | Less ↦ λ _ _. refl
      | Equal ↦ λ _ e. absurd (cc)
      | Greater ↦ λ e _. absurd (cc)
    ] below.0 (mirrored q p ∙ parts.0) in
    (less, strictly p pieces below.1 parts.1)

went_apart : (p : PieceValue) (held went came : List PieceValue) → IsOpen (p ∷ held) went came → begins_with came p ≡ false → has_piece went p ≡ false
went_apart p held went came kept other =
    elim (has_piece went p) as (λ b. has_piece went p ≡ b → b ≡ false) [
      | true ↦ λ gone. absurd (true≢false (sym (kept.went_away p gone (or_left (is_same_piece p p) _ (itself p))) ∙ absent p held went came kept other))
      | false ↦ λ _. refl
    ] refl

module _ (p : PieceValue) (held went : List PieceValue) where
  after_all : (behind : List PieceValue) → Ascends (p ∷ held) → Ascends went → AllByRecursion (λ q. piece_cmp p q ≡ Less) (pieces_before_open held (pieces_above went p) behind)
  after_all behind s w = all-undone (λ q. piece_cmp p q ≡ Less) held (pieces_above went p) behind (sorted_head piece_cmp p held s) (beyond-above went p w)

  parts_of : Ascends went → SortedParts piece_cmp (pieces_up_to went p) (pieces_above went p)
  parts_of w = sorted-parts piece_cmp (pieces_up_to went p) (pieces_above went p) (subst Ascends (sym (parted went p)) w)

  ascends-came : (came : List PieceValue) → Ascends (p ∷ held) → Ascends went → Ascends (pieces_before_open held (pieces_above went p) came) → Ascends (pieces_up_to went p ++ pieces_before_open held (pieces_above went p) came)
  ascends-came came s w rest =
      let later = after_all came s w in
      IsStrictlySortedBy-append piece_cmp (pieces_up_to went p) (pieces_before_open held (pieces_above went p) came) (parts_of w).front rest
      (all-weaker (λ q. is_le (piece_cmp q p) ≡ true) (λ q. AllByRecursion (λ t. piece_cmp q t ≡ Less) (pieces_before_open held (pieces_above went p) came))
      (λ q below. all-weaker (λ t. piece_cmp p t ≡ Less) (λ t. piece_cmp q t ≡ Less) (λ t less. le_lt_trans piece_cmp_total q p t below less) (pieces_before_open held (pieces_above went p) came) later)
      (pieces_up_to went p) (up_to-below went p))

  ascends-stays : (came : List PieceValue) → Ascends (p ∷ held) → Ascends went → has_piece went p ≡ false → Ascends (pieces_before_open held (pieces_above went p) came) → Ascends (pieces_up_to went p ++ p ∷ pieces_before_open held (pieces_above went p) came)
  unfolding IsStrictlySortedBy
  ascends-stays came s w apart rest =
      let later = after_all came s w in
      let strict = strictly p (pieces_up_to went p) (up_to-below went p) (or_parts _ _ (sym (among-parts went p p) ∙ apart)).0 in
      IsStrictlySortedBy-append piece_cmp (pieces_up_to went p) (p ∷ pieces_before_open held (pieces_above went p) came) (parts_of w).front (later, rest)
      (all-weaker (λ q. piece_cmp q p ≡ Less) (λ q. AllByRecursion (λ t. piece_cmp q t ≡ Less) (p ∷ pieces_before_open held (pieces_above went p) came))
      (λ q less. (less, all-below piece_cmp_total q p (pieces_before_open held (pieces_above went p) came) less later))
      (pieces_up_to went p) strict)

pub undone-ascends : (held went came : List PieceValue) → IsOpen held went came → Ascends (pieces_before_open held went came)
undone-ascends [] went came kept = kept.went_ascends
undone-ascends (p ∷ held) went [] kept =
    ascends-stays p held went [] kept.held_ascends kept.went_ascends (went_apart p held went [] kept refl) (undone-ascends held (pieces_above went p) [] (IsOpen-stays p held went [] kept refl))
undone-ascends (p ∷ held) went (c ∷ came) kept =
    elim (is_same_piece c p) as (λ b. is_same_piece c p ≡ b → Ascends (pieces_up_to went p ++ (if b then pieces_before_open held (pieces_above went p) came else p ∷ pieces_before_open held (pieces_above went p) (c ∷ came)))) [
      | true ↦ λ tied. ascends-came p held went came kept.held_ascends kept.went_ascends (undone-ascends held (pieces_above went p) came (IsOpen-came p held went c came kept tied))
      | false ↦ λ other. ascends-stays p held went (c ∷ came) kept.held_ascends kept.went_ascends (went_apart p held went (c ∷ came) kept other) (undone-ascends held (pieces_above went p) (c ∷ came) (IsOpen-stays p held went (c ∷ came) kept other))
    ] refl
