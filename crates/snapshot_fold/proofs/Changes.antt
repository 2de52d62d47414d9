-- Taking out what went from ascending pieces, and putting in what came, gives the pieces then.
use Rattle.std.proofs.Common.{◌≡◌, Bool, true, false, not, ◌&&◌, ◌||◌, List, [], ◌∷◌, refl, sym, ap, ◌∙◌}
use Rattle.std.specs.List.{AllByRecursion, list_any}
use Rattle.std.specs.List.Sorted.{IsStrictlySortedBy}
use Rattle.std.specs.Ordering.{is_eq, ordering_then}
use Rattle.std.specs.Cmp.{tied_itself}
use Rattle.std.specs.Cmp.Lexicographic.{slice_cmp}
use Rattle.std.specs.FinMap.{slice_cmp-IsAntisymmetric}
use Rattle.std.specs.declared.cmp.Ordering.TheVariants.{Less, Equal, Greater}
use Rattle.std.proofs.lemmas.Bool.{and_right, not-true}
use Rattle.std.proofs.lemmas.List.Kept.{IsStrictlySortedBy-filter}
use Rattle.std.proofs.lemmas.Map.Views.{any-filter_same}
use Rattle.graph_types.specs.declared.ids.Mode.{Mode}
use Rattle.graph_types.specs.declared.ids.Mode.TheVariants as mode
use Rattle.graph_types.specs.declared.member.Member.{Member}
use Rattle.graph_types.specs.meaning.Orders.{piece_cmp_total}
use Rattle.graph_types.specs.meaning.Piece.{PieceValue, member_cmp, mode_cmp, piece_cmp}
use Rattle.graph_types.proofs.Members.{member_cmp-IsAntisymmetric, piece_cmp-IsAntisymmetric}
use Rattle.mining_model.specs.meaning.Changes.{same_members, difference}
use Rattle.snapshot_fold.specs.meaning.Pieces.{has_piece, is_same_piece, with_piece, without_piece}
use Rattle.snapshot_fold.specs.meaning.Records.{pieces_of}
use Rattle.snapshot_fold.proofs.Undone.{Ascends}
use Rattle.shared_lemmas.proofs.Ascending.{IsStrictlySortedBy-map}
use Rattle.shared_lemmas.proofs.Booleans.{or_last}
use Rattle.shared_lemmas.proofs.Claims.{all-found, all-kept, all-map, all-map-filter}
use Rattle.shared_lemmas.proofs.Orderings.{same_item}
use Rattle.shared_lemmas.proofs.Sets.{among-insert_key, among-remove_key, same_list, sorted-insert_key, sorted-remove_key}

-- ---- pieces one after another

abbrev pub without_all : List PieceValue → List PieceValue → List PieceValue
without_all held [] = held
without_all held (p ∷ pieces) = without_all (without_piece held p) pieces

abbrev pub with_all : List PieceValue → List PieceValue → List PieceValue
with_all held [] = held
with_all held (p ∷ pieces) = with_all (with_piece held p) pieces

pub ascends-without : (held : List PieceValue) (p : PieceValue) → Ascends held → Ascends (without_piece held p)
ascends-without held p = sorted-remove_key piece_cmp_total piece_cmp-IsAntisymmetric (is_same_piece p) held

pub ascends-with : (held : List PieceValue) (p : PieceValue) → Ascends held → Ascends (with_piece held p)
ascends-with held p = sorted-insert_key piece_cmp_total piece_cmp-IsAntisymmetric p held

pub ascends-without_all : (held pieces : List PieceValue) → Ascends held → Ascends (without_all held pieces)
ascends-without_all held [] s = s
ascends-without_all held (p ∷ pieces) s = ascends-without_all (without_piece held p) pieces (ascends-without held p s)

ascends-with_all : (held pieces : List PieceValue) → Ascends held → Ascends (with_all held pieces)
ascends-with_all held [] s = s
ascends-with_all held (p ∷ pieces) s = ascends-with_all (with_piece held p) pieces (ascends-with held p s)

pub among-without : (held : List PieceValue) (p q : PieceValue) → Ascends held → has_piece (without_piece held p) q ≡ (not (is_same_piece q p) && has_piece held q)
among-without held p q s = among-remove_key piece_cmp_total piece_cmp-IsAntisymmetric p held s q

pub among-with : (held : List PieceValue) (p q : PieceValue) → has_piece (with_piece held p) q ≡ (is_same_piece q p || has_piece held q)
among-with held p q = among-insert_key piece_cmp_total piece_cmp-IsAntisymmetric p held q

not_either : (a b c : Bool) → (not b && (not a && c)) ≡ (not (a || b) && c)
not_either true true c = refl
not_either true false c = refl
not_either false b c = refl

pub among-without_all : (held pieces : List PieceValue) (q : PieceValue) → Ascends held → has_piece (without_all held pieces) q ≡ (not (has_piece pieces q) && has_piece held q)
among-without_all held [] q s = refl
among-without_all held (p ∷ pieces) q s =
    among-without_all (without_piece held p) pieces q (ascends-without held p s)
    ∙ ap (λ b. not (has_piece pieces q) && b) (among-without held p q s)
    ∙ not_either (is_same_piece q p) (has_piece pieces q) (has_piece held q)

among-with_all : (held pieces : List PieceValue) (q : PieceValue) → has_piece (with_all held pieces) q ≡ (has_piece pieces q || has_piece held q)
among-with_all held [] q = refl
among-with_all held (p ∷ pieces) q =
    among-with_all (with_piece held p) pieces q
    ∙ ap (λ b. has_piece pieces q || b) (among-with held p q)
    ∙ or_last (is_same_piece q p) (has_piece pieces q) (has_piece held q)

-- ---- pieces of one mode

module _ (kind : Mode) where
  abbrev piece : List Member → PieceValue
  piece members = record { mode = kind; members = members }

  one_mode : (p q : List Member) → piece_cmp (piece p) (piece q) ≡ slice_cmp member_cmp p q
  one_mode p q = elim kind as (λ k. ordering_then (mode_cmp k k) (slice_cmp member_cmp p q) ≡ slice_cmp member_cmp p q) [ mode.Vertex ↦ refl | mode.Edge ↦ refl ]

  pub ascends-pieces_of : (lists : List (List Member)) → IsStrictlySortedBy (slice_cmp member_cmp) lists → Ascends (pieces_of kind lists)
  ascends-pieces_of lists s = IsStrictlySortedBy-map (slice_cmp member_cmp) piece_cmp piece (λ p q less. one_mode p q ∙ less) lists s

  same_parts : (q : PieceValue) (members : List Member) → is_same_piece q (piece members) ≡ (is_eq (mode_cmp q.mode kind) && same_members q.members members)
  same_parts q members =
      elim (mode_cmp q.mode kind) as (λ o. is_eq (ordering_then o (slice_cmp member_cmp q.members members)) ≡ (is_eq o && same_members q.members members)) [
        | Less ↦ refl
        | Equal ↦ refl
        | Greater ↦ refl
      ]

  -- a piece is among those of a mode where its mode is that one, and its members are among theirs
  among-pieces_of : (lists : List (List Member)) (q : PieceValue) → has_piece (pieces_of kind lists) q ≡ (is_eq (mode_cmp q.mode kind) && list_any (same_members q.members) lists)
  among-pieces_of [] q = sym (and_right (is_eq (mode_cmp q.mode kind)) false refl)
  among-pieces_of (members ∷ lists) q =
      let m = is_eq (mode_cmp q.mode kind) in
      let spread : (m a b : Bool) → ((m && a) || (m && b)) ≡ (m && (a || b)) = elim [ true ↦ λ a b. refl | false ↦ λ a b. refl ] in
      (λ i. same_parts q members i || among-pieces_of lists q i)
      ∙ spread m (same_members q.members members) (list_any (same_members q.members) lists)

  -- the members that are among others are left out
  among-left : (members : List Member) (lists others : List (List Member)) → list_any (same_members members) (difference lists others) ≡ (not (list_any (same_members members) others) && list_any (same_members members) lists)
  among-left members lists others =
      any-filter_same (same_members members) (λ p. not (list_any (same_members p) others)) (not (list_any (same_members members) others))
      (λ p tied. ap (λ x. not (list_any (same_members x) others)) (sym (same_item (slice_cmp-IsAntisymmetric member_cmp-IsAntisymmetric) members p tied))) lists

  changed : (m a b : Bool) → ((m && (not a && b)) || (not (m && (not b && a)) && (m && a))) ≡ (m && b)
  changed false a b = refl
  changed true true true = refl
  changed true true false = refl
  changed true false true = refl
  changed true false false = refl

  module _ (before now : List (List Member)) (before_sorted : IsStrictlySortedBy (slice_cmp member_cmp) before) (now_sorted : IsStrictlySortedBy (slice_cmp member_cmp) now) where
    abbrev went : List PieceValue
    went = pieces_of kind (difference before now)

    abbrev came : List PieceValue
    came = pieces_of kind (difference now before)

    pub went-ascends : Ascends (pieces_of kind (difference before now))
    went-ascends = ascends-pieces_of (difference before now) (IsStrictlySortedBy-filter (slice_cmp member_cmp) (λ p. not (list_any (same_members p) now)) before before_sorted)

    pub came-ascends : Ascends (pieces_of kind (difference now before))
    came-ascends = ascends-pieces_of (difference now before) (IsStrictlySortedBy-filter (slice_cmp member_cmp) (λ p. not (list_any (same_members p) before)) now now_sorted)

    pub went-there : AllByRecursion (λ p. has_piece (pieces_of kind before) p ≡ true) (pieces_of kind (difference before now))
    went-there =
        all-map-filter (λ p. not (list_any (same_members p) now)) (λ p. has_piece (pieces_of kind before) p ≡ true) piece before
        (all-found is_same_piece (λ p. ap is_eq (tied_itself piece_cmp_total p)) (pieces_of kind before))

    pub came-absent : AllByRecursion (λ p. has_piece (without_all (pieces_of kind before) (pieces_of kind (difference before now))) p ≡ false) (pieces_of kind (difference now before))
    came-absent =
        all-map (λ p. not (list_any (same_members p) before) ≡ true) (λ p. has_piece (without_all (pieces_of kind before) went) p ≡ false) piece
        (λ p absent.
        among-without_all (pieces_of kind before) went (piece p) (ascends-pieces_of before before_sorted)
        ∙ and_right (not (has_piece went (piece p))) _ (among-pieces_of before (piece p) ∙ and_right (is_eq (mode_cmp kind kind)) _ (not-true _ absent)))
        (difference now before) (all-kept (λ p. not (list_any (same_members p) before)) now)

    pub changes : with_all (without_all (pieces_of kind before) (pieces_of kind (difference before now))) (pieces_of kind (difference now before)) ≡ pieces_of kind now
    changes =
        same_list piece_cmp_total piece_cmp-IsAntisymmetric _ _
        (ascends-with_all (without_all (pieces_of kind before) went) came (ascends-without_all (pieces_of kind before) went (ascends-pieces_of before before_sorted)))
        (ascends-pieces_of now now_sorted)
        (λ q.
        let m = is_eq (mode_cmp q.mode kind) in
        let a = list_any (same_members q.members) before in
        let b = list_any (same_members q.members) now in
        let went_is : has_piece went q ≡ (m && (not b && a)) = among-pieces_of (difference before now) q ∙ ap (λ x. m && x) (among-left q.members before now) in
        let came_is : has_piece came q ≡ (m && (not a && b)) = among-pieces_of (difference now before) q ∙ ap (λ x. m && x) (among-left q.members now before) in
        among-with_all (without_all (pieces_of kind before) went) came q
        ∙ ap (λ x. has_piece came q || x) (among-without_all (pieces_of kind before) went q (ascends-pieces_of before before_sorted))
        ∙ (λ i. came_is i || (not (went_is i) && among-pieces_of before q i))
        ∙ changed m a b
        ∙ sym (among-pieces_of now q))
