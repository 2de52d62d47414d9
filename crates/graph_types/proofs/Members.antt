-- The orders of members and of pieces, and what it is to put one more into an ascending list of them.
use Rattle.std.proofs.Common.{◌≡◌, ◌↔◌, ℕ, suc, ◌+◌, ◌≤◌, true, false, ◌||◌, IsTrue, List, [], ◌∷◌, ◌++◌, length, map, Option, None, Some, MatchOption, refl, sym, ap, subst, ◌∙◌, arith, if◌then◌else◌}
use Rattle.std.specs.BTreeSet.{insert_key}
use Rattle.std.specs.List.{All, AllByRecursion, insert, list_any}
use Rattle.std.specs.List.Sorted.{IsStrictlySortedBy}
use Rattle.std.specs.Ordering.{nat_cmp, is_eq, is_lt, ordering_then, match_ordering}
use Rattle.std.specs.Cmp.Lexicographic.{slice_cmp}
use Rattle.std.specs.FinMap.{IsAntisymmetric, nat_cmp-IsAntisymmetric, slice_cmp-IsAntisymmetric}
use Rattle.std.specs.Cmp.{tied_itself}
use Rattle.std.specs.declared.cmp.Ordering.TheVariants.{Less, Equal, Greater}
use Rattle.std.proofs.lemmas.List.Elements.{All-head, All-tail}
use Rattle.std.proofs.lemmas.Map.Keys.{sorted_head, sorted_tail}
use Rattle.graph_types.specs.declared.ids.Mode.{Mode}
use Rattle.graph_types.specs.declared.ids.Mode.TheVariants as mode
use Rattle.graph_types.specs.declared.member.Member.{Member}
use Rattle.graph_types.specs.declared.member.Member.TheVariants as member
use Rattle.graph_types.specs.meaning.Graph.{pair_cmp}
use Rattle.graph_types.specs.meaning.Piece.{PieceValue, IsPiece, IsOfMode, mode_of, mode_cmp, piece_cmp, member_cmp, member_eq, with_member}
use Rattle.graph_types.specs.storage.Slots.{slot_of, place_from}
use Rattle.graph_types.specs.meaning.Orders.{member_cmp_total, piece_cmp_total}
use Rattle.graph_types.proofs.Graph.{pair_cmp-IsAntisymmetric}
use Rattle.shared_lemmas.proofs.Ascending.{all-below}
use Rattle.shared_lemmas.proofs.Orderings.{Greater-turned, same_item, then_tie}
use Rattle.shared_lemmas.proofs.Sets.{absent_below, sorted-insert_key}

member_cmp-slots : (x y : Member) → mode_of x ≡ mode_of y → member_cmp x y ≡ pair_cmp (slot_of x) (slot_of y)
member_cmp-slots (member.Vertex v) (member.Vertex w) e = then_tie (nat_cmp v w)
member_cmp-slots (member.Vertex v) (member.Edge f) e = absurd (cc)
member_cmp-slots (member.Edge f) (member.Vertex v) e = absurd (cc)
member_cmp-slots (member.Edge e) (member.Edge f) _ = refl

pub member_cmp-IsAntisymmetric : IsAntisymmetric member_cmp
member_cmp-IsAntisymmetric (member.Vertex v) (member.Vertex w) tied = ap (λ x. member.Vertex x) (nat_cmp-IsAntisymmetric v w tied)
member_cmp-IsAntisymmetric (member.Vertex v) (member.Edge f) tied = absurd (cc)
member_cmp-IsAntisymmetric (member.Edge e) (member.Vertex w) tied = absurd (cc)
member_cmp-IsAntisymmetric (member.Edge e) (member.Edge f) tied = ap (λ x. member.Edge x) (pair_cmp-IsAntisymmetric e f tied)

mode_cmp-IsAntisymmetric : IsAntisymmetric mode_cmp
mode_cmp-IsAntisymmetric mode.Vertex mode.Vertex tied = refl
mode_cmp-IsAntisymmetric mode.Vertex mode.Edge tied = absurd (cc)
mode_cmp-IsAntisymmetric mode.Edge mode.Vertex tied = absurd (cc)
mode_cmp-IsAntisymmetric mode.Edge mode.Edge tied = refl

-- pieces that tie are equal
pub piece_cmp-IsAntisymmetric : IsAntisymmetric piece_cmp
piece_cmp-IsAntisymmetric p q tied =
    elim (mode_cmp p.mode q.mode) as (λ r. mode_cmp p.mode q.mode ≡ r → ordering_then r (slice_cmp member_cmp p.members q.members) ≡ Equal → p ≡ q) [
      | Less ↦ λ _ t. cc
      | Equal ↦ λ modes members i. record {
        mode = mode_cmp-IsAntisymmetric p.mode q.mode modes i;
        members = slice_cmp-IsAntisymmetric member_cmp-IsAntisymmetric p.members q.members members i;
      }
      | Greater ↦ λ _ t. cc
    ] refl tied

pub is_eq-piece_cmp : (p q : PieceValue) → IsTrue (is_eq (piece_cmp p q)) ↔ (p ≡ q)
is_eq-piece_cmp p q = (
  λ tied. same_item piece_cmp-IsAntisymmetric p q tied,
  λ same. ap is_eq (subst (λ r. piece_cmp p r ≡ Equal) same (tied_itself piece_cmp_total p)),
)

slice_cmp-slots : (kind : Mode) (ms ns : List Member) → All (IsOfMode kind) ms → All (IsOfMode kind) ns → slice_cmp pair_cmp (map slot_of ms) (map slot_of ns) ≡ slice_cmp member_cmp ms ns
slice_cmp-slots kind [] [] all_ms all_ns = refl
slice_cmp-slots kind [] (n ∷ ns) all_ms all_ns = refl
slice_cmp-slots kind (m ∷ ms) [] all_ms all_ns = refl
slice_cmp-slots kind (m ∷ ms) (n ∷ ns) all_ms all_ns =
    let same : mode_of m ≡ mode_of n = All-head (IsOfMode kind) m ms all_ms ∙ sym (All-head (IsOfMode kind) n ns all_ns) in
    let rest = slice_cmp-slots kind ms ns (All-tail (IsOfMode kind) m ms all_ms) (All-tail (IsOfMode kind) n ns all_ns) in
    λ i. ordering_then (sym (member_cmp-slots m n same) i) (rest i)

-- to compare pieces by their slots
pub piece_cmp-slots : (p q : PieceValue) → IsPiece p → IsPiece q → ordering_then (mode_cmp p.mode q.mode) (slice_cmp pair_cmp (map slot_of p.members) (map slot_of q.members)) ≡ piece_cmp p q
piece_cmp-slots p q p_is q_is =
    elim (mode_cmp p.mode q.mode) as (λ r. mode_cmp p.mode q.mode ≡ r → ordering_then r (slice_cmp pair_cmp (map slot_of p.members) (map slot_of q.members)) ≡ ordering_then r (slice_cmp member_cmp p.members q.members)) [
      | Less ↦ λ _. refl
      | Equal ↦ λ modes. slice_cmp-slots q.mode p.members q.members (subst (λ kind. All (IsOfMode kind) p.members) (mode_cmp-IsAntisymmetric p.mode q.mode modes) p_is.of_mode) q_is.of_mode
      | Greater ↦ λ _. refl
    ] refl

-- x is not among the members, and this is its place
pub record JoinsAt (members : List Member) (x : Member) (place : ℕ) : Type 0 where
  pub within : place ≤ length members
  pub absent : list_any (member_eq x) members ≡ false
  pub joined : with_member members x ≡ insert members place x

-- what it says that the search for x, begun at n, found this
abbrev pub Found : ℕ → List Member → Member → Option ℕ → Type 0
Found n members x found = MatchOption found (list_any (member_eq x) members ≡ true) (λ place. (i : ℕ) × (place ≡ n + i) × JoinsAt members x i)

found_later : (n : ℕ) (y : Member) (members : List Member) (x : Member) → member_cmp x y ≡ Greater → (found : Option ℕ) → Found (suc n) members x found → Found n (y ∷ members) x found
found_later n y members x above None h = ap (λ r. is_eq r || list_any (member_eq x) members) above ∙ h
found_later n y members x above (Some place) (i, at, joins) = (
  suc i,
  omega arith,
  record {
    within = omega (arith, joins.within);
    absent = ap (λ r. is_eq r || list_any (member_eq x) members) above ∙ joins.absent;
    joined = ap (λ r. if is_lt r then x ∷ y ∷ members else y ∷ with_member members x) above ∙ ap (λ rest. y ∷ rest) joins.joined;
  },
)

pub place_from-found : (n : ℕ) (members : List Member) (x : Member) → IsStrictlySortedBy member_cmp members → All (IsOfMode (mode_of x)) members → Found n members x (place_from n (map slot_of members) (slot_of x))
place_from-found n [] x ascending same = (0, omega arith, record { within = omega arith; absent = refl; joined = refl })
place_from-found n (y ∷ members) x ascending same =
    let rest = place_from (suc n) (map slot_of members) (slot_of x) in
    subst (λ r. Found n (y ∷ members) x (match_ordering r (Some n) None rest)) (member_cmp-slots x y (sym (All-head (IsOfMode (mode_of x)) y members same)))
    (elim (member_cmp x y) as (λ r. member_cmp x y ≡ r → Found n (y ∷ members) x (match_ordering r (Some n) None rest)) [
      | Less ↦ λ below. (
        0,
        omega arith,
        record {
          within = omega arith;
          absent = absent_below member_cmp x (y ∷ members) (below, all-below member_cmp_total x y members below (sorted_head member_cmp y members ascending));
          joined = ap (λ r. if is_lt r then x ∷ y ∷ members else y ∷ with_member members x) below;
        },
      )
      | Equal ↦ λ tied. ap (λ r. is_eq r || list_any (member_eq x) members) tied
      | Greater ↦ λ above. found_later n y members x above rest (place_from-found (suc n) members x (sorted_tail member_cmp y members ascending) (All-tail (IsOfMode (mode_of x)) y members same))
    ] refl)

-- to put a member that is not there before the first above it is to insert it as a key
with_member-is : (members : List Member) (x : Member) → list_any (member_eq x) members ≡ false → with_member members x ≡ insert_key member_cmp members x
with_member-is [] x absent = refl
with_member-is (y ∷ members) x absent =
    elim (member_cmp x y) as (λ r. (is_eq r || list_any (member_eq x) members) ≡ false → (if is_lt r then x ∷ y ∷ members else y ∷ with_member members x) ≡ match_ordering r (x ∷ y ∷ members) (y ∷ members) (y ∷ insert_key member_cmp members x)) [
      | Less ↦ λ _. refl
      | Equal ↦ λ e. absurd (cc)
      | Greater ↦ λ rest. ap (λ more. y ∷ more) (with_member-is members x rest)
    ] absent

pub sorted-with_member : (members : List Member) (x : Member) → IsStrictlySortedBy member_cmp members → list_any (member_eq x) members ≡ false → IsStrictlySortedBy member_cmp (with_member members x)
sorted-with_member members x ascending absent =
    subst (IsStrictlySortedBy member_cmp) (sym (with_member-is members x absent)) (sorted-insert_key member_cmp_total member_cmp-IsAntisymmetric x members ascending)

-- a member above all is put after them
pub with_member-end : (members : List Member) (m : Member) → AllByRecursion (λ x. member_cmp x m ≡ Less) members → with_member members m ≡ members ++ m ∷ []
with_member-end [] m below = refl
with_member-end (x ∷ members) m below =
    ap (λ r. if is_lt r then m ∷ x ∷ members else x ∷ with_member members m) (Greater-turned member_cmp_total x m below.0)
    ∙ ap (λ rest. x ∷ rest) (with_member-end members m below.1)
