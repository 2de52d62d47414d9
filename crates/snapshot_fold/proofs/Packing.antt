-- Pieces of few members, and the slots that hold them.
use Rattle.std.proofs.Common.{◌≡◌, ℕ, ◌+◌, ◌<◌, not, List, [], ◌∷◌, ◌++◌, length, map, take, drop, get_or, set, Option, None, Some, refl, sym, ap, subst, ◌∙◌, arith}
use Rattle.std.specs.List.{All, AllByRecursion, slice_get}
use Rattle.std.specs.Prelude.{SomeIff}
use Rattle.std.specs.List.Sorted.{IsStrictlySortedBy}
use Rattle.std.specs.declared.cmp.Ordering.TheVariants.{Less}
use Rattle.std.proofs.lemmas.List.{map_push, take_more, take_more_set, take-append-drop, length-take}
use Rattle.std.proofs.lemmas.List.Elements.{All-head, All-tail}
use Rattle.std.proofs.lemmas.Option.{get_or_from_slice_get, slice_get-get_or, slice_get_within}
use Rattle.graph_types.specs.declared.ids.Mode.{Mode}
use Rattle.graph_types.specs.declared.ids.Mode.TheVariants as mode
use Rattle.graph_types.specs.declared.member.Member.{Member}
use Rattle.graph_types.specs.declared.member.Member.TheVariants as member
use Rattle.graph_types.specs.meaning.Orders.{member_cmp_total}
use Rattle.graph_types.specs.meaning.Piece.{PieceValue, IsPiece, CanJoin, HasLowerFirst, IsOfMode, member_cmp, mode_of, with_joined}
use Rattle.graph_types.specs.storage.Slots.{member_in, piece_in, slot_of}
use Rattle.graph_types.proofs.Members.{with_member-end}
use Rattle.graph_types.proofs.Packed.{slot_found}
use Rattle.shared_lemmas.proofs.Ascending.{absent_above, sorted-parts}
use Rattle.shared_lemmas.proofs.Claims.{all-weaker}
use Rattle.snapshot_fold.specs.storage.Packed.{HasFew, HoldsFew}

member_in-slot_of : (kind : Mode) (m : Member) → mode_of m ≡ kind → member_in kind (slot_of m) ≡ m
member_in-slot_of mode.Vertex (member.Vertex v) e = refl
member_in-slot_of mode.Vertex (member.Edge f) e = absurd (cc)
member_in-slot_of mode.Edge (member.Vertex v) e = absurd (cc)
member_in-slot_of mode.Edge (member.Edge f) e = refl

mode_of-member_in : (kind : Mode) (slot : ℕ × ℕ) → mode_of (member_in kind slot) ≡ kind
mode_of-member_in mode.Vertex slot = refl
mode_of-member_in mode.Edge slot = refl

members_in-slots : (kind : Mode) (members : List Member) → All (IsOfMode kind) members → map (member_in kind) (map slot_of members) ≡ members
members_in-slots kind [] same = refl
members_in-slots kind (m ∷ members) same =
    λ i. member_in-slot_of kind m (All-head (IsOfMode kind) m members same) i ∷ members_in-slots kind members (All-tail (IsOfMode kind) m members same) i

-- slots that begin with those of a piece of few members hold it
pub packs : (p : PieceValue) (kind : Mode) (len : ℕ) (slots : List (ℕ × ℕ)) → IsPiece p → HasFew p → kind ≡ p.mode → len ≡ length p.members → take len slots ≡ map slot_of p.members → HoldsFew kind len slots × (piece_in kind len slots ≡ p)
packs p kind len slots sound few kind_is len_is live =
    let members : map (member_in kind) (take len slots) ≡ p.members =
    ap (map (member_in kind)) live ∙ ap (λ k. map (member_in k) (map slot_of p.members)) kind_is ∙ members_in-slots p.mode p.members sound.of_mode in
    let same : piece_in kind len slots ≡ p = λ i. record { mode = kind_is i; members = members i } in (
      record {
        sound = subst IsPiece (sym same) sound;
        few = subst HasFew (sym same) few;
        len_is = ap (λ q. length q.members) same ∙ sym len_is;
        live = live ∙ ap (λ q. map slot_of q.members) (sym same);
      },
      same,
    )

-- one slot more
pub fills : (members : List Member) (slots : List (ℕ × ℕ)) (i : ℕ) (m : Member) (slot : ℕ × ℕ) → slice_get members i ≡ Some m → slot ≡ slot_of m → i < length slots → take i slots ≡ map slot_of (take i members) → take (i + 1) (set slots i slot) ≡ map slot_of (take (i + 1) members)
fills members slots i m slot found is within live =
    take_more_set slots i slot within
    ∙ (λ j. live j ++ is j ∷ [])
    ∙ sym (map_push slot_of (take i members) m)
    ∙ ap (λ x. map slot_of (take i members ++ x ∷ [])) (sym (get_or_from_slice_get members i m m found))
    ∙ ap (map slot_of) (sym (take_more members i m (slice_get_within members i m found)))

pub found_itself : {A : Type 0} (xs : List A) (i : ℕ) (d : A) → i < length xs → get_or xs i d ≡ get_or xs i (get_or xs i d)
found_itself xs i d within = sym (get_or_from_slice_get xs i (get_or xs i d) (get_or xs i d) (slice_get-get_or xs i d within))

-- what is there where it may be
pub there_if : {A C : Type 0} (found : Option A) (value : A) → SomeIff found C value → C → found ≡ Some value
there_if None value nowhere can = absurd (nowhere can)
there_if (Some x) value found can = ap Some found.1

-- the member in the next slot joins those before it
module _ (p : PieceValue) (i : ℕ) (slot : ℕ × ℕ) (live : List (ℕ × ℕ)) (sound : IsPiece p) (live_is : live ≡ map slot_of p.members) (within : i < length live) (is : slot ≡ get_or live i slot) where
  found : HasLowerFirst (member_in p.mode slot) × (Some (member_in p.mode slot) ≡ slice_get p.members i)
  found = slot_found p p.mode i slot live sound refl live_is within is

  pub lower_first : HasLowerFirst (member_in p.mode slot)
  lower_first = found.0

  one_more : take (i + 1) p.members ≡ take i p.members ++ member_in p.mode slot ∷ []
  one_more =
      let at = sym found.1 in
      take_more p.members i (member_in p.mode slot) (slice_get_within p.members i _ at)
      ∙ ap (λ m. take i p.members ++ m ∷ []) (get_or_from_slice_get p.members i _ _ at)

  all_below : AllByRecursion (λ x. member_cmp x (member_in p.mode slot) ≡ Less) (take i p.members)
  all_below =
      let whole = sorted-parts member_cmp (take (i + 1) p.members) (drop (i + 1) p.members) (subst (IsStrictlySortedBy member_cmp) (sym (take-append-drop (i + 1) p.members)) sound.ascending) in
      let parts = sorted-parts member_cmp (take i p.members) (member_in p.mode slot ∷ []) (subst (IsStrictlySortedBy member_cmp) one_more whole.front) in
      all-weaker (λ x. AllByRecursion (λ y. member_cmp x y ≡ Less) (member_in p.mode slot ∷ [])) (λ x. member_cmp x (member_in p.mode slot) ≡ Less) (λ x less. less.0) (take i p.members) parts.apart

  joins_first : CanJoin (record { mode = p.mode; members = take i p.members }) (member_in p.mode slot)
  joins_first = record {
    same_mode = mode_of-member_in p.mode slot;
    absent = ap not (absent_above member_cmp_total (member_in p.mode slot) (take i p.members) all_below);
    room = omega (arith, sound.room, slice_get_within p.members i _ (sym found.1), length-take i p.members);
  }

pub next_joins : (p : PieceValue) (kind : Mode) (i : ℕ) (d : ℕ × ℕ) (live : List (ℕ × ℕ)) (so_far : PieceValue) (m : Member) (found : Option PieceValue) → IsPiece p → kind ≡ p.mode → live ≡ map slot_of p.members → i < length live → so_far ≡ record { mode = p.mode; members = take i p.members } → m ≡ member_in kind (get_or live i d)
    → SomeIff found (CanJoin so_far m) (with_joined so_far m) → found ≡ Some (record { mode = p.mode; members = take (i + 1) p.members })
next_joins p kind i d live so_far m found sound kind_is live_is within so_far_is m_is gives =
    let slot : ℕ × ℕ = get_or live i d in
    let is = found_itself live i d within in
    let next : Member = member_in p.mode slot in
    let m_next : m ≡ next = m_is ∙ ap (λ k. member_in k slot) kind_is in
    let can : CanJoin so_far m = subst (CanJoin so_far) (sym m_next) (subst (λ q. CanJoin q next) (sym so_far_is) (joins_first p i slot live sound live_is within is)) in
    there_if found (with_joined so_far m) gives can
    ∙ (λ j. Some (with_joined (so_far_is j) (m_next j)))
    ∙ (λ j. Some (record { mode = p.mode; members = (with_member-end (take i p.members) next (all_below p i slot live sound live_is within is) ∙ sym (one_more p i slot live sound live_is within is)) j }))
