-- Pieces and the slots that hold them.
use Rattle.std.proofs.Common.{◌≡◌, ◌≢◌, ℕ, zero, suc, ◌+◌, ◌-◌, ◌<◌, ◌≤◌, true, not, List, [], ◌∷◌, ◌++◌, length, map, take, drop, get_or, replicate, None, Some, refl, sym, ap, subst, ◌∙◌, arith}
use Rattle.std.specs.List.{All, insert, list_any, slice_get}
use Rattle.std.proofs.lemmas.List.{length-map, drop-replicate}
use Rattle.std.proofs.lemmas.List.Elements.{All-head, All-tail}
use Rattle.std.proofs.lemmas.List.Edits.{length-insert}
use Rattle.std.proofs.Math.Seq.{take-append_seam, drop-append-add}
use Rattle.graph_types.specs.declared.ids.Mode.{Mode}
use Rattle.graph_types.specs.declared.ids.Mode.TheVariants as mode
use Rattle.graph_types.specs.declared.member.Member.{Member}
use Rattle.graph_types.specs.declared.member.Member.TheVariants as member
use Rattle.graph_types.specs.meaning.Piece.{PieceValue, IsPiece, CanJoin, HasLowerFirst, IsOfMode, mode_of, member_eq, most_members, with_joined, with_member}
use Rattle.graph_types.specs.storage.Slots.{slot_of, slots_of, member_in, piece_in, place_from, IsPacked}
use Rattle.graph_types.proofs.Lists.{All-insert, map-insert}
use Rattle.graph_types.proofs.Members.{Found, JoinsAt, place_from-found, sorted-with_member}

member_in-slot_of : (kind : Mode) (m : Member) → mode_of m ≡ kind → member_in kind (slot_of m) ≡ m
member_in-slot_of mode.Vertex (member.Vertex v) e = refl
member_in-slot_of mode.Vertex (member.Edge f) e = absurd (cc)
member_in-slot_of mode.Edge (member.Vertex v) e = absurd (cc)
member_in-slot_of mode.Edge (member.Edge f) e = refl

mode_of-member_in : (kind : Mode) (slot : ℕ × ℕ) → mode_of (member_in kind slot) ≡ kind
mode_of-member_in mode.Vertex slot = refl
mode_of-member_in mode.Edge slot = refl

members_in-slots : (kind : Mode) (members : List Member) → All (IsOfMode kind) members → map (member_in kind) (map slot_of members) ≡ members
members_in-slots kind [] same = refl
members_in-slots kind (m ∷ members) same =
    λ i. member_in-slot_of kind m (All-head (IsOfMode kind) m members same) i ∷ members_in-slots kind members (All-tail (IsOfMode kind) m members same) i

-- the member in the slot at place i
slot_at : (kind : Mode) (members : List Member) (i : ℕ) (slot : ℕ × ℕ) → All (IsOfMode kind) members → All HasLowerFirst members → i < length members → slot ≡ get_or (map slot_of members) i slot → HasLowerFirst (member_in kind slot) × (Some (member_in kind slot) ≡ slice_get members i)
slot_at kind [] i slot same lower h is = absurd (omega (arith, h))
slot_at kind (m ∷ members) zero slot same lower h is =
    let e : member_in kind slot ≡ m = ap (member_in kind) is ∙ member_in-slot_of kind m (All-head (IsOfMode kind) m members same) in
    (subst HasLowerFirst (sym e) (All-head HasLowerFirst m members lower), ap Some e)
slot_at kind (m ∷ members) (suc i) slot same lower h is =
    slot_at kind members i slot (All-tail (IsOfMode kind) m members same) (All-tail HasLowerFirst m members lower) (omega (arith, h)) is

take-slots_of : (members : List Member) → take (length members) (slots_of members) ≡ map slot_of members
take-slots_of members =
    subst (λ n. take n (slots_of members) ≡ map slot_of members) (length-map members slot_of) (take-append_seam (map slot_of members) _)

piece_in-slots_of : (p : PieceValue) → IsPiece p → piece_in p.mode (length p.members) (slots_of p.members) ≡ p
piece_in-slots_of p sound =
    let members = ap (map (member_in p.mode)) (take-slots_of p.members) ∙ members_in-slots p.mode p.members sound.of_mode in
    λ i. record { mode = p.mode; members = members i }

-- the slots of a piece hold it
packed : (p : PieceValue) → IsPiece p → IsPacked p.mode (length p.members) (slots_of p.members)
packed p sound =
    let e = piece_in-slots_of p sound in
    record { sound = subst IsPiece (sym e) sound; len_is = ap (λ q. length q.members) e; slots_are = ap (λ q. slots_of q.members) e }

pub slot_found : (p : PieceValue) (kind : Mode) (i : ℕ) (slot : ℕ × ℕ) (live : List (ℕ × ℕ)) → IsPiece p → kind ≡ p.mode → live ≡ map slot_of p.members → i < length live → slot ≡ get_or live i slot → HasLowerFirst (member_in kind slot) × (Some (member_in kind slot) ≡ slice_get p.members i)
slot_found p kind i slot live sound kind_is live_is within is =
    rw kind_is
    (slot_at p.mode p.members i slot sound.of_mode sound.lower_first (omega (arith, within, ap length live_is, length-map p.members slot_of)) (is ∙ ap (λ slots. get_or slots i slot) live_is))

-- ---- one more member

-- what is known where the search for a place answers this one
pub record Joins (p : PieceValue) (m : Member) (place : ℕ) : Type 0 where
  pub within : place ≤ length p.members
  pub can : CanJoin p m
  pub sound : IsPiece (with_joined p m)
  pub count : length (with_member p.members m) ≡ length p.members + 1
  pub slots : slots_of (with_member p.members m) ≡ insert (take (length p.members) (slots_of p.members)) place (slot_of m) ++ drop (length p.members + 1) (slots_of p.members)

spare_slots : (members : List Member) → drop (length members + 1) (slots_of members) ≡ replicate (most_members - (length members + 1)) (0, 0)
spare_slots members =
    let live = map slot_of members in
    let spare : List (ℕ × ℕ) = replicate (most_members - length members) (0, 0) in
    let past : drop (length live + 1) (live ++ spare) ≡ drop 1 spare = drop-append-add live spare 1 in
    let fewer : most_members - length members - 1 ≡ most_members - (length members + 1) = omega arith in
    subst (λ n. drop (length members + 1) (slots_of members) ≡ replicate n (0, 0)) fewer
    (subst (λ n. drop (n + 1) (slots_of members) ≡ drop 1 spare) (length-map members slot_of) past
    ∙ drop-replicate 1 (most_members - length members) (0, 0))

slots_of-with_member : (members : List Member) (m : Member) (place : ℕ) → with_member members m ≡ insert members place m → length (with_member members m) ≡ length members + 1 → slots_of (with_member members m) ≡ insert (take (length members) (slots_of members)) place (slot_of m) ++ drop (length members + 1) (slots_of members)
slots_of-with_member members m place is count =
    (λ i. map slot_of (is i) ++ replicate (most_members - count i) (0, 0))
    ∙ ap (λ slots. slots ++ replicate (most_members - (length members + 1)) (0, 0)) (map-insert slot_of members place m)
    ∙ (λ i. insert (sym (take-slots_of members) i) place (slot_of m) ++ sym (spare_slots members) i)

joins_at : (p : PieceValue) (m : Member) (place : ℕ) → IsPiece p → IsOfMode p.mode m → HasLowerFirst m → length p.members ≢ most_members → JoinsAt p.members m place → Joins p m place
joins_at p m place sound same lower room at =
    let count : length (with_member p.members m) ≡ length p.members + 1 = ap length at.joined ∙ length-insert p.members place m at.within in
    record {
      within = at.within;
      can = record { same_mode = same; absent = ap not at.absent; room = omega (arith, sound.room, room) };
      sound = record {
        room = omega (arith, sound.room, room, count);
        ascending = sorted-with_member p.members m sound.ascending at.absent;
        of_mode = subst (All (IsOfMode p.mode)) (sym at.joined) (All-insert (IsOfMode p.mode) p.members place m sound.of_mode same);
        lower_first = subst (All HasLowerFirst) (sym at.joined) (All-insert HasLowerFirst p.members place m sound.lower_first lower);
      };
      count = count;
      slots = slots_of-with_member p.members m place at.joined count;
    }

sought : (p : PieceValue) (m : Member) → IsPiece p → IsOfMode p.mode m → Found 0 p.members m (place_from 0 (map slot_of p.members) (slot_of m))
sought p m sound same = place_from-found 0 p.members m sound.ascending (subst (λ kind. All (IsOfMode kind) p.members) (sym same) sound.of_mode)

module _ (p : PieceValue) (slot : ℕ × ℕ) (live : List (ℕ × ℕ)) (sound : IsPiece p) (unused : slot_of (member_in p.mode slot) ≡ slot) (live_is : live ≡ map slot_of p.members) where
  found_there : Found 0 p.members (member_in p.mode slot) (place_from 0 live slot)
  found_there =
      subst (Found 0 p.members (member_in p.mode slot)) (λ i. place_from 0 (sym live_is i) (unused i))
      (sought p (member_in p.mode slot) sound (mode_of-member_in p.mode slot))

  pub joins : (n place : ℕ) → HasLowerFirst (member_in p.mode slot) → n ≡ length p.members → n ≢ most_members → Some place ≡ place_from 0 live slot → Joins p (member_in p.mode slot) place
  joins n place lower n_is room found =
      let at = subst (Found 0 p.members (member_in p.mode slot)) (sym found) found_there in
      let e : at.0 ≡ place = omega (arith, at.1) in
      joins_at p _ place sound (mode_of-member_in p.mode slot) lower (subst (λ k. k ≢ most_members) n_is room) (subst (JoinsAt p.members _) e at.2)

  pub is_there : None ≡ place_from 0 live slot → ¬ (CanJoin p (member_in p.mode slot))
  is_there found can =
      let there : list_any (member_eq (member_in p.mode slot)) p.members ≡ true = subst (Found 0 p.members (member_in p.mode slot)) (sym found) found_there in
      let clash : not true ≡ true = subst (λ b. not b ≡ true) there can.absent in
      absurd (cc)

-- whatever has a piece's fields holds it
holds_as : (q : PieceValue) → IsPiece q → (kind : Mode) (len : ℕ) (slots : List (ℕ × ℕ)) → kind ≡ q.mode → len ≡ length q.members → slots ≡ slots_of q.members → IsPacked kind len slots × (piece_in kind len slots ≡ q)
holds_as q sound kind len slots kind_is len_is slots_are = rw (kind_is, len_is, slots_are) (packed q sound, piece_in-slots_of q sound)

-- the fields with a slot put in hold the piece that was joined
pub packed_joined : (p : PieceValue) (m : Member) (kind : Mode) (len : ℕ) (slots : List (ℕ × ℕ)) (place n : ℕ) (slot : ℕ × ℕ) (new : List (ℕ × ℕ)) → IsPacked kind len slots → piece_in kind len slots ≡ p → Joins p m place → n ≡ length p.members → slot_of m ≡ slot → new ≡ insert (take n slots) place slot ++ drop (n + 1) slots → IsPacked kind (len + 1) new × (piece_in kind (len + 1) new ≡ with_joined p m)
packed_joined p m kind len slots place n slot new held view joins n_is slot_is new_is =
    let slots_are : slots ≡ slots_of p.members = sym held.slots_are ∙ ap (λ q. slots_of q.members) view in
    let len_is : len ≡ length p.members = sym held.len_is ∙ ap (λ q. length q.members) view in
    holds_as (with_joined p m) joins.sound kind (len + 1) new (ap (λ q. q.mode) view) (ap (λ k. k + 1) len_is ∙ sym joins.count)
    (new_is ∙ (λ i. insert (take (n_is i) (slots_are i)) place (sym slot_is i) ++ drop (n_is i + 1) (slots_are i)) ∙ sym joins.slots)
