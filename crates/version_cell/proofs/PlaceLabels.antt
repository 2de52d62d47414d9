-- Places of neighbours, and the edges that lead to them at the floor.
use Rattle.std.proofs.Common.{◌≡◌, ℕ, Bool, true, false, ◌||◌, cond, eqb, Option, None, Some, refl, sym, ap, subst, ◌∙◌, IsTrue}
use Rattle.std.specs.FinMap as map
use Rattle.std.specs.Option.{is_some, option_flatten}
use Rattle.std.specs.Cmp.{nat_cmp_total}
use Rattle.std.specs.Ordering.{eq_by_cmp, nat_cmp}
use Rattle.std.proofs.lemmas.Bool.{eqb-true, false≢true}
use Rattle.version_cell.specs.storage.Places.{HavePlaces, Places, near_at_floor, place_label, with_place}
use Rattle.version_cell.specs.storage.Tracks.{KeepsTracks, Tracks}
use Rattle.version_cell.proofs.Labels.{get-label_map}
use Rattle.shared_lemmas.proofs.FiniteMaps.{contains_key-inserted}
use Rattle.shared_lemmas.proofs.Orderings.{same_item}

present : (o : Option (Option ℕ)) → cond (is_some o) (option_flatten o) None ≡ option_flatten o
present None = refl
present (Some label) = refl

-- the vertices to which an edge leads have its label
pub get-near_at_floor : (places : Places) (w : ℕ) → map.get (near_at_floor places) w ≡ place_label places w
get-near_at_floor places w =
    get-label_map (place_label places) (map.keys places) w
    ∙ ap (λ b. cond b (place_label places w) None) (sym (map.contains_key-keys places w))
    ∙ present (map.get places w)

-- places with the same labels are of the same edges
pub near_at_floor-alike : (p q : Places) → ((w : ℕ) → place_label p w ≡ place_label q w) → near_at_floor p ≡ near_at_floor q
near_at_floor-alike p q alike = map.same_map nat_cmp_total map.nat_cmp-IsAntisymmetric (near_at_floor p) (near_at_floor q) (λ w. get-near_at_floor p w ∙ alike w ∙ sym (get-near_at_floor q w))

pub near_at_floor-empty : near_at_floor map.empty ≡ map.empty
near_at_floor-empty =
    map.same_map nat_cmp_total map.nat_cmp-IsAntisymmetric (near_at_floor map.empty) map.empty
    (λ w. get-near_at_floor map.empty w ∙ ap option_flatten (map.get-empty {X = Option ℕ} nat_cmp w) ∙ sym (map.get-empty {X = ℕ} nat_cmp w))

place_label-insert : (p : Places) (v : ℕ) (label : Option ℕ) (w : ℕ) → place_label (map.insert p v label) w ≡ cond (eq_by_cmp nat_cmp w v) label (place_label p w)
place_label-insert p v label w =
    ap option_flatten (map.get-insert nat_cmp_total p v label w)
    ∙ elim (eq_by_cmp nat_cmp w v) as (λ b. option_flatten (cond b (Some label) (map.get p w)) ≡ cond b label (place_label p w)) [ true ↦ refl | false ↦ refl ]

place_label-remove : (p : Places) (v w : ℕ) → place_label (map.remove p v) w ≡ cond (eq_by_cmp nat_cmp w v) None (place_label p w)
place_label-remove p v w =
    ap option_flatten (map.get-remove nat_cmp_total p v w)
    ∙ elim (eq_by_cmp nat_cmp w v) as (λ b. option_flatten (cond b None (map.get p w)) ≡ cond b None (place_label p w)) [ true ↦ refl | false ↦ refl ]

-- a place with no edge leaves the edges
pub near_at_floor-given : (p : Places) (v : ℕ) → map.get p v ≡ None → near_at_floor (map.insert p v None) ≡ near_at_floor p
near_at_floor-given p v none =
    near_at_floor-alike (map.insert p v None) p (λ w. place_label-insert p v None w ∙ elim (eq_by_cmp nat_cmp w v) as (λ b. eq_by_cmp nat_cmp w v ≡ b → cond b None (place_label p w) ≡ place_label p w) [
      | true ↦ λ same. sym (ap option_flatten (ap (map.get p) (same_item map.nat_cmp-IsAntisymmetric w v same) ∙ none))
      | false ↦ λ _. refl
    ] refl)

-- the label that a place is given is that at its vertex, and the others stay
pub place_label-with_place : (p : Places) (v : ℕ) (label : Option ℕ) (kept : Bool) (w : ℕ) → place_label (with_place p v label kept) w ≡ cond (eq_by_cmp nat_cmp w v) label (place_label p w)
place_label-with_place p v None true w = place_label-insert p v None w
place_label-with_place p v None false w = place_label-remove p v w
place_label-with_place p v (Some label) kept w = place_label-insert p v (Some label) w

pub get-placed_apart : (p : Places) (v : ℕ) (label : Option ℕ) (kept : Bool) (w : ℕ) → eq_by_cmp nat_cmp w v ≡ false → map.get (with_place p v label kept) w ≡ map.get p w
get-placed_apart p v None true w apart = map.get-insert nat_cmp_total p v None w ∙ ap (λ b. cond b (Some None) (map.get p w)) apart
get-placed_apart p v None false w apart = map.get-remove nat_cmp_total p v w ∙ ap (λ b. cond b None (map.get p w)) apart
get-placed_apart p v (Some label) kept w apart = map.get-insert nat_cmp_total p v (Some label) w ∙ ap (λ b. cond b (Some (Some label)) (map.get p w)) apart

-- a place that is kept is there
pub contains_key-with_place : (p : Places) (v : ℕ) (label : Option ℕ) (kept : Bool) → IsTrue kept → IsTrue (map.contains_key (with_place p v label kept) v)
contains_key-with_place p v None true is = contains_key-inserted nat_cmp_total p v None
contains_key-with_place p v None false is = absurd (false≢true is)
contains_key-with_place p v (Some label) kept is = contains_key-inserted nat_cmp_total p v (Some label)

pub HavePlaces-none : {X : Type 0} (near : map.FinMap nat_cmp X) (places : Places) → near ≡ map.empty → HavePlaces near places
HavePlaces-none near places none w has = absurd (false≢true (sym (ap (λ m. is_some (map.get m w)) none ∙ ap is_some (map.get-empty nat_cmp w)) ∙ has))

-- to note a change where there are changes takes no place
pub HavePlaces-insert : {X : Type 0} (near : map.FinMap nat_cmp X) (places : Places) (v : ℕ) (x : X) →
    IsTrue (map.contains_key near v) → HavePlaces near places → HavePlaces (map.insert near v x) places
HavePlaces-insert near places v x there have w has =
    elim (eq_by_cmp nat_cmp w v) as (λ b. eq_by_cmp nat_cmp w v ≡ b → IsTrue (is_some (cond b (Some x) (map.get near w))) → IsTrue (map.contains_key places w)) [
      | true ↦ λ same _. subst (λ u. IsTrue (map.contains_key places u)) (sym (same_item map.nat_cmp-IsAntisymmetric w v same)) (have v there)
      | false ↦ λ _ was. have w was
    ] refl (sym (ap is_some (map.get-insert nat_cmp_total near v x w)) ∙ has)

either : (a b : Bool) (P : Type 0) → (IsTrue a → P) → (IsTrue b → P) → IsTrue (a || b) → P
either true b P first second has = first refl
either false b P first second has = second has

-- a list more, at a vertex that has a place
pub HavePlaces-kept : (old new : Tracks) (places : Places) (v : ℕ) → KeepsTracks old new v → IsTrue (map.contains_key places v) → HavePlaces old places → HavePlaces new places
HavePlaces-kept old new places v keeps there have w has =
    either (map.contains_key old w) (eqb w v) (IsTrue (map.contains_key places w)) (have w)
    (λ same. subst (λ u. IsTrue (map.contains_key places u)) (sym (eqb-true w v same)) there) (keeps.keys w has)
