-- What a group of updates changes at the vertices of a shard.
use Rattle.std.proofs.Common.{◌≡◌, ◌%◌, ℕ, Bool, true, false, cond, eqb, eq-eqb, not, List, [], ◌∷◌, map as mapped, filter, Option, None, Some, refl, sym, ap, subst, ◌∙◌}
use Rattle.std.specs.FinMap as map
use Rattle.std.specs.List.{AllByRecursion}
use Rattle.std.specs.List.Sorted.{IsStrictlySortedBy}
use Rattle.std.specs.Option.{option_eq}
use Rattle.std.specs.Ordering.{nat_cmp}
use Rattle.std.specs.declared.cmp.Ordering.TheVariants.{Less}
use Rattle.std.proofs.lemmas.Bool.{eqb-true, false≢true}
use Rattle.std.proofs.lemmas.List.Kept.{IsStrictlySortedBy-filter}
use Rattle.graph_types.specs.meaning.Graph.{Graph}
use Rattle.graph_types.specs.meaning.Simple.{IsSimple}
use Rattle.shared_lemmas.specs.meaning.Membership.{IsIn}
use Rattle.shared_lemmas.proofs.Claims.{all-kept, all-map-filter, all-weaker}
use Rattle.shared_lemmas.proofs.FiniteMaps.{keys_rise}
use Rattle.shared_lemmas.proofs.Membership.{IsIn-filter, IsIn-from_filter, IsIn-from_map, IsIn-map}
use Rattle.update_rules.specs.declared.changes.Change.{Change}
use Rattle.update_rules.specs.meaning.Parts.{change_of, change_to, changed_places, changes_between, part_of, shard_of, vertex_of}
use Rattle.update_rules.specs.meaning.Places.{Place, entry_at, entry_differs, place_cmp, places_among}
use Rattle.update_rules.proofs.Differing.{Lists-changed_places}
use Rattle.update_rules.proofs.Lookups.{in-from_member}
use Rattle.update_rules.proofs.Places.{place_cmp_total, place_cmp-IsAntisymmetric, places_among_rise, same_option}
use Rattle.mining_model.specs.meaning.NetChange.{keys_of_either}
use Rattle.shard_state.specs.meaning.Shards.{label_of, place_of}

place-change_of : (v : ℕ) (to now : Option ℕ) → place_of (change_of v to now) ≡ (v, to)
place-change_of v None now = refl
place-change_of v (Some w) now = refl

pub place-change_to : (p : Place) (now : Option ℕ) → place_of (change_to p now) ≡ p
place-change_to p now = place-change_of p.0 p.1 now

label-change_of : (v : ℕ) (to now : Option ℕ) → label_of (change_of v to now) ≡ now
label-change_of v None now = refl
label-change_of v (Some w) now = refl

pub label-change_to : (p : Place) (now : Option ℕ) → label_of (change_to p now) ≡ now
label-change_to p now = label-change_of p.0 p.1 now

vertex-change_of : (v : ℕ) (to now : Option ℕ) → vertex_of (change_of v to now) ≡ v
vertex-change_of v None now = refl
vertex-change_of v (Some w) now = refl

-- places stay in order where some are left out
pub sorted-map-filter : {A B : Type 0} (R : B → B → _) (f : A → B) (keeps : A → Bool) (xs : List A) → IsStrictlySortedBy R (mapped f xs) → IsStrictlySortedBy R (mapped f (filter keeps xs))
unfolding IsStrictlySortedBy
sorted-map-filter R f keeps [] sorted = tt
sorted-map-filter R f keeps (x ∷ xs) sorted =
    elim (keeps x) as (λ b. IsStrictlySortedBy R (mapped f (cond b (x ∷ filter keeps xs) (filter keeps xs)))) [
      | true ↦ (all-map-filter keeps (λ y. R (f x) y ≡ Less) f xs sorted.0, sorted-map-filter R f keeps xs sorted.1)
      | false ↦ sorted-map-filter R f keeps xs sorted.1
    ]

module _ (before after : Graph) where
  abbrev to_change : Place → Change
  to_change p = change_to p (entry_at after p)

  places-back : (ps : List Place) → mapped place_of (mapped to_change ps) ≡ ps
  places-back [] = refl
  places-back (p ∷ ps) = λ i. place-change_to p (entry_at after p) i ∷ places-back ps i

  changed-ascend : IsStrictlySortedBy place_cmp (changed_places before after)
  changed-ascend =
      IsStrictlySortedBy-filter place_cmp (entry_differs before after) (places_among (keys_of_either before.labels after.labels))
      (places_among_rise (keys_of_either before.labels after.labels) (keys_rise (map.from_entries {R = nat_cmp} _)))

  module _ (shards number : ℕ) where
    -- they come in order, at vertices of the shard
    pub part-ascends : IsStrictlySortedBy place_cmp (mapped place_of (part_of shards (changes_between before after) number).changes)
    part-ascends =
        sorted-map-filter place_cmp place_of (λ change. eqb (shard_of shards change) number) (changes_between before after)
        (subst (IsStrictlySortedBy place_cmp) (sym (places-back (changed_places before after))) changed-ascend)

    pub part-own : AllByRecursion (λ change. vertex_of change % shards ≡ number) (part_of shards (changes_between before after) number).changes
    part-own =
        all-weaker (λ change. eqb (shard_of shards change) number ≡ true) (λ change. vertex_of change % shards ≡ number) (λ change passes. eqb-true (shard_of shards change) number passes)
        (part_of shards (changes_between before after) number).changes (all-kept (λ change. eqb (shard_of shards change) number) (changes_between before after))

    -- each is at a place where the graphs differ
    pub part-differs : (change : Change) → IsIn change (part_of shards (changes_between before after) number).changes → entry_differs before after (place_of change) ≡ true
    part-differs change among =
        let listed = (IsIn-from_filter (λ c. eqb (shard_of shards c) number) change (changes_between before after) among).0 in
        let from = IsIn-from_map to_change change (changed_places before after) listed in
        let differs = (IsIn-from_filter (entry_differs before after) from.0 (places_among (keys_of_either before.labels after.labels)) from.1).1 in
        ap (entry_differs before after) (ap place_of from.2 ∙ place-change_to from.0 (entry_at after from.0)) ∙ differs

    -- and each such place of the shard has its change
    pub part-complete : IsSimple before → IsSimple after → (p : Place) → p.0 % shards ≡ number → entry_differs before after p ≡ true → IsIn (change_to p (entry_at after p)) (part_of shards (changes_between before after) number).changes
    part-complete simple_before simple_after p own differs =
        let places = Lists-changed_places before after simple_before simple_after in
        let place = in-from_member place_cmp_total place_cmp-IsAntisymmetric p (changed_places before after) (places.members p ∙ differs) in
        IsIn-filter (λ c. eqb (shard_of shards c) number) (to_change p) (changes_between before after) (IsIn-map to_change p (changed_places before after) place)
        (eq-eqb (shard_of shards (to_change p)) number (ap (λ v. v % shards) (vertex-change_of p.0 p.1 (entry_at after p)) ∙ own))

  -- elsewhere the same stands in both
  pub same-entry : (p : Place) → entry_differs before after p ≡ false → entry_at before p ≡ entry_at after p
  same-entry p same =
      same_option (entry_at before p) (entry_at after p)
      (elim (option_eq eqb (entry_at before p) (entry_at after p)) as (λ b. not b ≡ false → b ≡ true) [ true ↦ λ _. refl | false ↦ λ other. absurd (false≢true (sym other)) ] same)
