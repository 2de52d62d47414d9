-- The places at which two simple graphs differ.
use Rattle.std.proofs.Common.{◌≡◌, ◌⊎◌, ⊎_elim, ℕ, Bool, true, false, not, cond, eqb, IsTrue, List, [], ◌++◌, map, filter, Option, None, Some, min, max, unwrap_or, refl, sym, ap, subst, ◌∙◌, inl, inr, arith}
use Rattle.std.specs.Cmp.{nat_cmp_total}
use Rattle.std.specs.FinMap as finite
use Rattle.std.specs.List.{AllByRecursion}
use Rattle.std.specs.List.Sorted.{IsStrictlySortedBy}
use Rattle.std.specs.Map.{keys_of, lookup}
use Rattle.std.specs.BTreeMap.{BTreeMap, get, is_at}
use Rattle.std.specs.Option.{is_some, option_eq}
use Rattle.std.specs.Ordering.{nat_cmp}
use Rattle.std.proofs.lemmas.Bool.{false≢true, or_left, or_right}
use Rattle.std.proofs.lemmas.List.{append-nil}
use Rattle.graph_types.specs.meaning.Graph.{Graph, HasEnds, has_vertex, edge_between, label_between}
use Rattle.graph_types.specs.meaning.Simple.{IsSimple}
use Rattle.graph_types.specs.storage.Adjacency.{Lists}
use Rattle.graph_types.proofs.Listing.{same_list}
use Rattle.mining_model.specs.meaning.NetChange.{keys_of_either}
use Rattle.mining_model.proofs.Differences.{contains-either}
use Rattle.shared_lemmas.specs.meaning.Membership.{IsIn}
use Rattle.shared_lemmas.proofs.Claims.{all-weaker}
use Rattle.shared_lemmas.proofs.FiniteMaps.{IsIn-keys, keys_rise}
use Rattle.update_rules.specs.meaning.Places.{Place, place_cmp, entry_at, entry_differs, places_among}
use Rattle.update_rules.specs.calls.Overlays.{IsOverlaid}
use Rattle.update_rules.specs.meaning.Parts.{changed_places, changes_between, change_to}
use Rattle.update_rules.proofs.Lookups.{Lists-passing, member-from_in, member-lookup, own-lookups, map-filter-entries}
use Rattle.update_rules.proofs.Places.{place_cmp_total, place_cmp-IsAntisymmetric, places_among_rise, IsIn-label, IsIn-near, option_eq-itself, option_eq-turned}

-- an end of an edge that is there is one of its two

end_first : (g : Graph) (v w : ℕ) → HasEnds g (edge_between v w) → IsTrue (has_vertex g v)
end_first g v w ends =
    elim (min-cases v w) as (λ _. IsTrue (has_vertex g v)) [
      | inl e ↦ subst (λ x. IsTrue (has_vertex g x)) e ends.low
      | inr e ↦ subst (λ x. IsTrue (has_vertex g x)) e ends.high
    ]
  where
    min-cases : (x y : ℕ) → (min x y ≡ x) ⊎ (max x y ≡ x)
    min-cases x y = grind arith

pub end_second : (g : Graph) (v w : ℕ) → HasEnds g (edge_between v w) → IsTrue (has_vertex g w)
end_second g v w ends =
    elim (max-cases v w) as (λ _. IsTrue (has_vertex g w)) [
      | inl e ↦ subst (λ x. IsTrue (has_vertex g x)) e ends.low
      | inr e ↦ subst (λ x. IsTrue (has_vertex g x)) e ends.high
    ]
  where
    max-cases : (x y : ℕ) → (min x y ≡ y) ⊎ (max x y ≡ y)
    max-cases x y = grind arith

pub some_side : (a b : Option ℕ) → IsTrue (not (option_eq eqb a b)) → IsTrue (is_some a) ⊎ IsTrue (is_some b)
some_side None None d = absurd (false≢true d)
some_side None (Some y) d = inr refl
some_side (Some x) b d = inl refl

some_between : (same : Bool) (found : Option ℕ) → IsTrue (is_some (cond same None found)) → IsTrue (is_some found)
some_between true found h = absurd (false≢true h)
some_between false found h = h

module _ (before after : Graph) where
  abbrev vertices : List ℕ
  vertices = keys_of_either before.labels after.labels

  of_before : (v : ℕ) → IsTrue (has_vertex before v) → IsIn v vertices
  of_before v has =
      IsIn-keys nat_cmp_total (finite.from_entries (finite.entries before.labels ++ finite.entries after.labels)) finite.nat_cmp-IsAntisymmetric v
      (contains-either nat_cmp_total finite.nat_cmp-IsAntisymmetric before.labels after.labels v ∙ or_left _ _ has)

  of_after : (v : ℕ) → IsTrue (has_vertex after v) → IsIn v vertices
  of_after v has =
      IsIn-keys nat_cmp_total (finite.from_entries (finite.entries before.labels ++ finite.entries after.labels)) finite.nat_cmp-IsAntisymmetric v
      (contains-either nat_cmp_total finite.nat_cmp-IsAntisymmetric before.labels after.labels v ∙ or_right _ _ has)

  module _ (simple_before : IsSimple before) (simple_after : IsSimple after) where
    near_there : (v to : ℕ) → IsTrue (is_some (label_between before v to)) ⊎ IsTrue (is_some (label_between after v to)) → IsIn (v, Some to) (places_among vertices)
    near_there v to (inl has) =
        let ends = simple_before.ends (edge_between v to) (some_between (eqb v to) _ has) in
        IsIn-near v to vertices (of_before v (end_first before v to ends)) (of_before to (end_second before v to ends))
    near_there v to (inr has) =
        let ends = simple_after.ends (edge_between v to) (some_between (eqb v to) _ has) in
        IsIn-near v to vertices (of_after v (end_first after v to ends)) (of_after to (end_second after v to ends))

    there : (v : ℕ) (to : Option ℕ) → IsTrue (entry_differs before after (v, to)) → IsIn (v, to) (places_among vertices)
    there v None d = IsIn-label v vertices (⊎_elim (of_before v) (of_after v) (some_side _ _ d))
    there v (Some to) d = near_there v to (some_side _ _ d)

    -- the places that differ are those that are listed
    pub Lists-changed_places : Lists place_cmp (entry_differs before after) (changed_places before after)
    Lists-changed_places =
        Lists-passing place_cmp_total place_cmp-IsAntisymmetric (entry_differs before after) (places_among vertices)
        (places_among_rise vertices (keys_rise (finite.from_entries {R = nat_cmp} (finite.entries before.labels ++ finite.entries after.labels))))
        (λ p d. member-from_in place_cmp_total place_cmp-IsAntisymmetric p (places_among vertices) (there p.0 p.1 d))

-- the map has each entry of one graph that the other has not
module _ (m : BTreeMap Place (Option ℕ)) (ordered : IsStrictlySortedBy place_cmp (keys_of m.entries)) (other own : Graph) (overlaid : IsOverlaid m other own) where
  own_entries : AllByRecursion (λ e. entry_at own e.0 ≡ e.1) m.entries
  own_entries = all-weaker (λ e. lookup (is_at (place_cmp e.0)) m.entries ≡ Some e.1) (λ e. entry_at own e.0 ≡ e.1) (λ e is. overlaid e.0 ∙ ap (λ o. unwrap_or o (entry_at other e.0)) is) m.entries (own-lookups place_cmp_total m.entries ordered)

  same_elsewhere : (p : Place) (o : Option (Option ℕ)) → get place_cmp m p ≡ o → IsTrue (not (option_eq eqb (entry_at own p) (entry_at other p))) → IsTrue (is_some o)
  same_elsewhere p None is d =
      absurd (false≢true (sym (ap not (ap (λ x. option_eq eqb x (entry_at other p)) (overlaid p ∙ ap (λ o. unwrap_or o (entry_at other p)) is) ∙ option_eq-itself (entry_at other p))) ∙ d))
  same_elsewhere p (Some x) is d = refl

  kept_places : (d : Place → Bool) → ((p : Place) → IsTrue (d p) → IsTrue (not (option_eq eqb (entry_at own p) (entry_at other p)))) → Lists place_cmp d (filter d (keys_of m.entries))
  kept_places d differs =
      Lists-passing place_cmp_total place_cmp-IsAntisymmetric d (keys_of m.entries) ordered
      (λ p t. member-lookup place_cmp_total m.entries ordered p ∙ same_elsewhere p (get place_cmp m p) refl (differs p t))

  pub changes_since-is : IsSimple own → IsSimple other →
      map (λ e. change_to e.0 (entry_at other e.0)) (filter (λ e. not (option_eq eqb e.1 (entry_at other e.0))) m.entries) ≡ changes_between own other
  changes_since-is simple_own simple_other =
      map-filter-entries (λ p x. not (option_eq eqb x (entry_at other p))) (λ p x. change_to p (entry_at other p)) (entry_at own) m.entries own_entries
      ∙ ap (map (λ p. change_to p (entry_at other p)))
      (same_list place_cmp_total place_cmp-IsAntisymmetric (entry_differs own other) _ _
      (kept_places (entry_differs own other) (λ p t. t)) (Lists-changed_places own other simple_own simple_other))

  pub changes_until-is : IsSimple other → IsSimple own →
      map (λ e. change_to e.0 e.1) (filter (λ e. not (option_eq eqb (entry_at other e.0) e.1)) m.entries) ≡ changes_between other own
  changes_until-is simple_other simple_own =
      map-filter-entries (λ p x. not (option_eq eqb (entry_at other p) x)) change_to (entry_at own) m.entries own_entries
      ∙ ap (map (λ p. change_to p (entry_at own p)))
      (same_list place_cmp_total place_cmp-IsAntisymmetric (entry_differs other own) _ _
      (kept_places (entry_differs other own) (λ p t. ap not (option_eq-turned (entry_at own p) (entry_at other p)) ∙ t)) (Lists-changed_places other own simple_other simple_own))

-- at the end of a loop nothing is to come
pub nothing_to_come : {A B : Type 0} (h : A → B) (t : A → Bool) (made : List B) (left : List A) → left ≡ [] → made ++ map h (filter t left) ≡ made
nothing_to_come h t made left none = ap (λ es. made ++ map h (filter t es)) none ∙ append-nil made
