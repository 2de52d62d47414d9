-- Lists of what passes a test, in order.
use Rattle.std.proofs.Common.{◌≡◌, Bool, false, ◌&&◌, List, [], filter, sym, ap, ◌∙◌}
use Rattle.std.specs.Cmp.{IsTotalOrder, eq_by_cmp_equiv}
use Rattle.std.specs.List.Sorted.{IsStrictlySortedBy}
use Rattle.std.specs.declared.cmp.Ordering.{Ordering}
use Rattle.std.specs.FinMap as map
use Rattle.std.proofs.lemmas.List.Kept.{IsStrictlySortedBy-filter}
use Rattle.std.proofs.lemmas.Map.Lookups.{btree_set_from_contains}
use Rattle.std.proofs.lemmas.Map.Made.{is_member-filter}
use Rattle.graph_types.specs.storage.Adjacency.{Lists}
use Rattle.shared_lemmas.proofs.FiniteMaps.{keys_rise}
use Rattle.shared_lemmas.proofs.Orderings.{same_item}

module _ {K : Type 0} {R : K → K → Ordering} where
  pub Lists-nothing : (p : K → Bool) → ((k : K) → false ≡ p k) → Lists R p []
  unfolding IsStrictlySortedBy
  Lists-nothing p none = record { ascending = tt; members = none }

  pub Lists-keys : {X : Type 0} (m : map.FinMap R X) → Lists R (map.contains_key m) (map.keys m)
  Lists-keys m = record { ascending = keys_rise m; members = λ k. sym (map.contains_key-keys m k) }

  pub Lists-alike : (p q : K → Bool) (ks : List K) → ((k : K) → p k ≡ q k) → Lists R p ks → Lists R q ks
  Lists-alike p q ks alike lists = record { ascending = lists.ascending; members = λ k. lists.members k ∙ alike k }

  -- a test of which there is one list has but one
  pub same_list : IsTotalOrder R → map.IsAntisymmetric R → (p : K → Bool) (ks ls : List K) → Lists R p ks → Lists R p ls → ks ≡ ls
  same_list total same p ks ls first second =
      btree_set_from_contains total (record { keys = ks }) (record { keys = ls }) first.ascending second.ascending (λ k. first.members k ∙ sym (second.members k)) same

  -- the keys that pass a test
  pub Lists-filter : {X : Type 0} → IsTotalOrder R → map.IsAntisymmetric R → (m : map.FinMap R X) (p : K → Bool) → Lists R (λ k. map.contains_key m k && p k) (filter p (map.keys m))
  Lists-filter total same m p = record {
    ascending = IsStrictlySortedBy-filter R p (map.keys m) (keys_rise m);
    members = λ k.
        is_member-filter (eq_by_cmp_equiv total) p k (λ x e. ap p (same_item same k x e)) (map.keys m)
        ∙ ap (λ b. b && p k) (sym (map.contains_key-keys m k));
  }
