-- What a net change has.
use Rattle.std.proofs.Common.{◌≡◌, ◌↔◌, ℕ, Bool, true, false, ◌&&◌, ◌||◌, not, eqb, IsTrue, List, ◌++◌, map, filter, Option, None, Some, refl, sym, ap, subst, ◌∙◌}
use Rattle.std.specs.Cmp.{IsTotalOrder, eq_by_cmp_equiv, nat_cmp_total}
use Rattle.std.specs.FinMap as finite
use Rattle.std.specs.FinMap.Entries.{find, is_some-find}
use Rattle.std.specs.List.{list_any}
use Rattle.std.specs.List.Sorted.{IsStrictlySortedBy}
use Rattle.std.specs.Option.{is_some, option_eq}
use Rattle.std.specs.Ordering.{eq_by_cmp, nat_cmp}
use Rattle.std.specs.declared.cmp.Ordering.{Ordering}
use Rattle.std.proofs.lemmas.List.{map-append}
use Rattle.std.proofs.lemmas.List.Folds.{list_any-append}
use Rattle.graph_types.specs.meaning.Graph.{Graph, pair_cmp}
use Rattle.graph_types.specs.meaning.Orders.{pair_cmp_total}
use Rattle.graph_types.specs.storage.Adjacency.{Lists}
use Rattle.graph_types.proofs.Graph.{pair_cmp-IsAntisymmetric}
use Rattle.graph_types.proofs.Listing.{Lists-alike, Lists-filter}
use Rattle.mining_model.specs.meaning.NetChange.{vertex_differs, edge_differs, ends_are_same, keys_of_either, changed_vertices, changed_edges}
use Rattle.shared_lemmas.specs.meaning.Membership.{IsIn}
use Rattle.shared_lemmas.proofs.Membership.{list_any_at, list_any_place}
use Rattle.shared_lemmas.proofs.Orderings.{same_item}

module _ {K : Type 0} {R : K → K → Ordering} (total : IsTotalOrder R) (exact : finite.IsAntisymmetric R) where
  find-append : {X : Type 0} (q : K) (es fs : List (K × X)) → is_some (find R q (es ++ fs)) ≡ (is_some (find R q es) || is_some (find R q fs))
  find-append q es fs =
      is_some-find R q (es ++ fs)
      ∙ ap (list_any (eq_by_cmp R q)) (map-append (λ e. e.0) es fs)
      ∙ list_any-append (eq_by_cmp R q) (map (λ e. e.0) es) (map (λ e. e.0) fs)
      ∙ (λ i. sym (is_some-find R q es) i || sym (is_some-find R q fs) i)

  -- the maps have different entries at the key
  abbrev differs : finite.FinMap R ℕ → finite.FinMap R ℕ → K → Bool
  differs m n k = not (option_eq eqb (finite.get m k) (finite.get n k))

  -- an entry that differs is in one of them
  there : (a b : Option ℕ) (c : Bool) → ((is_some a || is_some b) && (not (option_eq eqb a b) && c)) ≡ (not (option_eq eqb a b) && c)
  there None None c = refl
  there None (Some y) c = refl
  there (Some x) b c = refl

  pub contains-either : (m n : finite.FinMap R ℕ) (k : K) → finite.contains_key (finite.from_entries {R = R} (finite.entries m ++ finite.entries n)) k ≡ (is_some (finite.get m k) || is_some (finite.get n k))
  contains-either m n k =
      ap is_some (finite.get-from_entries total (finite.entries m ++ finite.entries n) k)
      ∙ find-append k (finite.entries m) (finite.entries n)
      ∙ (λ i. is_some (sym (finite.get-entries m k) i) || is_some (sym (finite.get-entries n k) i))

  -- the keys at which they differ and that pass a test
  pub Lists-differing : (m n : finite.FinMap R ℕ) (p : K → Bool) → Lists R (λ k. differs m n k && p k) (filter (λ k. differs m n k && p k) (keys_of_either m n))
  Lists-differing m n p =
      let both = finite.from_entries {R = R} (finite.entries m ++ finite.entries n) in
      let test : K → Bool = λ k. differs m n k && p k in
      Lists-alike (λ k. finite.contains_key both k && test k) test (filter test (finite.keys both))
      (λ k. ap (λ b. b && test k) (contains-either m n k) ∙ there (finite.get m k) (finite.get n k) (p k))
      (Lists-filter total exact both test)

  pub IsIn-lists : (p : K → Bool) (ks : List K) → Lists R p ks → (k : K) → IsIn k ks ↔ IsTrue (p k)
  IsIn-lists p ks lists k = (
    λ i. sym (lists.members k) ∙ list_any_at (eq_by_cmp R k) k ks i ((eq_by_cmp_equiv total).refl k),
    λ t. let place = list_any_place (eq_by_cmp R k) ks (lists.members k ∙ t) in subst (λ x. IsIn x ks) (sym (same_item exact k place.0 place.2)) place.1,
  )

and_true : (b : Bool) → (b && true) ≡ b
and_true true = refl
and_true false = refl

module _ (before after : Graph) where
  plain : (v : ℕ) → (vertex_differs before after v && true) ≡ vertex_differs before after v
  plain v = and_true (vertex_differs before after v)

  pub Lists-changed_vertices : Lists nat_cmp (vertex_differs before after) (changed_vertices before after)
  Lists-changed_vertices =
      let ks = keys_of_either before.labels after.labels in
      let test : ℕ → Bool = λ v. vertex_differs before after v && true in
      let same : test ≡ vertex_differs before after = λ i v. plain v i in
      Lists-alike test (vertex_differs before after) (changed_vertices before after) plain
      (subst (λ (p : ℕ → Bool). Lists nat_cmp test (filter p ks)) same (Lists-differing nat_cmp_total finite.nat_cmp-IsAntisymmetric before.labels after.labels (λ _. true)))

  pub Lists-changed_edges : Lists pair_cmp (λ e. edge_differs before after e && ends_are_same before after e) (changed_edges before after)
  Lists-changed_edges = Lists-differing pair_cmp_total pair_cmp-IsAntisymmetric before.edges after.edges (ends_are_same before after)
