-- Lists in order, by the look-ups in them.
use Rattle.std.proofs.Common.{◌≡◌, Bool, true, false, ◌&&◌, cond, IsTrue, List, [], ◌∷◌, map, filter, Some, refl, sym, ap, subst, ◌∙◌}
use Rattle.std.specs.BTreeMap.{is_at}
use Rattle.std.specs.Cmp.{IsTotalOrder, eq_by_cmp_equiv, tied_itself}
use Rattle.std.specs.FinMap as finite
use Rattle.std.specs.List.{AllByRecursion}
use Rattle.std.specs.List.Sorted.{IsStrictlySortedBy}
use Rattle.std.specs.Map.{keys_of, lookup}
use Rattle.std.specs.Option.{is_some}
use Rattle.std.specs.Ordering.{eq_by_cmp, is_eq}
use Rattle.std.specs.Set.{is_member}
use Rattle.std.specs.declared.cmp.Ordering.{Ordering}
use Rattle.std.specs.declared.cmp.Ordering.TheVariants.{Less}
use Rattle.std.proofs.lemmas.Bool.{false≢true}
use Rattle.std.proofs.lemmas.List.Kept.{IsStrictlySortedBy-filter}
use Rattle.std.proofs.lemmas.Map.Made.{is_member-filter}
use Rattle.graph_types.specs.storage.Adjacency.{Lists}
use Rattle.graph_types.proofs.Views.{get-seen, keys-seen}
use Rattle.shared_lemmas.specs.meaning.Membership.{IsIn}
use Rattle.shared_lemmas.proofs.Membership.{list_any_at, list_any_place}
use Rattle.shared_lemmas.proofs.Orderings.{same_item, Greater-turned}

pub absorbed : (a b : Bool) → (b ≡ true → a ≡ true) → (a && b) ≡ b
absorbed true b h = refl
absorbed false true h = absurd (false≢true (h refl))
absorbed false false h = refl

both_ways : (a b : Bool) → (a ≡ true → b ≡ true) → (b ≡ true → a ≡ true) → a ≡ b
both_ways true b h k = sym (h refl)
both_ways false true h k = k refl
both_ways false false h k = refl

module _ {K : Type 0} {R : K → K → Ordering} (total : IsTotalOrder R) (exact : finite.IsAntisymmetric R) where
  -- the items that pass, of a list that has each that does
  pub Lists-passing : (p : K → Bool) (ks : List K) → IsStrictlySortedBy R ks → ((k : K) → IsTrue (p k) → IsTrue (is_member (eq_by_cmp R) ks k)) → Lists R p (filter p ks)
  Lists-passing p ks sorted has = record {
    ascending = IsStrictlySortedBy-filter R p ks sorted;
    members = λ k.
        is_member-filter (eq_by_cmp_equiv total) p k (λ x e. ap p (same_item exact k x e)) ks
        ∙ absorbed (is_member (eq_by_cmp R) ks k) (p k) (has k);
  }

  pub member-from_in : (k : K) (ks : List K) → IsIn k ks → IsTrue (is_member (eq_by_cmp R) ks k)
  member-from_in k ks h = list_any_at (eq_by_cmp R k) k ks h ((eq_by_cmp_equiv total).refl k)

  pub in-from_member : (k : K) (ks : List K) → IsTrue (is_member (eq_by_cmp R) ks k) → IsIn k ks
  in-from_member k ks t = let place = list_any_place (eq_by_cmp R k) ks t in subst (λ x. IsIn x ks) (sym (same_item exact k place.0 place.2)) place.1

  pub Lists-from_in : (p : K → Bool) (ks : List K) → IsStrictlySortedBy R ks → ((k : K) → IsIn k ks → IsTrue (p k)) → ((k : K) → IsTrue (p k) → IsIn k ks) → Lists R p ks
  Lists-from_in p ks sorted from to = record {
    ascending = sorted;
    members = λ k. both_ways _ _ (λ t. from k (in-from_member k ks t)) (λ t. member-from_in k ks (to k t));
  }

module _ {K X : Type 0} {R : K → K → Ordering} (total : IsTotalOrder R) where
  later_own : (e : K × X) (all es : List (K × X)) → AllByRecursion (λ q. R e.0 q ≡ Less) (keys_of es)
      → AllByRecursion (λ f. lookup (is_at (R f.0)) all ≡ Some f.1) es → AllByRecursion (λ f. lookup (is_at (R f.0)) (e ∷ all) ≡ Some f.1) es
  later_own e all [] below own = tt
  later_own e all (f ∷ es) below own =
      (ap (λ r. cond (is_eq r) (Some e.1) (lookup (is_at (R f.0)) all)) (Greater-turned total e.0 f.0 below.0) ∙ own.0, later_own e all es below.1 own.1)

  -- each entry is found at its key
  pub own-lookups : (es : List (K × X)) → IsStrictlySortedBy R (keys_of es) → AllByRecursion (λ e. lookup (is_at (R e.0)) es ≡ Some e.1) es
  unfolding IsStrictlySortedBy
  own-lookups [] s = tt
  own-lookups (e ∷ es) s =
      (ap (λ r. cond (is_eq r) (Some e.1) (lookup (is_at (R e.0)) es)) (tied_itself total e.0), later_own e es es s.0 (own-lookups es s.1))

  pub member-lookup : (es : List (K × X)) → IsStrictlySortedBy R (keys_of es) → (k : K) → is_member (eq_by_cmp R) (keys_of es) k ≡ is_some (lookup (is_at (R k)) es)
  member-lookup es sorted k =
      ap (λ ks. is_member (eq_by_cmp R) ks k) (sym (keys-seen total es sorted))
      ∙ sym (finite.contains_key-keys (finite.from_entries {R = R} es) k)
      ∙ ap is_some (sym (get-seen total k es))

-- what is made of the entries that pass a test, where each value is a function of its key
module _ {K X C : Type 0} (t : K → X → Bool) (h : K → X → C) (f : K → X) where
  pub map-filter-entries : (es : List (K × X)) → AllByRecursion (λ e. f e.0 ≡ e.1) es → map (λ e. h e.0 e.1) (filter (λ e. t e.0 e.1) es) ≡ map (λ k. h k (f k)) (filter (λ k. t k (f k)) (keys_of es))
  map-filter-entries [] own = refl
  map-filter-entries (e ∷ es) own =
      let rest = map-filter-entries es own.1 in
      ap (λ x. map (λ d. h d.0 d.1) (cond (t e.0 x) (e ∷ filter (λ d. t d.0 d.1) es) (filter (λ d. t d.0 d.1) es))) (sym own.0)
      ∙ elim (t e.0 (f e.0)) as (λ b. map (λ d. h d.0 d.1) (cond b (e ∷ filter (λ d. t d.0 d.1) es) (filter (λ d. t d.0 d.1) es)) ≡ map (λ k. h k (f k)) (cond b (e.0 ∷ filter (λ k. t k (f k)) (keys_of es)) (filter (λ k. t k (f k)) (keys_of es)))) [
        | true ↦ λ i. h e.0 (sym own.0 i) ∷ rest i
        | false ↦ rest
      ]

  pub map-entries : (es : List (K × X)) → AllByRecursion (λ e. f e.0 ≡ e.1) es → map (λ e. h e.0 e.1) es ≡ map (λ k. h k (f k)) (keys_of es)
  map-entries [] own = refl
  map-entries (e ∷ es) own = λ i. h e.0 (sym own.0 i) ∷ map-entries es own.1 i
