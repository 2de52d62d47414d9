-- What a binary search among ascending neighbours has found.
use Rattle.std.proofs.Common.{◌≡◌, ℕ, zero, suc, ◌<◌, ◌≤◌, ◌≢◌, ◌||◌, eqb, true, false, List, [], ◌∷◌, length, get_or, refl, sym, ap, subst, inl, inr, Some, Ok, Err, arith}
use Rattle.std.specs.List.{list_any, slice_get}
use Rattle.std.specs.List.Sorted.{IsBinarySearchResult, IsNonDecreasingBy, IsStrictlySortedBy}
use Rattle.std.specs.Ordering.{nat_cmp, ordering_index}
use Rattle.std.proofs.lemmas.Bool.{eqb-true}
use Rattle.std.proofs.lemmas.Bool.Decides.{nat_tests}
use Rattle.std.proofs.lemmas.Cmp.{ranked}
use Rattle.std.proofs.lemmas.List.{get_or-map, length-map}
use Rattle.std.proofs.lemmas.List.Sorted.{IsNonDecreasingBy-from_default}
use Rattle.std.proofs.lemmas.Map.Keys.{below_from_sorted}
use Rattle.shared_lemmas.specs.meaning.Membership.{IsIn}
use Rattle.graph_types.specs.declared.near.Near.{Near}
use Rattle.graph_types.specs.calls.Finding.{FindsNear}
use Rattle.graph_types.specs.storage.Ahead.{near_ends}

-- what stands at a place that was found is one of the neighbours
found-at : (to : ℕ) (near : List Near) (i : ℕ) → i < length near → ((d : Near) → (get_or near i d).to ≡ to) → (found : Near) × (slice_get near i ≡ Some found) × IsIn found near × (found.to ≡ to)
found-at to [] i within is = absurd (omega (arith, within))
found-at to (n ∷ near) zero within is = (n, refl, inl refl, is n)
found-at to (n ∷ near) (suc i) within is = let r = found-at to near i (omega (arith, within)) is in (r.0, r.1, inr r.2, r.3)

pub finds-at : (to : ℕ) (near : List Near) (i : ℕ) → i < length near → ((d : Near) → (get_or near i d).to ≡ to) → FindsNear to near (slice_get near i)
finds-at to near i within is = let r = found-at to near i within is in subst (FindsNear to near) (sym r.1) (r.2, r.3)

-- where no place has the vertex, it is none of the neighbours
none-at : (to : ℕ) (near : List Near) → ((i : ℕ) (d : Near) → i < length near → to ≢ (get_or near i d).to) → list_any (eqb to) (near_ends near) ≡ false
none-at to [] apart = refl
none-at to (n ∷ near) apart =
    elim (eqb to n.to) as (λ b. eqb to n.to ≡ b → (b || list_any (eqb to) (near_ends near)) ≡ false) [
      | true ↦ λ same. absurd (apart 0 n (omega arith) (eqb-true to n.to same))
      | false ↦ λ _. none-at to near (λ i d within. apart (suc i) d (omega (arith, within)))
    ] refl

module _ (to : ℕ) (near : List Near) (ascending : IsStrictlySortedBy nat_cmp (near_ends near)) where
  below : (i j : ℕ) (d : Near) → i < j → j < length near → (get_or near i d).to < (get_or near j d).to
  below i j d lower within =
      let in_ends : j < length (near_ends near) = omega (arith, within, length-map near (λ n. n.to)) in
      omega (arith, below_from_sorted (near_ends near) i j 0 ascending lower in_ends, get_or-map (λ n. n.to) near i d 0 (omega (arith, lower, within)), get_or-map (λ n. n.to) near j d 0 within)

  rises : (d : Near) → IsNonDecreasingBy (λ n. ordering_index (nat_cmp n.to to)) near
  rises d = IsNonDecreasingBy-from_default (λ n. ordering_index (nat_cmp n.to to)) near d (λ i j le within.
      let ends_rise : (get_or near i d).to ≤ (get_or near j d).to = grind (arith, below i j d, λ (same : i ≡ j). ap (λ k. (get_or near k d).to) same) in
      grind (arith, nat_tests))

  pub none-found : (i : ℕ) → IsBinarySearchResult (λ n. nat_cmp n.to to) near (Err i) → list_any (eqb to) (near_ends near) ≡ false
  none-found i parted = none-at to near (λ k d within same.
      let sides = parted (rises d) in
      let at : ℕ = (get_or near k d).to in
      grind (arith, nat_tests, sides.0 k d, sides.1 k d))

  pub one-found : (i : ℕ) → i < length near → IsBinarySearchResult (λ n. nat_cmp n.to to) near (Ok i) → FindsNear to near (slice_get near i)
  one-found i within equal = finds-at to near i within (λ d. ranked _ to _ (sym (equal d)))
