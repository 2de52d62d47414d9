-- Ascending lists as sets.
use Rattle.std.proofs.Common.{◌≡◌, Bool, true, false, not, ◌&&◌, ◌||◌, cond, List, [], ◌∷◌, refl, sym, ap, ◌∙◌}
use Rattle.std.specs.BTreeSet.{insert_key}
use Rattle.std.specs.List.{AllByRecursion, list_any}
use Rattle.std.specs.List.Sorted.{IsStrictlySortedBy}
use Rattle.std.specs.Ordering.{is_eq, match_ordering}
use Rattle.std.specs.Cmp.{IsTotalOrder}
use Rattle.std.specs.FinMap.{IsAntisymmetric}
use Rattle.std.specs.Set.{remove_key}
use Rattle.std.specs.declared.cmp.Ordering.{Ordering}
use Rattle.std.specs.declared.cmp.Ordering.TheVariants.{Less, Equal, Greater}
use Rattle.std.proofs.lemmas.Bool.{or_from}
use Rattle.std.proofs.lemmas.Map.Lookups.{btree_set_from_contains}
use Rattle.shared_lemmas.proofs.Ascending.{all-below}
use Rattle.shared_lemmas.proofs.Booleans.{or_swap, or_twice}
use Rattle.shared_lemmas.proofs.Claims.{all-insert_key, all-remove_key}
use Rattle.shared_lemmas.proofs.Orderings.{Less-turned, same_item}

module _ {A : Type 0} (R : A → A → Ordering) where
  -- the item is in the list
  abbrev pub among : A → List A → Bool
  among x xs = list_any (λ y. is_eq (R x y)) xs

  pub absent_below : (x : A) (ys : List A) → AllByRecursion (λ y. R x y ≡ Less) ys → among x ys ≡ false
  absent_below x [] below = refl
  absent_below x (y ∷ ys) below = or_from _ _ (ap is_eq below.0) (absent_below x ys below.1)

module _ {A : Type 0} {R : A → A → Ordering} (total : IsTotalOrder R) (exact : IsAntisymmetric R) where
  -- the first item of an ascending list is not in the rest
  pub first_apart : (x : A) (xs : List A) → IsStrictlySortedBy R (x ∷ xs) → (q : A) → is_eq (R q x) ≡ true → among R q xs ≡ false
  unfolding IsStrictlySortedBy
  first_apart x xs s q tied = ap (λ y. among R y xs) (same_item exact q x tied) ∙ absent_below R x xs s.0

  -- ascending lists with the same items are equal
  pub same_list : (xs ys : List A) → IsStrictlySortedBy R xs → IsStrictlySortedBy R ys → ((q : A) → among R q xs ≡ among R q ys) → xs ≡ ys
  same_list xs ys s t same = btree_set_from_contains total (record { keys = xs }) (record { keys = ys }) s t same exact

  -- one item more

  pub sorted-insert_key : (k : A) (xs : List A) → IsStrictlySortedBy R xs → IsStrictlySortedBy R (insert_key R xs k)
  unfolding IsStrictlySortedBy
  sorted-insert_key k [] s = (tt, tt)
  sorted-insert_key k (x ∷ xs) s =
      elim (R k x) as (λ o. R k x ≡ o → IsStrictlySortedBy R (match_ordering o (k ∷ x ∷ xs) (x ∷ xs) (x ∷ insert_key R xs k))) [
        | Less ↦ λ less. ((less, all-below total k x xs less s.0), s)
        | Equal ↦ λ _. s
        | Greater ↦ λ greater. (all-insert_key (λ y. R x y ≡ Less) R k xs s.0 (Less-turned total k x greater), sorted-insert_key k xs s.1)
      ] refl

  pub among-insert_key : (k : A) (xs : List A) (q : A) → among R q (insert_key R xs k) ≡ (is_eq (R q k) || among R q xs)
  among-insert_key k [] q = refl
  among-insert_key k (x ∷ xs) q =
      elim (R k x) as (λ o. R k x ≡ o → among R q (match_ordering o (k ∷ x ∷ xs) (x ∷ xs) (x ∷ insert_key R xs k)) ≡ (is_eq (R q k) || among R q (x ∷ xs))) [
        | Less ↦ λ _. refl
        | Equal ↦ λ tied. or_twice (is_eq (R q x)) (among R q xs) ∙ ap (λ y. is_eq (R q y) || among R q (x ∷ xs)) (sym (exact k x tied))
        | Greater ↦ λ _. ap (λ b. is_eq (R q x) || b) (among-insert_key k xs q) ∙ or_swap (is_eq (R q x)) (is_eq (R q k)) (among R q xs)
      ] refl

  -- one item less

  pub sorted-remove_key : (test : A → Bool) (xs : List A) → IsStrictlySortedBy R xs → IsStrictlySortedBy R (remove_key test xs)
  unfolding IsStrictlySortedBy
  sorted-remove_key test [] s = tt
  sorted-remove_key test (x ∷ xs) s =
      elim (test x) as (λ b. IsStrictlySortedBy R (cond b xs (x ∷ remove_key test xs))) [
        | true ↦ s.1
        | false ↦ (all-remove_key (λ y. R x y ≡ Less) test xs s.0, sorted-remove_key test xs s.1)
      ]

  -- the test that a tie passes, of an item that ties with k
  tied_test : (k q x : A) → is_eq (R q k) ≡ true → is_eq (R q x) ≡ is_eq (R k x)
  tied_test k q x tied = ap (λ y. is_eq (R y x)) (same_item exact q k tied)

  removed_here : (k x : A) (xs : List A) (q : A) → IsStrictlySortedBy R (x ∷ xs) → is_eq (R k x) ≡ true → among R q xs ≡ (not (is_eq (R q k)) && (is_eq (R q x) || among R q xs))
  removed_here k x xs q s here =
      let alike : is_eq (R q x) ≡ is_eq (R q k) = ap (λ y. is_eq (R q y)) (sym (same_item exact k x here)) in
      elim (is_eq (R q k)) as (λ b. is_eq (R q k) ≡ b → among R q xs ≡ (not b && (b || among R q xs))) [
        | true ↦ λ tied. first_apart x xs s q (alike ∙ tied)
        | false ↦ λ _. refl
      ] refl
      ∙ ap (λ b. not (is_eq (R q k)) && (b || among R q xs)) (sym alike)

  removed_later : (k x : A) (q : A) (there : Bool) → is_eq (R k x) ≡ false → (is_eq (R q x) || (not (is_eq (R q k)) && there)) ≡ (not (is_eq (R q k)) && (is_eq (R q x) || there))
  removed_later k x q there other =
      elim (is_eq (R q k)) as (λ b. is_eq (R q k) ≡ b → (is_eq (R q x) || (not b && there)) ≡ (not b && (is_eq (R q x) || there))) [
        | true ↦ λ tied. ap (λ b. b || false) (tied_test k q x tied ∙ other)
        | false ↦ λ _. refl
      ] refl

  pub among-remove_key : (k : A) (xs : List A) → IsStrictlySortedBy R xs → (q : A) → among R q (remove_key (λ y. is_eq (R k y)) xs) ≡ (not (is_eq (R q k)) && among R q xs)
  unfolding IsStrictlySortedBy
  among-remove_key k [] s q = elim (is_eq (R q k)) as (λ b. false ≡ (not b && false)) [ true ↦ refl | false ↦ refl ]
  among-remove_key k (x ∷ xs) s q =
      elim (is_eq (R k x)) as (λ b. is_eq (R k x) ≡ b → among R q (cond b xs (x ∷ remove_key (λ y. is_eq (R k y)) xs)) ≡ (not (is_eq (R q k)) && among R q (x ∷ xs))) [
        | true ↦ λ here. removed_here k x xs q s here
        | false ↦ λ other. ap (λ b. is_eq (R q x) || b) (among-remove_key k xs s.1 q) ∙ removed_later k x q (among R q xs) other
      ] refl
