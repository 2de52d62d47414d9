-- Lists in strict order.
use Rattle.std.proofs.Common.{◌≡◌, ◌↔◌, true, false, List, [], ◌∷◌, ◌++◌, map, refl, ap}
use Rattle.std.specs.List.{AllByRecursion, list_any}
use Rattle.std.specs.List.Sorted.{IsStrictlySortedBy}
use Rattle.std.specs.Ordering.{is_eq, is_lt}
use Rattle.std.specs.Cmp.{IsTotalOrder}
use Rattle.std.specs.declared.cmp.Ordering.{Ordering}
use Rattle.std.specs.declared.cmp.Ordering.TheVariants.{Less}
use Rattle.std.proofs.lemmas.Bool.{and_parts, and_from, or_from}
use Rattle.shared_lemmas.specs.meaning.Ascending.{is_ascending}
use Rattle.shared_lemmas.proofs.Claims.{all-append, all-append_parts, all-map, all-weaker}
use Rattle.shared_lemmas.proofs.Orderings.{Less-is, Greater-turned}

-- each item of the one list is below each of the other
abbrev pub AllBelow : {A : Type 0} → (A → A → Ordering) → List A → List A → Type 0
AllBelow R xs ys = AllByRecursion (λ x. AllByRecursion (λ y. R x y ≡ Less) ys) xs

pub record SortedParts {A : Type 0} (R : A → A → Ordering) (xs ys : List A) : Type 0 where
  pub front : IsStrictlySortedBy R xs
  pub back : IsStrictlySortedBy R ys
  pub apart : AllBelow R xs ys

module _ {A : Type 0} (R : A → A → Ordering) where
  pub sorted-none : IsStrictlySortedBy R []
  unfolding IsStrictlySortedBy
  sorted-none = tt

  pub sorted-one : (x : A) → IsStrictlySortedBy R (x ∷ [])
  unfolding IsStrictlySortedBy
  sorted-one x = (tt, tt)

  pub sorted-cons : (x : A) (xs : List A) → AllByRecursion (λ y. R x y ≡ Less) xs → IsStrictlySortedBy R xs → IsStrictlySortedBy R (x ∷ xs)
  unfolding IsStrictlySortedBy
  sorted-cons x xs below s = (below, s)

  pub IsStrictlySortedBy-append : (xs ys : List A) → IsStrictlySortedBy R xs → IsStrictlySortedBy R ys → AllBelow R xs ys → IsStrictlySortedBy R (xs ++ ys)
  unfolding IsStrictlySortedBy
  IsStrictlySortedBy-append [] ys s t before = t
  IsStrictlySortedBy-append (x ∷ xs) ys s t before =
      (all-append (λ y. R x y ≡ Less) xs ys s.0 before.0, IsStrictlySortedBy-append xs ys s.1 t before.1)

  pub sorted-parts : (xs ys : List A) → IsStrictlySortedBy R (xs ++ ys) → SortedParts R xs ys
  unfolding IsStrictlySortedBy
  sorted-parts [] ys s = record { front = tt; back = s; apart = tt }
  sorted-parts (x ∷ xs) ys s =
      let head = all-append_parts (λ y. R x y ≡ Less) xs ys s.0 in
      let rest = sorted-parts xs ys s.1 in
      record { front = (head.0, rest.front); back = rest.back; apart = (head.1, rest.apart) }

  -- what is left without an item in between
  pub sorted-skip : (xs : List A) (y : A) (ys : List A) → IsStrictlySortedBy R (xs ++ y ∷ ys) → IsStrictlySortedBy R (xs ++ ys)
  unfolding IsStrictlySortedBy
  sorted-skip xs y ys s =
      let parts = sorted-parts xs (y ∷ ys) s in
      IsStrictlySortedBy-append xs ys parts.front parts.back.1
      (all-weaker (λ x. AllByRecursion (λ z. R x z ≡ Less) (y ∷ ys)) (λ x. AllByRecursion (λ z. R x z ≡ Less) ys) (λ x below. below.1) xs parts.apart)

pub IsStrictlySortedBy-map : {A B : Type 0} (R : A → A → Ordering) (S : B → B → Ordering) (f : A → B) → ((x y : A) → R x y ≡ Less → S (f x) (f y) ≡ Less) →
    (xs : List A) → IsStrictlySortedBy R xs → IsStrictlySortedBy S (map f xs)
unfolding IsStrictlySortedBy
IsStrictlySortedBy-map R S f keeps [] s = tt
IsStrictlySortedBy-map R S f keeps (x ∷ xs) s =
    (all-map (λ y. R x y ≡ Less) (λ z. S (f x) z ≡ Less) f (λ y. keeps x y) xs s.0, IsStrictlySortedBy-map R S f keeps xs s.1)

module _ {A : Type 0} {R : A → A → Ordering} (total : IsTotalOrder R) where
  -- what is below x is below each y that x is below
  pub all-below : (x y : A) (ys : List A) → R x y ≡ Less → AllByRecursion (λ z. R y z ≡ Less) ys → AllByRecursion (λ z. R x z ≡ Less) ys
  all-below x y ys less = all-weaker (λ z. R y z ≡ Less) (λ z. R x z ≡ Less) (λ z below. total.trans x y z less below) ys

  -- the items of a list whose last one is below x
  pub all-below_last : (front : List A) (last x : A) → IsStrictlySortedBy R (front ++ last ∷ []) → R last x ≡ Less → AllByRecursion (λ y. R y x ≡ Less) (front ++ last ∷ [])
  all-below_last front last x sorted below =
      let parts = sorted-parts R front (last ∷ []) sorted in
      all-append _ front (last ∷ [])
      (all-weaker (λ y. AllByRecursion (λ z. R y z ≡ Less) (last ∷ [])) (λ y. R y x ≡ Less) (λ y less. total.trans y last x less.0 below) front parts.apart)
      (below, tt)

  pub absent_above : (x : A) (ys : List A) → AllByRecursion (λ y. R y x ≡ Less) ys → list_any (λ y. is_eq (R x y)) ys ≡ false
  absent_above x [] below = refl
  absent_above x (y ∷ ys) below = or_from _ _ (ap is_eq (Greater-turned total y x below.0)) (absent_above x ys below.1)

  -- the test decides the order
  pub sorted_from_ascending : (xs : List A) → is_ascending R xs ≡ true → IsStrictlySortedBy R xs
  unfolding IsStrictlySortedBy
  sorted_from_ascending [] h = tt
  sorted_from_ascending (x ∷ []) h = (tt, tt)
  sorted_from_ascending (x ∷ y ∷ xs) h =
      let parts = and_parts (is_lt (R x y)) _ h in
      let rest = sorted_from_ascending (y ∷ xs) parts.1 in
      let first = (Less-is (R x y)).0 parts.0 in
      ((first, all-below x y xs first rest.0), rest)

pub ascending_from_sorted : {A : Type 0} (R : A → A → Ordering) (xs : List A) → IsStrictlySortedBy R xs → is_ascending R xs ≡ true
unfolding IsStrictlySortedBy
ascending_from_sorted R [] s = refl
ascending_from_sorted R (x ∷ []) s = refl
ascending_from_sorted R (x ∷ y ∷ xs) s = and_from _ _ (ap is_lt s.0.0) (ascending_from_sorted R (y ∷ xs) s.1)

pub is_ascending-is : {A : Type 0} {R : A → A → Ordering} → IsTotalOrder R → (xs : List A) → (is_ascending R xs ≡ true) ↔ IsStrictlySortedBy R xs
is_ascending-is {R = R} total xs = (sorted_from_ascending total xs, ascending_from_sorted R xs)
