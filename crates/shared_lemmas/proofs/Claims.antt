-- Claims of each item of a list.
use Rattle.std.proofs.Common.{◌≡◌, Bool, true, false, cond, List, [], ◌∷◌, ◌++◌, map, filter, refl}
use Rattle.std.specs.BTreeSet.{insert_key}
use Rattle.std.specs.List.{AllByRecursion, list_any}
use Rattle.std.specs.Ordering.{match_ordering}
use Rattle.std.specs.Set.{remove_key}
use Rattle.std.specs.declared.cmp.Ordering.{Ordering}
use Rattle.std.specs.declared.cmp.Ordering.TheVariants.{Less, Equal, Greater}
use Rattle.std.proofs.lemmas.Bool.{or_left, or_right}

pub all-weaker : {A : Type 0} (P Q : A → Type 0) → ((x : A) → P x → Q x) → (xs : List A) → AllByRecursion P xs → AllByRecursion Q xs
all-weaker P Q so [] p = tt
all-weaker P Q so (x ∷ xs) p = (so x p.0, all-weaker P Q so xs p.1)

pub all-any : {A : Type 0} (P : A → Type 0) → ((x : A) → P x) → (xs : List A) → AllByRecursion P xs
all-any P so [] = tt
all-any P so (x ∷ xs) = (so x, all-any P so xs)

pub all-both : {A : Type 0} (P Q : A → Type 0) (xs : List A) → AllByRecursion P xs → AllByRecursion Q xs → AllByRecursion (λ x. P x × Q x) xs
all-both P Q [] p q = tt
all-both P Q (x ∷ xs) p q = ((p.0, q.0), all-both P Q xs p.1 q.1)

pub all-map : {A B : Type 0} (P : A → Type 0) (Q : B → Type 0) (f : A → B) → ((x : A) → P x → Q (f x)) → (xs : List A) → AllByRecursion P xs → AllByRecursion Q (map f xs)
all-map P Q f so [] p = tt
all-map P Q f so (x ∷ xs) p = (so x p.0, all-map P Q f so xs p.1)

module _ {A : Type 0} (P : A → Type 0) where
  pub all-append : (xs ys : List A) → AllByRecursion P xs → AllByRecursion P ys → AllByRecursion P (xs ++ ys)
  all-append [] ys p q = q
  all-append (x ∷ xs) ys p q = (p.0, all-append xs ys p.1 q)

  pub all-append_parts : (xs ys : List A) → AllByRecursion P (xs ++ ys) → AllByRecursion P xs × AllByRecursion P ys
  all-append_parts [] ys p = (tt, p)
  all-append_parts (x ∷ xs) ys p = let rest = all-append_parts xs ys p.1 in ((p.0, rest.0), rest.1)

  pub all-insert_key : (R : A → A → Ordering) (k : A) (xs : List A) → AllByRecursion P xs → P k → AllByRecursion P (insert_key R xs k)
  all-insert_key R k [] all new = (new, tt)
  all-insert_key R k (x ∷ xs) all new =
      elim (R k x) as (λ o. AllByRecursion P (match_ordering o (k ∷ x ∷ xs) (x ∷ xs) (x ∷ insert_key R xs k))) [
        | Less ↦ (new, all)
        | Equal ↦ all
        | Greater ↦ (all.0, all-insert_key R k xs all.1 new)
      ]

  pub all-remove_key : (test : A → Bool) (xs : List A) → AllByRecursion P xs → AllByRecursion P (remove_key test xs)
  all-remove_key test [] all = tt
  all-remove_key test (x ∷ xs) all =
      elim (test x) as (λ b. AllByRecursion P (cond b xs (x ∷ remove_key test xs))) [ true ↦ all.1 | false ↦ (all.0, all-remove_key test xs all.1) ]

module _ {A : Type 0} (keeps : A → Bool) where
  pub all-filter : (P : A → Type 0) (xs : List A) → AllByRecursion P xs → AllByRecursion P (filter keeps xs)
  all-filter P [] p = tt
  all-filter P (x ∷ xs) p =
      elim (keeps x) as (λ b. AllByRecursion P (cond b (x ∷ filter keeps xs) (filter keeps xs))) [
        | true ↦ (p.0, all-filter P xs p.1)
        | false ↦ all-filter P xs p.1
      ]

  -- what a filter keeps passes
  pub all-kept : (xs : List A) → AllByRecursion (λ x. keeps x ≡ true) (filter keeps xs)
  all-kept [] = tt
  all-kept (x ∷ xs) =
      elim (keeps x) as (λ b. keeps x ≡ b → AllByRecursion (λ x. keeps x ≡ true) (cond b (x ∷ filter keeps xs) (filter keeps xs))) [
        | true ↦ λ passes. (passes, all-kept xs)
        | false ↦ λ _. all-kept xs
      ] refl

  pub all-map-filter : {B : Type 0} (P : B → Type 0) (f : A → B) (xs : List A) → AllByRecursion P (map f xs) → AllByRecursion P (map f (filter keeps xs))
  all-map-filter P f [] p = tt
  all-map-filter P f (x ∷ xs) p =
      elim (keeps x) as (λ b. AllByRecursion P (map f (cond b (x ∷ filter keeps xs) (filter keeps xs)))) [
        | true ↦ (p.0, all-map-filter P f xs p.1)
        | false ↦ all-map-filter P f xs p.1
      ]

-- each item is found in its list
pub all-found : {A : Type 0} (test : A → A → Bool) → ((x : A) → test x x ≡ true) → (xs : List A) → AllByRecursion (λ x. list_any (test x) xs ≡ true) xs
all-found test itself [] = tt
all-found test itself (x ∷ xs) = (
  or_left (test x x) _ (itself x),
  all-weaker (λ y. list_any (test y) xs ≡ true) (λ y. list_any (test y) (x ∷ xs) ≡ true) (λ y found. or_right (test y x) _ found) xs (all-found test itself xs),
)
