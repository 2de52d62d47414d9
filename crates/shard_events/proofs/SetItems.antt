-- The items of lists: after one of them is set, and of equal ones.
use Rattle.std.proofs.Common.{◌≡◌, ◌≢◌, ◌<◌, ◌≤◌, ⊎_elim, ℕ, List, length, set, get_or, replicate, Option, None, Some, sym, subst}
use Rattle.std.proofs.lemmas.Bool.{cases_eq, cases_lt}
use Rattle.std.proofs.lemmas.List.{get_or-replicate, get_or-set_other, get_or-set_same, get_or_past, length-replicate}

-- after one item is set, what holds of the new one at its place, and of the others as they were, holds of each
pub set-holds : {A : Type 0} (P : A → Type 0) (xs : List A) (i j : ℕ) (a d : A) → i < length xs → (j ≡ i → P a) → (j ≢ i → P (get_or xs j d)) → P (get_or (set xs i a) j d)
set-holds P xs i j a d within here there =
    ⊎_elim (λ same. subst (λ k. P (get_or (set xs i a) k d)) (sym same) (subst P (sym (get_or-set_same xs i a d within)) (here same)))
    (λ apart. subst P (sym (get_or-set_other xs i j a d apart)) (there apart))
    (cases_eq j i)

-- a place at which there is something is within the list
pub some-within : {A : Type 0} (xs : List (Option A)) (i : ℕ) (x : A) → get_or xs i None ≡ Some x → i < length xs
some-within xs i x is =
    ⊎_elim (λ within. within) (λ beyond. let none = get_or_past xs i None beyond in absurd cc) (cases_lt i (length xs))

-- each item of a list of equal ones is that one, as is what stands in for those past its end
pub replicate-item : {A : Type 0} (n i : ℕ) (a : A) → get_or (replicate n a) i a ≡ a
replicate-item n i a =
    ⊎_elim (get_or-replicate n i a a)
    (λ beyond. get_or_past (replicate n a) i a (subst (λ k. k ≤ i) (sym (length-replicate n a)) beyond))
    (cases_lt i n)
