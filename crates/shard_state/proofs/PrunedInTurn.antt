-- Items of a list that are changed one after another.
use Rattle.std.proofs.Common.{◌≡◌, ◌<◌, ◌≤◌, ◌+◌, ℕ, zero, suc, List, [], ◌∷◌, map as mapped, length, get_or, set, refl, sym, ap, ◌∙◌, arith, add-one}

-- the first so many items, changed
abbrev pub first_changed : {A : Type 0} → (A → A) → ℕ → List A → List A
first_changed f zero xs = xs
first_changed f (suc n) [] = []
first_changed f (suc n) (x ∷ xs) = f x ∷ first_changed f n xs

each_changed : {A : Type 0} (f : A → A) (n : ℕ) (xs : List A) → length xs ≤ n → first_changed f n xs ≡ mapped f xs
each_changed f zero [] all = refl
each_changed f zero (x ∷ xs) all = absurd (omega (arith, all))
each_changed f (suc n) [] all = refl
each_changed f (suc n) (x ∷ xs) all = ap (λ ys. f x ∷ ys) (each_changed f n xs (omega (arith, all)))

pub changed-each : {A : Type 0} (f : A → A) (n : ℕ) (xs ys : List A) → length xs ≤ n → ys ≡ first_changed f n xs → ys ≡ mapped f xs
changed-each f n xs ys all is = is ∙ each_changed f n xs all

set-next : {A : Type 0} (f : A → A) (i : ℕ) (xs : List A) (default : A) → i < length xs → set (first_changed f i xs) i (f (get_or (first_changed f i xs) i default)) ≡ first_changed f (suc i) xs
set-next f i [] default within = absurd (omega (arith, within))
set-next f zero (x ∷ xs) default within = refl
set-next f (suc i) (x ∷ xs) default within = ap (λ ys. f x ∷ ys) (set-next f i xs default (omega (arith, within)))

-- one more is changed
pub changed-next : {A : Type 0} (f : A → A) (i : ℕ) (xs ys : List A) (default now : A) → i < length xs → ys ≡ first_changed f i xs → now ≡ f (get_or ys i default) → set ys i now ≡ first_changed f (i + 1) xs
changed-next f i xs ys default now within is changed =
    ap (set ys i) changed
    ∙ ap (λ zs. set zs i (f (get_or zs i default))) is
    ∙ set-next f i xs default within
    ∙ ap (λ n. first_changed f n xs) (sym (add-one i))
