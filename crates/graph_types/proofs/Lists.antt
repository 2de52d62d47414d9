-- What it is to put one more item into a list.
use Rattle.std.proofs.Common.{◌≡◌, ℕ, ◌+◌, ◌-◌, ◌<◌, ◌≤◌, List, [], ◌∷◌, ◌++◌, length, map, take, drop, set, refl, sym, ap, subst, ◌∙◌, arith, append_assoc}
use Rattle.std.specs.List.{All, insert, copy_within}
use Rattle.std.proofs.lemmas.List.{map-append, take-map, drop-map, length-take-le, length-drop, set-append_right}
use Rattle.std.proofs.lemmas.List.Elements.{All-append, All-cons, All-take, All-drop}
use Rattle.std.proofs.lemmas.List.Edits.{insert-append_right}
use Rattle.std.proofs.Math.Seq.{take-add}

pub All-insert : {X : Type 0} (P : X → Type 0) (xs : List X) (i : ℕ) (x : X) → All P xs → P x → All P (insert xs i x)
All-insert P xs i x all new = All-append P _ _ (All-take P i xs all) (All-cons P x _ new (All-drop P i xs all))

pub map-insert : {X Y : Type 0} (f : X → Y) (xs : List X) (i : ℕ) (x : X) → map f (insert xs i x) ≡ insert (map f xs) i (f x)
map-insert f xs i x = map-append f (take i xs) (x ∷ drop i xs) ∙ (λ k. sym (take-map f i xs) k ++ f x ∷ sym (drop-map f i xs) k)

set_first : {X : Type 0} (xs rest : List X) (x : X) → 0 < length xs → set (take 1 xs ++ rest) 0 x ≡ x ∷ rest
set_first [] rest x h = absurd (omega (arith, h))
set_first (y ∷ xs) rest x h = refl

module _ {X : Type 0} (xs : List X) (place n : ℕ) (x : X) where
  moved_is : copy_within xs place (place + n) (place + 1) ≡ take place xs ++ (take 1 (drop place xs) ++ (take n (drop place xs) ++ drop (place + n + 1) xs))
  moved_is =
      let count : place + n - place ≡ n = omega arith in
      let end : place + 1 + (place + n - place) ≡ place + n + 1 = omega arith in
      (λ i. (take-add place 1 xs i ++ take (count i) (drop place xs)) ++ drop (end i) xs)
      ∙ append_assoc (take place xs ++ take 1 (drop place xs)) _ _
      ∙ append_assoc (take place xs) _ _

  put_moved : place + n < length xs → set (copy_within xs place (place + n) (place + 1)) place x ≡ insert (take (place + n) xs) place x ++ drop (place + n + 1) xs
  put_moved h =
      let before : length (take place xs) ≡ place = length-take-le place xs (omega (arith, h)) in
      let here : place - place ≡ 0 = omega arith in
      let one : 0 < length (drop place xs) = omega (arith, h, length-drop place xs) in
      let rest = take n (drop place xs) in
      let after = drop (place + n + 1) xs in
      ap (λ ys. set ys place x) moved_is
      ∙ set-append_right (take place xs) _ place place x before (omega arith)
      ∙ (λ i. take place xs ++ set (take 1 (drop place xs) ++ (rest ++ after)) (here i) x)
      ∙ ap (λ ys. take place xs ++ ys) (set_first (drop place xs) (rest ++ after) x one)
      ∙ sym (append_assoc (take place xs) (x ∷ rest) after)
      ∙ (λ i. (take place xs ++ insert rest (sym here i) x) ++ after)
      ∙ ap (λ ys. ys ++ after) (sym (insert-append_right (take place xs) rest place place x before (omega arith)))
      ∙ ap (λ ys. insert ys place x ++ after) (sym (take-add place n xs))

-- to move what stands from `place` to `len` up by one, and put x there
pub put_at : {X : Type 0} (xs : List X) (len place : ℕ) (x : X) → place ≤ len → len < length xs → set (copy_within xs place len (place + 1)) place x ≡ insert (take len xs) place x ++ drop (len + 1) xs
put_at xs len place x below room =
    let e : place + (len - place) ≡ len = omega (arith, below) in
    subst (λ k. k < length xs → set (copy_within xs place k (place + 1)) place x ≡ insert (take k xs) place x ++ drop (k + 1) xs) e (put_moved xs place (len - place) x) room
