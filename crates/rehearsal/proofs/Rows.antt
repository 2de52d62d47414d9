-- Rows that are made from numbers, and their items.
use Rattle.std.proofs.Common.{◌≡◌, ◌≢◌, ◌<◌, ⊎_elim, ℕ, zero, suc, List, [], ◌∷◌, map as mapped, length, get_or, set, replicate, refl, sym, ap, subst, ◌∙◌, arith}
use Rattle.std.specs.List.{range_with_len}
use Rattle.std.proofs.lemmas.Bool.{cases_eq}
use Rattle.std.proofs.lemmas.List.{ext_get_or, get_or-replicate, get_or-set_other, get_or-set_same, length-replicate, length-set}
use Rattle.std.proofs.lemmas.List.FromFn.{get_or-map-range_with_len, length-map-range_with_len}

module _ {A : Type 0} where
  -- an item of a row
  pub item-of_row : (f : ℕ → A) (n i : ℕ) (d : A) → i < n → get_or (mapped f (range_with_len 0 n)) i d ≡ f i
  item-of_row f n i d within = get_or-map-range_with_len f 0 n i i d within (omega arith)

  -- the row of another function is the row with another item, where it differs in that one alone
  pub row-set : (f g : ℕ → A) (n s : ℕ) (x : A) → g s ≡ x → ((r : ℕ) → r ≢ s → g r ≡ f r) → mapped g (range_with_len 0 n) ≡ set (mapped f (range_with_len 0 n)) s x
  row-set f g n s x here there =
      let rows = mapped f (range_with_len 0 n) in
      let many = length-map-range_with_len f 0 n in
      ext_get_or x (mapped g (range_with_len 0 n)) (set rows s x) (length-map-range_with_len g 0 n ∙ sym (length-set rows s x ∙ many))
      (λ i within.
      let few : i < n = subst (λ k. i < k) (length-map-range_with_len g 0 n) within in
      item-of_row g n i x few
      ∙ ⊎_elim
      (λ same. ap g same ∙ here ∙ sym (ap (λ k. get_or (set rows s x) k x) same ∙ get_or-set_same rows s x x (subst (λ k. k < length rows) same (subst (λ k. i < k) (sym many) few))))
      (λ apart. there i apart ∙ sym (get_or-set_other rows s i x x apart ∙ item-of_row f n i x few))
      (cases_eq i s))

  pub row-same : (f g : ℕ → A) (n : ℕ) → ((r : ℕ) → g r ≡ f r) → mapped g (range_with_len 0 n) ≡ mapped f (range_with_len 0 n)
  row-same f g n same = ap (λ (h : ℕ → A). mapped h (range_with_len 0 n)) (λ i r. same r i)

  pub row-of_one : (f : ℕ → A) (n : ℕ) (x : A) → ((r : ℕ) → f r ≡ x) → mapped f (range_with_len 0 n) ≡ replicate n x
  row-of_one f n x same =
      ext_get_or x (mapped f (range_with_len 0 n)) (replicate n x) (length-map-range_with_len f 0 n ∙ sym (length-replicate n x))
      (λ i within.
      let few : i < n = subst (λ k. i < k) (length-map-range_with_len f 0 n) within in
      item-of_row f n i x few ∙ same i ∙ sym (get_or-replicate n i x x few))

  -- an item after each is changed
  pub item-mapped : {B : Type 0} (f : A → B) (xs : List A) (i : ℕ) (d : A) → get_or (mapped f xs) i (f d) ≡ f (get_or xs i d)
  item-mapped f [] i d = refl
  item-mapped f (x ∷ xs) zero d = refl
  item-mapped f (x ∷ xs) (suc i) d = item-mapped f xs i d
