-- What a filter keeps of a list counts no more than the list.
use Rattle.std.proofs.Common.{◌≡◌, ℕ, ◌+◌, ◌≤◌, Bool, true, false, cond, ◌||◌, IsTrue, List, [], ◌∷◌, map, filter, max, refl, sym, ap, subst, ◌∙◌, ⊎_elim, arith, eqb}
use Rattle.std.specs.Cmp.{nat_eq_equiv}
use Rattle.std.specs.List.{AllByRecursion, IsDistinct, count_by, list_any}
use Rattle.std.specs.Set.{distinct_count, is_member, unique_keys}
use Rattle.std.proofs.lemmas.Bool.{true≢false, eqb-true, or_cases, or_left, or_right}
use Rattle.std.proofs.lemmas.List.Sums.{sum_by-cons, sum_by-append}
use Rattle.std.proofs.lemmas.Map.Made.{length-le_from_is_member}
use Rattle.conditions.specs.meaning.Counts.{largest_of, item_pairs}

one_le : (a b : Bool) → (IsTrue a → IsTrue b) → cond a 1 0 ≤ cond b 1 0
one_le true b h = subst (λ c. 1 ≤ cond c 1 0) (sym (h refl)) (omega arith)
one_le false b h = omega arith

module _ {X : Type 0} where
  count_by-cons : (p : X → Bool) (x : X) (xs : List X) → count_by p (x ∷ xs) ≡ cond (p x) 1 0 + count_by p xs
  count_by-cons p x xs = sum_by-cons (λ y. cond (p y) 1 0) x xs

  -- where each kept item that passes one test passes another
  pub count_by-filter_le : (p r kept : X → Bool) → ((x : X) → IsTrue (kept x) → IsTrue (p x) → IsTrue (r x)) → (xs : List X) → count_by p (filter kept xs) ≤ count_by r xs
  count_by-filter_le p r kept passes [] = omega arith
  count_by-filter_le p r kept passes (x ∷ xs) =
      let rest = count_by-filter_le p r kept passes xs in
      let here = count_by-cons r x xs in
      elim (kept x) as (λ b. kept x ≡ b → count_by p (cond b (x ∷ filter kept xs) (filter kept xs)) ≤ count_by r (x ∷ xs)) [
        | true ↦ λ k. let more = one_le (p x) (r x) (passes x k) in omega (arith, count_by-cons p x (filter kept xs), here, more, rest)
        | false ↦ λ _. omega (arith, here, rest)
      ] refl

  pub largest-filter_le : (f g : X → ℕ) (kept : X → Bool) → ((x : X) → f x ≤ g x) → (xs : List X) → largest_of (map f (filter kept xs)) ≤ largest_of (map g xs)
  largest-filter_le f g kept below [] = omega arith
  largest-filter_le f g kept below (x ∷ xs) =
      let rest = largest-filter_le f g kept below xs in
      let here = below x in
      elim (kept x) as (λ b. largest_of (map f (cond b (x ∷ filter kept xs) (filter kept xs))) ≤ max (g x) (largest_of (map g xs))) [
        | true ↦ omega (arith, rest, here)
        | false ↦ omega (arith, rest)
      ]

module _ {X Y : Type 0} (f : X → Y) where
  pub count_by-map : (p : Y → Bool) (xs : List X) → count_by p (map f xs) ≡ count_by (λ x. p (f x)) xs
  count_by-map p [] = refl
  count_by-map p (x ∷ xs) = count_by-cons p (f x) (map f xs) ∙ ap (λ n. cond (p (f x)) 1 0 + n) (count_by-map p xs) ∙ sym (count_by-cons (λ y. p (f y)) x xs)

  pub count_by-map_filter_le : (p : Y → Bool) (kept : X → Bool) (xs : List X) → count_by p (map f (filter kept xs)) ≤ count_by p (map f xs)
  count_by-map_filter_le p kept xs = omega (arith, count_by-map p (filter kept xs), count_by-map p xs, count_by-filter_le (λ x. p (f x)) (λ x. p (f x)) kept (λ _ _ t. t) xs)

  list_any-map_filter : (p : Y → Bool) (kept : X → Bool) (xs : List X) → IsTrue (list_any p (map f (filter kept xs))) → IsTrue (list_any p (map f xs))
  list_any-map_filter p kept [] h = h
  list_any-map_filter p kept (x ∷ xs) h =
      elim (kept x) as (λ b. IsTrue (list_any p (map f (cond b (x ∷ filter kept xs) (filter kept xs)))) → IsTrue (p (f x) || list_any p (map f xs))) [
        | true ↦ λ t. ⊎_elim (or_left (p (f x)) _) (λ r. or_right (p (f x)) _ (list_any-map_filter p kept xs r)) (or_cases (p (f x)) _ t)
        | false ↦ λ t. or_right (p (f x)) _ (list_any-map_filter p kept xs t)
      ] h

-- different labels

same_keys : (xs : List ℕ) (q : ℕ) → is_member eqb (unique_keys eqb xs) q ≡ is_member eqb xs q
same_keys [] q = refl
same_keys (x ∷ xs) q = by (is_member eqb xs x) (eqb q x) refl refl (same_keys xs q)
  where
    by : (b c : Bool) → is_member eqb xs x ≡ b → eqb q x ≡ c → is_member eqb (unique_keys eqb xs) q ≡ is_member eqb xs q → is_member eqb (cond b (unique_keys eqb xs) (x ∷ unique_keys eqb xs)) q ≡ (c || is_member eqb xs q)
    by true true there tied r = r ∙ ap (is_member eqb xs) (eqb-true q x tied) ∙ there
    by true false there tied r = r
    by false c there tied r = ap (λ v. v || is_member eqb (unique_keys eqb xs) q) tied ∙ ap (λ v. c || v) r

apart : (x : ℕ) (ys : List ℕ) → is_member eqb ys x ≡ false → AllByRecursion (λ y. eqb x y ≡ false) ys
apart x [] h = tt
apart x (y ∷ ys) h =
    elim (eqb x y) as (λ b. eqb x y ≡ b → (b || is_member eqb ys x) ≡ false → (eqb x y ≡ false) × AllByRecursion (λ z. eqb x z ≡ false) ys) [
      | true ↦ λ t g. absurd (true≢false g)
      | false ↦ λ t g. (t, apart x ys g)
    ] refl h

unique : (xs : List ℕ) → IsDistinct eqb (unique_keys eqb xs)
unfolding IsDistinct
unique [] = tt
unique (x ∷ xs) =
    elim (is_member eqb xs x) as (λ b. is_member eqb xs x ≡ b → IsDistinct eqb (cond b (unique_keys eqb xs) (x ∷ unique_keys eqb xs))) [
      | true ↦ λ _. unique xs
      | false ↦ λ absent. (apart x (unique_keys eqb xs) (same_keys xs x ∙ absent), unique xs)
    ] refl

distinct_count-le_of_keys : (xs ys : List ℕ) → ((q : ℕ) → IsTrue (is_member eqb xs q) → IsTrue (is_member eqb ys q)) → distinct_count eqb xs ≤ distinct_count eqb ys
distinct_count-le_of_keys xs ys within =
    length-le_from_is_member nat_eq_equiv (unique_keys eqb xs) (unique_keys eqb ys) (unique xs) (λ q m. same_keys ys q ∙ within q (sym (same_keys xs q) ∙ m))

pub distinct_count-map_filter_le : {X : Type 0} (f : X → ℕ) (kept : X → Bool) (xs : List X) → distinct_count eqb (map f (filter kept xs)) ≤ distinct_count eqb (map f xs)
distinct_count-map_filter_le f kept xs = distinct_count-le_of_keys (map f (filter kept xs)) (map f xs) (λ q m. list_any-map_filter f (eqb q) kept xs m)

-- pairs

pub count_by-pairs_filter_le : (p r : ℕ × ℕ → Bool) (kept : ℕ → Bool) → ((x y : ℕ) → IsTrue (kept x) → IsTrue (kept y) → IsTrue (p (x, y)) → IsTrue (r (x, y))) →
    (xs : List ℕ) → count_by p (item_pairs (filter kept xs)) ≤ count_by r (item_pairs xs)
count_by-pairs_filter_le p r kept passes [] = omega arith
count_by-pairs_filter_le p r kept passes (x ∷ xs) =
    let rest = count_by-pairs_filter_le p r kept passes xs in
    let here = with_first r xs in
    elim (kept x) as (λ b. kept x ≡ b → count_by p (item_pairs (cond b (x ∷ filter kept xs) (filter kept xs))) ≤ count_by r (item_pairs (x ∷ xs))) [
      | true ↦ λ k.
          let firsts = count_by-filter_le (λ y. p (x, y)) (λ y. r (x, y)) kept (λ y. passes x y k) xs in
          omega (arith, with_first p (filter kept xs), here, firsts, rest)
      | false ↦ λ _. omega (arith, here, rest)
    ] refl
  where
    with_first : (s : ℕ × ℕ → Bool) (ys : List ℕ) → count_by s (item_pairs (x ∷ ys)) ≡ count_by (λ y. s (x, y)) ys + count_by s (item_pairs ys)
    with_first s ys =
        sum_by-append (λ e. cond (s e) 1 0) (map (λ (y : ℕ). (x, y)) ys) (item_pairs ys) ∙ ap (λ n. n + count_by s (item_pairs ys)) (count_by-map (λ (y : ℕ). (x, y)) s ys)
