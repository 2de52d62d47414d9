-- Reading a number digit by digit, stopping where it no longer fits.
use Rattle.std.proofs.Common.{◌≡◌, ℕ, ◌+◌, ◌-◌, ◌*◌, ◌^◌, ◌<◌, ◌≤◌, Bool, true, false, ◌&&◌, cond, ltb, List, [], ◌∷◌, length, get_or, drop, Option, Some, None, option_and_then, ◌≢◌, lit<, refl, sym, ◌∙◌, ap, arith}
use Rattle.std.specs.List.{list_all}
use Rattle.std.proofs.lemmas.List.{at_drop_more}
use Rattle.std.proofs.lemmas.Bool.{le-ltb, lt-ltb, le-leb, ltb-true, ltb-false, and_right}
use Rattle.line_fields.specs.meaning.Fields.{is_digit, value_after, number_of, with_digit}

-- the number that digits after a number n give, read one by one
abbrev pub number_after : ℕ → List ℕ → Option ℕ
number_after n [] = Some n
number_after n (d ∷ ds) = option_and_then (λ m. number_after m ds) (with_digit n d)

-- what is read of a word from place i on, where the byte there can be read after n
pub number_after-reads : (n m i : ℕ) (word : List ℕ) → i < length word → with_digit n (get_or word i 0) ≡ Some m → number_after n (drop i word) ≡ number_after m (drop (i + 1) word)
number_after-reads n m i word within reads =
    at_drop_more (number_after n) word i 0 within ∙ ap (option_and_then (λ k. number_after k (drop (i + 1) word))) reads

-- and where it cannot
pub number_after-stops : (n i : ℕ) (word : List ℕ) → i < length word → with_digit n (get_or word i 0) ≡ None → number_after n (drop i word) ≡ None
number_after-stops n i word within refuses =
    at_drop_more (number_after n) word i 0 within ∙ ap (option_and_then (λ k. number_after k (drop (i + 1) word))) refuses

-- more digits never make a number smaller
value_after-grows : (n : ℕ) (ds : List ℕ) → n ≤ value_after n ds
value_after-grows n [] = omega arith
value_after-grows n (d ∷ ds) = omega (arith, value_after-grows (10 * n + (d - 48)) ds)

-- the same number in one step: all of them digits, and the whole fits
number_after-whole : (n : ℕ) (ds : List ℕ) → n < 2 ^ 64 → number_after n ds ≡ cond (list_all is_digit ds && ltb (value_after n ds) (2 ^ 64)) (Some (value_after n ds)) None
number_after-whole n [] fits = ap (λ t. cond t (Some n) None) (sym (lt-ltb n (2 ^ 64) fits))
number_after-whole n (d ∷ ds) fits =
    let m : ℕ = 10 * n + (d - 48) in
    let whole : Bool → Bool → Option ℕ = λ digits small. cond (digits && small) (Some (value_after m ds)) None in
    let by_tests : (t u : Bool) → is_digit d ≡ t → ltb m (2 ^ 64) ≡ u → option_and_then (λ k. number_after k ds) (cond (t && u) (Some m) None) ≡ whole (t && list_all is_digit ds) (ltb (value_after m ds) (2 ^ 64)) =
    elim [
      | false ↦ λ u _ _. refl
      | true ↦ elim [
        | true ↦ λ _ small. number_after-whole m ds (ltb-true m (2 ^ 64) small)
        | false ↦ λ _ large.
            let above : 2 ^ 64 ≤ value_after m ds = omega (arith, ltb-false m (2 ^ 64) large, value_after-grows m ds) in
            ap (λ t. cond t (Some (value_after m ds)) None) (sym (and_right (list_all is_digit ds) _ (le-ltb (value_after m ds) (2 ^ 64) above)))
      ]
    ] in
    by_tests (is_digit d) (ltb m (2 ^ 64)) refl refl

-- the same as the definition says it, for a word whose length was tested
pub number_after-number_of : (most : ℕ) (word : List ℕ) → length word ≢ 0 → length word ≤ most → number_after 0 word ≡ number_of most word
number_after-number_of most [] some short = absurd (some refl)
number_after-number_of most (d ∷ ds) some short =
    number_after-whole 0 (d ∷ ds) (lit< tt)
    ∙ ap (λ t. cond (t && list_all is_digit (d ∷ ds) && ltb (value_after 0 (d ∷ ds)) (2 ^ 64)) (Some (value_after 0 (d ∷ ds))) None) (sym (le-leb (length (d ∷ ds)) most short))
