-- A number that was written is read as that number.
use Rattle.std.proofs.Common.{◌≡◌, ℕ, ◌+◌, ◌-◌, ◌*◌, ◌/◌, ◌%◌, ◌^◌, ◌<◌, ◌≤◌, true, ltb, leb, lit<, List, [], ◌∷◌, ◌++◌, length, None, Some, refl, sym, ap, subst, ◌∙◌, arith, if◌then◌else◌}
use Rattle.std.specs.Prelude.{decimal}
use Rattle.std.specs.List.{list_all}
use Rattle.std.proofs.Math.Nat.{lt_trans}
use Rattle.std.proofs.lemmas.Bool.{and_from, le-leb, lt-ltb}
use Rattle.std.proofs.lemmas.Fmt.{decimal_by_steps, decimal_nonempty, length-decimal-le}
use Rattle.std.proofs.lemmas.List.Folds.{list_all-append}
use Rattle.line_fields.specs.meaning.Fields.{has_bytes, id_of, is_digit, is_number, number_of, value_after}

value_after-push : (n : ℕ) (ds : List ℕ) (d : ℕ) → value_after n (ds ++ d ∷ []) ≡ 10 * value_after n ds + (d - 48)
value_after-push n [] d = refl
value_after-push n (x ∷ ds) d = value_after-push (10 * n + (x - 48)) ds d

-- digits that give this number
record Says (n : ℕ) (digits : List ℕ) : Type 0 where
  digits_alone : list_all is_digit digits ≡ true
  value : value_after 0 digits ≡ n

digit_passes : (d : ℕ) → 48 ≤ d → d ≤ 57 → is_digit d ≡ true
digit_passes d low high = and_from (leb 48 d) (leb d 57) (le-leb 48 d low) (le-leb d 57 high)

Says-one : (n : ℕ) → n < 10 → Says n ((48 + n) ∷ [])
Says-one n small = record {
  digits_alone = and_from _ _ (digit_passes (48 + n) (omega arith) (omega arith)) refl;
  value = omega arith;
}

Says-more : (n : ℕ) (ds : List ℕ) → 10 ≤ n → Says (n / 10) ds → Says n (ds ++ ((48 + n % 10) ∷ []))
Says-more n ds large before = record {
  digits_alone = list_all-append is_digit ds ((48 + n % 10) ∷ []) ∙ and_from _ _ before.digits_alone (and_from _ _ (digit_passes (48 + n % 10) (omega arith) (omega arith)) refl);
  value = value_after-push 0 ds (48 + n % 10) ∙ ap (λ k. 10 * k + (48 + n % 10 - 48)) before.value ∙ (omega arith);
}

Says-decimal : (n : ℕ) → n < 2 ^ 64 → Says n (decimal n)
Says-decimal = decimal_by_steps Says Says-one Says-more

pub digits-decimal : (n : ℕ) → n < 2 ^ 64 → list_all is_digit (decimal n) ≡ true
digits-decimal n fits = (Says-decimal n fits).digits_alone

has_bytes-some : (bytes : List ℕ) → 0 < length bytes → has_bytes bytes ≡ true
has_bytes-some [] h = absurd (omega arith)
has_bytes-some (b ∷ bytes) h = refl

pub has_bytes-decimal : (n : ℕ) → n < 2 ^ 64 → has_bytes (decimal n) ≡ true
has_bytes-decimal n fits = has_bytes-some (decimal n) (decimal_nonempty n fits)

is_number-decimal : (most n : ℕ) → 0 < most → n < 10 ^ most → n < 2 ^ 64 → is_number most (decimal n) ≡ true
is_number-decimal most n some short fits =
    and_from _ _ (and_from _ _ (has_bytes-decimal n fits) (le-leb _ most (length-decimal-le most n some short fits))) (digits-decimal n fits)

pub number_of-decimal : (most n : ℕ) → 0 < most → n < 10 ^ most → n < 2 ^ 64 → number_of most (decimal n) ≡ Some n
number_of-decimal most n some short fits =
    let value = (Says-decimal n fits).value in
    let number = is_number-decimal most n some short fits in
    let small : ltb (value_after 0 (decimal n)) (2 ^ 64) ≡ true = lt-ltb _ (2 ^ 64) (subst (λ k. k < 2 ^ 64) (sym value) fits) in
    ap (λ b. if b then Some (value_after 0 (decimal n)) else None) (and_from _ _ number small) ∙ ap Some value

pub id_of-decimal : (n : ℕ) → n < 2 ^ 32 → id_of (decimal n) ≡ Some n
id_of-decimal n short =
    let fits : n < 2 ^ 64 = lt_trans short (lit< tt) in
    let value = (Says-decimal n fits).value in
    let number = is_number-decimal 10 n (lit< tt) (lt_trans short (lit< tt)) fits in
    let small : ltb (value_after 0 (decimal n)) (2 ^ 32) ≡ true = lt-ltb _ (2 ^ 32) (subst (λ k. k < 2 ^ 32) (sym value) short) in
    ap (λ b. if b then Some (value_after 0 (decimal n)) else None) (and_from _ _ number small) ∙ ap Some value
