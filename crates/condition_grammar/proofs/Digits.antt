-- A number of a program that was written is read as that number.
use Rattle.std.proofs.Common.{◌≡◌, ℕ, ◌^◌, ◌<◌, ◌≤◌, Bool, lit<, None, Some, Ok, ap, ◌∙◌, if◌then◌else◌}
use Rattle.std.specs.Prelude.{decimal}
use Rattle.std.proofs.Math.Nat.{lt_trans}
use Rattle.std.proofs.lemmas.Bool.{le-leb}
use Rattle.line_fields.specs.meaning.Fields.{number_of}
use Rattle.line_fields.proofs.Decimals.{number_of-decimal}
use Rattle.condition_grammar.specs.meaning.Grammar.{or_bad_form, value_up_to, at_most}

module _ (n : ℕ) (short : n < 10 ^ 10) where
  pub fits : n < 2 ^ 64
  fits = lt_trans short (lit< tt)

  pub ten_digits-decimal : number_of 10 (decimal n) ≡ Some n
  ten_digits-decimal = number_of-decimal 10 n (lit< tt) short fits

  pub value_up_to-decimal : (most : ℕ) → n ≤ most → value_up_to most (decimal n) ≡ Ok n
  value_up_to-decimal most few = ap (λ o. or_bad_form (at_most most o)) ten_digits-decimal ∙ ap (λ (b : Bool). or_bad_form (if b then Some n else None)) (le-leb n most few)
