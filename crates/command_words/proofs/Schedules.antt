-- The digits of a schedule, in settings in order.
use Rattle.std.proofs.Common.{◌≡◌, ℕ, Bool, true, false, codes, List, [], ◌∷◌, length, nat_le, Option, None, Some, IfSome, IsSome, unwrap_or, if◌then◌else◌, refl, sym, ap, ◌∙◌, arith}
use Rattle.std.specs.List.{All, list_all}
use Rattle.std.specs.Option.{option_map_or}
use Rattle.std.specs.Str.{bytes_eq}
use Rattle.std.proofs.lemmas.Bool.{and_parts, leb-true}
use Rattle.std.proofs.lemmas.List.Elements.{All-cons, All-nil}
use Rattle.std.proofs.lemmas.Slice.Eq.{bytes_eq-Decides}
use Rattle.line_fields.specs.meaning.Fields.{is_digit}
use Rattle.command_words.specs.declared.command.Verb.{Verb}
use Rattle.command_words.specs.declared.command.Verb.TheVariants.{Mine, Fold, Migrate, Rehearse, Trial}
use Rattle.command_words.specs.meaning.Ranges.{AreDigits, IsWithin}
use Rattle.command_words.specs.meaning.Words.{Setting, has_option, is_in_order, is_number_within, is_schedule, most_digits, range_of, setting_fits, value_named}
use Rattle.command_words.proofs.Order.{fits_option}

-- ---- their range

digit_within : (b : ℕ) → is_digit b ≡ true → IsWithin 48 57 b
digit_within b is =
    let both = and_parts (nat_le 48 b) (nat_le b 57) is in
    (leb-true 48 b both.0, leb-true b 57 both.1)

digits_within : (digits : List ℕ) → list_all is_digit digits ≡ true → All (IsWithin 48 57) digits
digits_within [] is = All-nil (IsWithin 48 57)
digits_within (b ∷ digits) is =
    let both = and_parts (is_digit b) (list_all is_digit digits) is in
    All-cons (IsWithin 48 57) b digits (digit_within b both.0) (digits_within digits both.1)

schedule_within : (value : List ℕ) → is_schedule value ≡ true → AreDigits 4096 value
schedule_within value is =
    let both = and_parts (nat_le (length value) most_digits) (list_all is_digit value) is in
    record { few = leb-true (length value) most_digits both.0; each = digits_within value both.1 }

module _ (verb : Verb) where
  first_digits : (s : Setting) (settings : List Setting) → setting_fits verb s settings ≡ true →
      bytes_eq s.name (codes "schedule") ≡ true → AreDigits 4096 s.value
  first_digits s settings fits same =
      schedule_within s.value
      (sym (ap (λ b. if b then is_schedule s.value else option_map_or (λ range. is_number_within range.0 range.1 s.value) (range_of s.name) false) same) ∙ (fits_option verb s settings fits).1)

  by_schedule : (s : Setting) (settings : List Setting) (b : Bool) → bytes_eq s.name (codes "schedule") ≡ b →
      setting_fits verb s settings ≡ true → IfSome (value_named (codes "schedule") settings) (AreDigits 4096) →
      IfSome (if b then Some s.value else value_named (codes "schedule") settings) (AreDigits 4096)
  by_schedule s settings true same fits rest = first_digits s settings fits same
  by_schedule s settings false other fits rest = rest

  pub schedule-within : (settings : List Setting) → is_in_order verb settings ≡ true →
      IfSome (value_named (codes "schedule") settings) (AreDigits 4096)
  schedule-within [] order = tt
  schedule-within (s ∷ settings) order =
      let both = and_parts (setting_fits verb s settings) (is_in_order verb settings) order in
      by_schedule s settings (bytes_eq s.name (codes "schedule")) refl both.0 (schedule-within settings both.1)

pub digits_or_none : (o : Option (List ℕ)) → IfSome o (AreDigits 4096) → AreDigits 4096 (unwrap_or o [])
digits_or_none None within = record { few = omega arith; each = All-nil (IsWithin 48 57) }
digits_or_none (Some digits) within = within

-- ---- the command that has them

has_schedule : (verb : Verb) → has_option verb (codes "schedule") ≡ true → verb ≡ Rehearse
has_schedule Mine has = absurd (cc)
has_schedule Fold has = absurd (cc)
has_schedule Migrate has = absurd (cc)
has_schedule Rehearse has = refl
has_schedule Trial has = absurd (cc)

module _ (verb : Verb) where
  by_named : (s : Setting) (settings : List Setting) (b : Bool) → bytes_eq s.name (codes "schedule") ≡ b →
      setting_fits verb s settings ≡ true →
      (IsSome (value_named (codes "schedule") settings) → verb ≡ Rehearse) →
      IsSome (if b then Some s.value else value_named (codes "schedule") settings) → verb ≡ Rehearse
  by_named s settings true same fits rest named =
      has_schedule verb
      (sym (ap (has_option verb) ((bytes_eq-Decides s.name (codes "schedule")).0 same)) ∙ (fits_option verb s settings fits).0)
  by_named s settings false other fits rest named = rest named

  pub schedule-named : (settings : List Setting) → is_in_order verb settings ≡ true →
      IsSome (value_named (codes "schedule") settings) → verb ≡ Rehearse
  schedule-named [] order named = absurd (cc)
  schedule-named (s ∷ settings) order named =
      let both = and_parts (setting_fits verb s settings) (is_in_order verb settings) order in
      by_named s settings (bytes_eq s.name (codes "schedule")) refl both.0 (schedule-named settings both.1) named
