-- The values of settings in order are in the ranges of their options.
use Rattle.std.proofs.Common.{◌≡◌, ℕ, ◌<◌, ◌≤◌, ◌^◌, Bool, true, false, ◌&&◌, codes, List, [], ◌∷◌, nat_le, Option, None, Some, IfSome, unwrap_or, if◌then◌else◌, refl, sym, ap, ◌∙◌, arith}
use Rattle.std.specs.Option.{option_map_or, option_and_then}
use Rattle.std.specs.Str.{bytes_eq}
use Rattle.std.proofs.lemmas.Bool.{and_parts, leb-true}
use Rattle.std.proofs.lemmas.Slice.Eq.{bytes_eq-Decides}
use Rattle.line_fields.specs.meaning.Fields.{number_of}
use Rattle.command_words.specs.declared.command.Verb.{Verb}
use Rattle.command_words.specs.meaning.Ranges.{AreWithin, IsWithin}
use Rattle.command_words.specs.meaning.Words.{Setting, is_in_order, is_number_within, is_schedule, number_named, number_or, options_of, range_of, settings_of, takes_value, value_named, setting_fits}
use Rattle.command_words.proofs.Order.{are_in_order, fits_option}
use Rattle.command_words.proofs.Schedules.{digits_or_none, schedule-within}

number_within : (least most : ℕ) (o : Option ℕ) →
    option_map_or (λ n. nat_le least n && nat_le n most) o false ≡ true → IfSome o (IsWithin least most)
number_within least most None is = tt
number_within least most (Some n) is =
    let both = and_parts (nat_le least n) (nat_le n most) is in
    (leb-true least n both.0, leb-true n most both.1)

value_within : (least most : ℕ) (range : Option (ℕ × ℕ)) (value : List ℕ) → range ≡ Some (least, most) →
    option_map_or (λ range. is_number_within range.0 range.1 value) range false ≡ true →
    IfSome (number_of 10 value) (IsWithin least most)
value_within least most range value is takes =
    number_within least most (number_of 10 value)
    (sym (ap (λ range. option_map_or (λ range. is_number_within range.0 range.1 value) range false) is) ∙ takes)

module _ (verb : Verb) (name : List ℕ) (least most : ℕ) (other : bytes_eq name (codes "schedule") ≡ false)
    (range : range_of name ≡ Some (least, most)) where
  takes_number : (value : List ℕ) → takes_value name value ≡ true → IfSome (number_of 10 value) (IsWithin least most)
  takes_number value takes =
      value_within least most (range_of name) value range
      (sym (ap (λ b. if b then is_schedule value else option_map_or (λ range. is_number_within range.0 range.1 value) (range_of name) false) other) ∙ takes)

  first_within : (s : Setting) (settings : List Setting) → setting_fits verb s settings ≡ true →
      bytes_eq s.name name ≡ true → IfSome (number_of 10 s.value) (IsWithin least most)
  first_within s settings fits same =
      takes_number s.value
      (sym (ap (λ name. takes_value name s.value) ((bytes_eq-Decides s.name name).0 same)) ∙ (fits_option verb s settings fits).1)

  by_name : (s : Setting) (settings : List Setting) (b : Bool) → bytes_eq s.name name ≡ b →
      setting_fits verb s settings ≡ true → IfSome (number_named name settings) (IsWithin least most) →
      IfSome (option_and_then (number_of 10) (if b then Some s.value else value_named name settings)) (IsWithin least most)
  by_name s settings true same fits rest = first_within s settings fits same
  by_name s settings false other fits rest = rest

  pub named-within : (settings : List Setting) → is_in_order verb settings ≡ true →
      IfSome (number_named name settings) (IsWithin least most)
  named-within [] order = tt
  named-within (s ∷ settings) order =
      let both = and_parts (setting_fits verb s settings) (is_in_order verb settings) order in
      by_name s settings (bytes_eq s.name name) refl both.0 (named-within settings both.1)

within_or : (least most usual : ℕ) (o : Option ℕ) → IsWithin least most usual → IfSome o (IsWithin least most) →
    IsWithin least most (unwrap_or o usual)
within_or least most usual None is within = is
within_or least most usual (Some n) is within = within

short_within : (least most : ℕ) (o : Option ℕ) → most ≤ 4000000000 → IfSome o (IsWithin least most) →
    IfSome o (λ n. n < 2 ^ 32)
short_within least most None few within = tt
short_within least most (Some n) few within = omega (arith, within.1, few)

-- it fits 32 bits
pub named-short : (verb : Verb) (name : List ℕ) (least most : ℕ) → bytes_eq name (codes "schedule") ≡ false →
    range_of name ≡ Some (least, most) → most ≤ 4000000000 → (settings : List Setting) →
    is_in_order verb settings ≡ true → IfSome (number_named name settings) (λ n. n < 2 ^ 32)
named-short verb name least most other range few settings order =
    short_within least most (number_named name settings) few (named-within verb name least most other range settings order)

pub options-within : (verb : Verb) (settings : List Setting) → is_in_order verb settings ≡ true →
    AreWithin (options_of settings)
options-within verb settings order = record {
  workers = or (codes "workers") 1 16 2 refl refl (omega arith, omega arith);
  shards = or (codes "shards") 1 64 8 refl refl (omega arith, omega arith);
  window = or (codes "window") 1 4096 256 refl refl (omega arith, omega arith);
  max_records = or (codes "max-records") 1 10000000 100000 refl refl (omega arith, omega arith);
  max_lines = or (codes "max-lines") 1 4000000000 4000000000 refl refl (omega arith, omega arith);
  records = or (codes "records") 1 2 2 refl refl (omega arith, omega arith);
  at = named-within verb (codes "at") 0 4000000000 refl refl settings order;
  seed = or (codes "seed") 0 2147483647 1 refl refl (omega arith, omega arith);
  vertices = or (codes "vertices") 2 10000 200 refl refl (omega arith, omega arith);
  updates = or (codes "updates") 0 1000000 2000 refl refl (omega arith, omega arith);
  schedule = digits_or_none (value_named (codes "schedule") settings) (schedule-within verb settings order);
}
  where
    or : (name : List ℕ) (least most usual : ℕ) → bytes_eq name (codes "schedule") ≡ false →
        range_of name ≡ Some (least, most) → IsWithin least most usual → IsWithin least most (number_or usual name settings)
    or name least most usual other range is =
        within_or least most usual (number_named name settings) is (named-within verb name least most other range settings order)

-- words in order are settings in order
pub known_order : (verb : Verb) (words : List (List ℕ)) (settings : List Setting) → are_in_order verb words ≡ true →
    settings_of words ≡ Some settings → is_in_order verb settings ≡ true
known_order verb words settings order are = sym (ap (λ o. option_map_or (is_in_order verb) o false) are) ∙ order

-- words in order are some settings
pub some_settings : (verb : Verb) (words : List (List ℕ)) → are_in_order verb words ≡ true →
    (settings : List Setting) × (settings_of words ≡ Some settings)
some_settings verb words = by_settings (settings_of words)
  where
    by_settings : (o : Option (List Setting)) → option_map_or (is_in_order verb) o false ≡ true →
        (settings : List Setting) × (o ≡ Some settings)
    by_settings None order = absurd (cc)
    by_settings (Some settings) order = (settings, refl)
