-- Settings in order, from the first one on.
use Rattle.std.proofs.Common.{◌≡◌, ℕ, Bool, true, false, ◌&&◌, List, ◌∷◌, Option, None, Some, is_none, refl, sym, ap, ◌∙◌, if◌then◌else◌}
use Rattle.std.specs.Option.{option_map, option_map_or, option_and_then}
use Rattle.std.proofs.lemmas.Bool.{and_parts}
use Rattle.command_words.specs.declared.command.Options.{Options}
use Rattle.command_words.specs.declared.command.Verb.{Verb}
use Rattle.command_words.specs.meaning.Words.{Setting, has_option, is_in_order, options_of, options_of_words, setting_fits, settings_of, takes_value, value_named}
use Rattle.command_words.proofs.Splitting.{after}

-- the words are settings in order
abbrev pub are_in_order : Verb → List (List ℕ) → Bool
are_in_order verb words = option_map_or (is_in_order verb) (settings_of words) false

-- a setting that fits is of an option, which takes its value
pub fits_option : (verb : Verb) (s : Setting) (settings : List Setting) → setting_fits verb s settings ≡ true →
    (has_option verb s.name ≡ true) × (takes_value s.name s.value ≡ true)
fits_option verb s settings fits =
    let first = (and_parts (has_option verb s.name && takes_value s.name s.value) (is_none (value_named s.name settings)) fits).0 in
    and_parts (has_option verb s.name) (takes_value s.name s.value) first

-- where all settings that some words may be pass or fail alike
alike : (f g : List Setting → Bool) (o : Option (List Setting)) → ((settings : List Setting) → o ≡ Some settings → f settings ≡ g settings) → option_map_or f o false ≡ option_map_or g o false
alike f g None same = refl
alike f g (Some settings) same = same settings refl

never : (o : Option (List Setting)) → option_map_or (λ settings. false) o false ≡ false
never None = refl
never (Some settings) = refl

module _ (verb : Verb) (s : Setting) (words later : List (List ℕ)) (first : settings_of words ≡ after s later) where
  abbrev with_first : List Setting → Bool
  with_first settings = setting_fits verb s settings && is_in_order verb settings

  by_first : are_in_order verb words ≡ option_map_or with_first (settings_of later) false
  by_first = ap (λ o. option_map_or (is_in_order verb) o false) first ∙ by_later (settings_of later)
    where
      by_later : (o : Option (List Setting)) → option_map_or (is_in_order verb) (option_map (λ more. s ∷ more) o) false ≡ option_map_or with_first o false
      by_later None = refl
      by_later (Some settings) = refl

  pub out_of_order : ((settings : List Setting) → settings_of later ≡ Some settings → setting_fits verb s settings ≡ false) → are_in_order verb words ≡ false
  out_of_order unfit =
      by_first
      ∙ alike with_first (λ settings. false) (settings_of later) (λ settings are i. unfit settings are i && is_in_order verb settings)
      ∙ never (settings_of later)

  pub in_order_as_later : ((settings : List Setting) → settings_of later ≡ Some settings → setting_fits verb s settings ≡ true) → are_in_order verb words ≡ are_in_order verb later
  in_order_as_later fit =
      by_first ∙ alike with_first (is_in_order verb) (settings_of later) (λ settings are i. fit settings are i && is_in_order verb settings)

-- ---- what is said

pub options_said-out_of_order : (verb : Verb) (words : List (List ℕ)) → are_in_order verb words ≡ false → options_of_words verb words ≡ None
options_said-out_of_order verb words = by_settings (settings_of words)
  where
    by_settings : (o : Option (List Setting)) → option_map_or (is_in_order verb) o false ≡ false → option_and_then (λ settings. if is_in_order verb settings then Some (options_of settings) else None) o ≡ None
    by_settings None out = refl
    by_settings (Some settings) out = ap (λ b. if b then Some (options_of settings) else None) out

pub options_said-known : (verb : Verb) (words : List (List ℕ)) (settings : List Setting) (options : Options) →
    settings_of words ≡ Some settings → is_in_order verb settings ≡ true → options ≡ options_of settings →
    options_of_words verb words ≡ Some options
options_said-known verb words settings options are order same =
    ap (option_and_then (λ settings. if is_in_order verb settings then Some (options_of settings) else None)) are
    ∙ ap (λ b. if b then Some (options_of settings) else None) order
    ∙ ap Some (sym same)
