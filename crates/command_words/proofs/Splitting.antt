-- The first setting of some words, and what is after it.
use Rattle.std.proofs.Common.{◌≡◌, ℕ, suc, ◌+◌, ◌-◌, ◌≤◌, false, List, [], ◌∷◌, Option, None, Some, length, get_or, take, drop, if◌then◌else◌, refl, sym, ap, ◌∙◌, arith}
use Rattle.std.specs.Option.{option_map, option_and_then}
use Rattle.std.specs.List.{position}
use Rattle.std.specs.Str.{bytes_eq}
use Rattle.std.proofs.lemmas.List.{take_all, length-drop}
use Rattle.command_words.specs.meaning.Words.{Setting, after_dashes, is_equals, one_word_setting, setting_of_text, setting_of, settings_of, two_word_setting, value_named}

-- the settings that begin with s
abbrev pub after : Setting → List (List ℕ) → Option (List Setting)
after s words = option_map (λ more. s ∷ more) (settings_of words)

pub settings_of-one_word : (word : List ℕ) (words : List (List ℕ)) (s : Setting) → one_word_setting word ≡ Some s → settings_of (word ∷ words) ≡ after s words
settings_of-one_word word [] s is = ap (option_map (λ s. s ∷ [])) is
settings_of-one_word word (next ∷ words) s is =
    ap (λ o. elim o as (λ o. Option (List Setting)) [
      | Some s ↦ after s (next ∷ words)
      | None ↦ option_and_then (λ s. after s words) (two_word_setting word next)
    ]) is

pub settings_of-two_words : (word next : List ℕ) (words : List (List ℕ)) (s : Setting) → one_word_setting word ≡ None → two_word_setting word next ≡ Some s → settings_of (word ∷ next ∷ words) ≡ after s words
settings_of-two_words word next words s other is =
    ap (λ o. elim o as (λ o. Option (List Setting)) [
      | Some s ↦ after s (next ∷ words)
      | None ↦ option_and_then (λ s. after s words) (two_word_setting word next)
    ]) other
    ∙ ap (option_and_then (λ s. after s words)) is

pub settings_of-value_missing : (word : List ℕ) → one_word_setting word ≡ None → settings_of (word ∷ []) ≡ None
settings_of-value_missing word other = ap (option_map (λ s. s ∷ [])) other

pub settings_of-no_dashes : (word : List ℕ) (words : List (List ℕ)) → after_dashes word ≡ None → settings_of (word ∷ words) ≡ None
settings_of-no_dashes word [] none = ap (λ o. option_map (λ s. s ∷ []) (option_and_then setting_of_text o)) none
settings_of-no_dashes word (next ∷ words) none =
    ap (λ o. elim (option_and_then setting_of_text o) as (λ _. Option (List Setting)) [
      | Some s ↦ after s (next ∷ words)
      | None ↦ option_and_then (λ s. after s words) (option_map (λ name. setting_of name next) o)
    ]) none

pub parted-at : (text : List ℕ) (i : ℕ) → position is_equals text ≡ Some i → Some (setting_of (take i text) (take (length text - (i + 1)) (drop (i + 1) text))) ≡ setting_of_text text
parted-at text i is =
    ap (λ value. Some (setting_of (take i text) value)) (take_all (length text - (i + 1)) (drop (i + 1) text) (omega (arith, length-drop (i + 1) text)))
    ∙ ap (option_map (λ i. setting_of (take i text) (drop (i + 1) text))) (sym is)

pub one_word-parted : (word text : List ℕ) (o : Option Setting) → after_dashes word ≡ Some text → setting_of_text text ≡ o → one_word_setting word ≡ o
one_word-parted word text o dashes is = ap (option_and_then setting_of_text) dashes ∙ is

-- the pattern of a first item and the rest
pub first_and_rest : {X : Type 0} (items : List X) (x : X) → 1 ≤ length items → x ≡ get_or items 0 x → items ≡ x ∷ take (length items - 1) (drop 1 items)
first_and_rest [] x some is = absurd (omega (arith, some))
first_and_rest (y ∷ items) x some is = (λ i. sym is i ∷ sym (take_all (suc (length items) - 1) items (omega arith)) i)

-- what a name is given stands after a setting of another name
pub value_named-later : (name : List ℕ) (s : Setting) (words later : List (List ℕ)) (settings : List Setting) → settings_of words ≡ after s later → bytes_eq s.name name ≡ false → settings_of words ≡ Some settings →
    (left : List Setting) × (settings_of later ≡ Some left) × (value_named name settings ≡ value_named name left)
value_named-later name s words later settings first other are =
    let by_rest : (o : Option (List Setting)) → settings_of later ≡ o → option_map (λ more. s ∷ more) o ≡ Some settings → (left : List Setting) × (settings_of later ≡ Some left) × (value_named name settings ≡ value_named name left) = elim [
      | None ↦ λ _ none. absurd (cc)
      | Some left ↦ λ rest is.
          let same : s ∷ left ≡ settings = cc in
          (left, rest, ap (value_named name) (sym same) ∙ ap (λ b. if b then Some s.value else value_named name left) other)
    ] in
    by_rest (settings_of later) refl (sym first ∙ are)
