use Rattle.std.proofs.Common.{◌≡◌, ◌-◌, ◌∷◌, Some, None, length, take, drop, map, string_bytes, sym, ap, ◌∙◌}
use Rattle.std.specs.Option.{option_map}
use Rattle.command_words.specs.meaning.Words.{after_dashes, setting_of_text, setting_of, settings_of, two_word_setting}
use Rattle.command_words.proofs.Splitting.{first_and_rest, one_word-parted, settings_of-one_word, settings_of-two_words}
use Rattle.command_words.proofs.settings.split_setting.Goals as goal

pub returns-in-Some-clause-parts : goal.returns-in-Some-clause-parts
returns-in-Some-clause-parts c =
    let word = string_bytes c.args.word.now in
    let s = setting_of c.in-Some.setting.name.now c.in-Some.setting.value.now in
    let dashes : after_dashes word ≡ Some c.in_ok-text.text.now = ap after_dashes (sym c.as_bytes.ensures.value) ∙ sym c.behind_dashes.ensures ∙ ap (option_map (λ text. text.now)) c.in_ok-text.was in
    let is : setting_of_text c.in_ok-text.text.now ≡ Some s = sym c.split_at_equals.ensures ∙ ap (option_map (λ s. setting_of s.name.now s.value.now)) c.in-Some.is in
    let done = settings_of-one_word word (map string_bytes c.args.behind.now) s (one_word-parted word c.in_ok-text.text.now (Some s) dashes is) in
    done

pub returns-in-len1-up-clause-parts : goal.returns-in-len1-up-clause-parts
returns-in-len1-up-clause-parts c =
    let word = string_bytes c.args.word.now in
    let dashes : after_dashes word ≡ Some c.in_ok-text.text.now = ap after_dashes (sym c.as_bytes.ensures.value) ∙ sym c.behind_dashes.ensures ∙ ap (option_map (λ text. text.now)) c.in_ok-text.was in
    let next = string_bytes c.value-item.result in
    let later = take (length c.args.behind.now - 1) (drop 1 c.args.behind.now) in
    let other : setting_of_text c.in_ok-text.text.now ≡ None = sym c.split_at_equals.ensures ∙ ap (option_map (λ s. setting_of s.name.now s.value.now)) c.in_default.is in
    let is : two_word_setting word next ≡ Some (setting_of c.in_ok-text.text.now c.as_bytes-in-len1-up.result.now) =
    ap (option_map (λ name. setting_of name next)) dashes ∙ ap (λ value. Some (setting_of c.in_ok-text.text.now value)) (sym c.as_bytes-in-len1-up.ensures.value) in
    ap (λ behind. settings_of (word ∷ map string_bytes behind)) (first_and_rest c.args.behind.now c.value-item.result c.in-len1-up.len_at_least c.value-item.is)
    ∙ settings_of-two_words word next (map string_bytes later) _ (one_word-parted word c.in_ok-text.text.now None dashes other) is
