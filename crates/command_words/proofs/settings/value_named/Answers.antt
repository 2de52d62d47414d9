use Rattle.std.proofs.Common.{◌≡◌, false, map, string_bytes, sym, ap, ◌∙◌}
use Rattle.std.specs.Str.{bytes_eq}
use Rattle.command_words.specs.meaning.Words.{setting_of, settings_of}
use Rattle.command_words.proofs.Splitting.{after, first_and_rest, value_named-later}
use Rattle.command_words.proofs.settings.value_named.Goals as goal

pub loop-rest-preserved : goal.loop-rest-preserved
loop-rest-preserved c = λ settings are.
    let s = setting_of c.in_ok-setting.setting.name.now c.in_ok-setting.setting.value.now in
    let rest = map string_bytes c.loop-rest.rest.now in
    let later = map string_bytes c.in_ok-setting.later.now in
    let first : settings_of rest ≡ after s later =
    ap (λ rest. settings_of (map string_bytes rest)) (first_and_rest c.loop-rest.rest.now c.word-item.result c.in-len1-up.len_at_least c.word-item.is) ∙ c.in_ok-setting.ensures.parts in
    let other : bytes_eq s.name c.args.name.now ≡ false = sym c.if-eq.ensures in
    let left = c.loop-rest.invariant settings are in
    let behind = value_named-later c.args.name.now s rest later left.0 first other left.1 in
    (behind.0, behind.1, left.2 ∙ behind.2)
