use Rattle.std.proofs.Common.{◌≡◌, map, string_bytes, sym, ap, ◌∙◌}
use Rattle.command_words.specs.meaning.Words.{setting_of, settings_of}
use Rattle.command_words.proofs.Order.{out_of_order, in_order_as_later}
use Rattle.command_words.proofs.Splitting.{after, first_and_rest}
use Rattle.command_words.proofs.options.are_in_order.Goals as goal

pub returns-then-not-fits : goal.returns-then-not-fits
returns-then-not-fits c =
    let s = setting_of c.in-Some.setting.name.now c.in-Some.setting.value.now in
    let rest = map string_bytes c.loop-rest.rest.now in
    let later = map string_bytes c.in-Some.later.now in
    let first : settings_of rest ≡ after s later =
    ap (λ rest. settings_of (map string_bytes rest)) (first_and_rest c.loop-rest.rest.now c.word-item.result c.in-len1-up.len_at_least c.word-item.is) ∙ c.in-Some.ensures.parts in
    sym (out_of_order c.args.verb s rest later first (λ settings are. sym (c.fits.ensures settings are) ∙ c.if-not-fits.true)) ∙ c.loop-rest.invariant

pub loop-rest-preserved : goal.loop-rest-preserved
loop-rest-preserved c =
    let s = setting_of c.in-Some.setting.name.now c.in-Some.setting.value.now in
    let rest = map string_bytes c.loop-rest.rest.now in
    let later = map string_bytes c.in-Some.later.now in
    let first : settings_of rest ≡ after s later =
    ap (λ rest. settings_of (map string_bytes rest)) (first_and_rest c.loop-rest.rest.now c.word-item.result c.in-len1-up.len_at_least c.word-item.is) ∙ c.in-Some.ensures.parts in
    sym (in_order_as_later c.args.verb s rest later first (λ settings are. sym (c.fits.ensures settings are) ∙ c.if-not-fits.false)) ∙ c.loop-rest.invariant
