use Rattle.std.proofs.Common.{rules, tests, ◌≡◌, ◌≤◌, ◌&&◌, length, sym, ap, ◌∙◌, arith}
use Rattle.std.proofs.lemmas.Bool.{le-leb}
use Rattle.std.proofs.lemmas.Iterator.Search.{all_from_yields_List}
use Rattle.std.proofs.lemmas.Iterator.{YieldsList-from_slice}
use Rattle.std.specs.List.{list_all}
use Rattle.line_fields.specs.meaning.Fields.{is_digit}
use Rattle.command_words.proofs.options.is_schedule.Goals as goal

pub returns-then-value-le-SCHEDULE_DIGITS : goal.returns-then-value-le-SCHEDULE_DIGITS
returns-then-value-le-SCHEDULE_DIGITS c =
    let value = c.args.value.now in
    let digits : c.all.result ≡ list_all is_digit value =
    all_from_yields_List is_digit _ _ _ c.all.ensures.ran (YieldsList-from_slice value cc) (λ x b q k. search (rules, tests)) in
    let few : length value ≤ 4096 = omega arith in
    digits ∙ ap (λ b. b && list_all is_digit value) (sym (le-leb (length value) 4096 few))
