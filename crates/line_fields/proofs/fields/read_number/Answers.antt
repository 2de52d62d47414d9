use Rattle.std.proofs.Common.{sym, ◌∙◌, rules}
use Rattle.std.proofs.lemmas.List.{at_drop_all}
use Rattle.line_fields.proofs.NumberOf.{number_after, number_after-stops, number_after-number_of}
use Rattle.line_fields.proofs.fields.read_number.Goals as goal

pub returns-in_err-number : goal.returns-in_err-number
returns-in_err-number c =
    let word = c.args.word.now in
    c.from_residual.ensures
    ∙ sym (number_after-stops c.loop-b.number c.loop-b.b-index word c.loop-b-test.true (sym c.with_digit.ensures ∙ c.in_err-number.was))
    ∙ c.loop-b.invariant
    ∙ number_after-number_of c.args.digits word (search rules) c.if-word-digits.false

pub returns : goal.returns
returns c =
    let word = c.args.word.now in
    sym (at_drop_all (number_after c.loop-b.number) word c.loop-b.b-index c.loop-b-test.false)
    ∙ c.loop-b.invariant
    ∙ number_after-number_of c.args.digits word (search rules) c.if-word-digits.false
