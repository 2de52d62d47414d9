use Rattle.std.proofs.Common.{◌≡◌, ◌≢◌, ◌-◌, ◌+◌, length, sym, ◌∙◌, ap, arith}
use Rattle.std.proofs.lemmas.Bool.{both_ways, eq-eqb}
use Rattle.std.proofs.lemmas.Bool.Decides.{nat_tests}
use Rattle.line_fields.specs.meaning.Fields.{rest_of, trim_start, after_word}
use Rattle.line_fields.proofs.WordsOf.{rest_of-step, rest_of-blank, rest_of-word}
use Rattle.line_fields.proofs.fields.rest.Goals as goal

pub loop-preserved : goal.loop-preserved
loop-preserved c =
    ap (λ text. rest_of text (c.args.i - (c.loop.counter + 1))) (c.after_word-rest.ensures ∙ ap after_word c.trim_start.ensures)
    ∙ rest_of-step c.loop.rest.now (c.args.i - (c.loop.counter + 1)) (c.args.i - c.loop.counter) (omega arith)
    ∙ c.loop.invariant

pub returns-then-is_empty-2 : goal.returns-then-is_empty-2
returns-then-is_empty-2 c =
    let done : 0 ≡ c.args.i - c.loop.counter = omega arith in
    let blank : length (trim_start c.loop.rest.now) ≡ 0 = ap length (sym c.trim_start-2.ensures) ∙ grind (arith, nat_tests) in
    sym (rest_of-blank c.loop.rest.now blank) ∙ ap (rest_of c.loop.rest.now) done ∙ c.loop.invariant

pub returns-else-is_empty-2 : goal.returns-else-is_empty-2
returns-else-is_empty-2 c =
    let done : 0 ≡ c.args.i - c.loop.counter = omega arith in
    let word : length (trim_start c.loop.rest.now) ≢ 0 = λ e. both_ways _ (sym c.if-is_empty-2.ensures) (eq-eqb _ 0 (ap length c.trim_start-2.ensures ∙ e)) in
    sym (rest_of-word c.loop.rest.now (omega arith)) ∙ ap (rest_of c.loop.rest.now) done ∙ c.loop.invariant
