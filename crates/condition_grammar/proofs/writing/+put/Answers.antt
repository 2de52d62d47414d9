use Rattle.std.proofs.Common.{◌≡◌, ◌++◌, OnOk, sym, subst, arith}
use Rattle.condition_grammar.specs.meaning.Text.{bound_text}
use Rattle.condition_grammar.proofs.Round.{text_at-none, put_round}
use Rattle.condition_grammar.proofs.writing.+put.Goals as goal

pub put_at-returns-then-binding-asked : goal.put_at-returns-then-binding-asked
put_at-returns-then-binding-asked t c =
    let names = c.args.names.now in
    let w = bound_text names c.args.cond.now in
    subst (λ x. OnOk c.put_cond.result (c.put_cond.new.line ≡ c.args.line.now ++ x))
    (sym (text_at-none c.args.asked w (omega (arith, c.binding.ensures names, c.if-binding-asked.true)))) c.put_cond.ensures

pub put_at-returns : goal.put_at-returns
put_at-returns t c =
    let names = c.args.names.now in
    let w = bound_text names c.args.cond.now in
    subst (λ x. OnOk c.put-2.result (c.put-2.new.line ≡ x))
    (put_round c.args.asked w c.args.line.now c.put.new.line c.put_cond-2.new.line c.in_ok-put.ensures c.in_ok-put_cond.ensures
    (omega (arith, c.binding.ensures names, c.if-binding-asked.false)))
    c.put-2.ensures
