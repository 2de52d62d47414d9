use Rattle.std.proofs.Common.{length, get_or, eqb, sym, ◌∙◌, ap, arith}
use Rattle.line_fields.proofs.WordsOf.{is_nothing-blank, is_nothing-first}
use Rattle.line_fields.proofs.fields.is_nothing.Goals as goal

pub returns-in-empty : goal.returns-in-empty
returns-in-empty c = sym (is_nothing-blank c.args.line.now (omega (arith, ap length c.trim_start.ensures)))

pub returns-in-len1-up : goal.returns-in-len1-up
returns-in-len1-up c =
    ap (λ text. eqb (get_or text 0 0) 35) c.trim_start.ensures
    ∙ sym (is_nothing-first c.args.line.now (omega (arith, ap length c.trim_start.ensures)))
