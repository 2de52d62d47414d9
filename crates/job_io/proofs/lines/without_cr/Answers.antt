use Rattle.std.proofs.Common.{◌++◌, ◌∷◌, [], cond, sym, ◌∙◌, ap}
use Rattle.std.proofs.lemmas.Bool.{eq-eqb, ne_eqb}
use Rattle.job_io.specs.meaning.Lines.{without_cr, cr}
use Rattle.job_io.proofs.LinesOf.{without_cr-push}
use Rattle.job_io.proofs.lines.without_cr.Goals as goal

pub returns-then-last-eq13 : goal.returns-then-last-eq13
returns-then-last-eq13 c =
    let rest = c.in-Some.rest.now in
    let last = c.in-Some.last.now in
    sym (ap without_cr c.in-Some.ensures.cases.0 ∙ without_cr-push rest last ∙ ap (λ t. cond t rest (rest ++ last ∷ [])) (eq-eqb last cr c.if-last-eq13.true))

pub returns-else-last-eq13 : goal.returns-else-last-eq13
returns-else-last-eq13 c =
    let rest = c.in-Some.rest.now in
    let last = c.in-Some.last.now in
    c.in-Some.ensures.cases.0 ∙ sym (ap without_cr c.in-Some.ensures.cases.0 ∙ without_cr-push rest last ∙ ap (λ t. cond t rest (rest ++ last ∷ [])) (ne_eqb last cr c.if-last-eq13.false))
