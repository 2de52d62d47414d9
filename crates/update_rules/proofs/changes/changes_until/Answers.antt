use Rattle.std.proofs.Common.{eqb, not, sym, ◌∙◌}
use Rattle.std.specs.Option.{option_eq}
use Rattle.update_rules.specs.meaning.Parts.{change_to}
use Rattle.update_rules.specs.meaning.Places.{entry_at}
use Rattle.update_rules.proofs.Differing.{changes_until-is, nothing_to_come}
use Rattle.update_rules.proofs.changes.changes_until.Goals as goal

pub returns : goal.returns
returns c = λ after simple overlaid.
    let g = c.args.graph.now in
    sym (nothing_to_come (λ e. change_to e.0 e.1) (λ e. not (option_eq eqb (entry_at g e.0) e.1)) c.loop-place.changes _ c.in-None.ensures.steps.0)
    ∙ c.loop-place.invariant
    ∙ changes_until-is c.args.later.now c.into_iter-place-iterator.ensures.into_iter_gives.5 g after overlaid c.simple.ensures simple
