use Rattle.std.proofs.Common.{eqb, not, sym, ◌∙◌}
use Rattle.std.specs.Option.{option_eq}
use Rattle.update_rules.specs.meaning.Parts.{change_to}
use Rattle.update_rules.specs.meaning.Places.{entry_at}
use Rattle.update_rules.proofs.Differing.{changes_since-is, nothing_to_come}
use Rattle.update_rules.proofs.changes.changes_since.Goals as goal

pub returns : goal.returns
returns c = λ before simple overlaid.
    let g = c.args.graph.now in
    sym (nothing_to_come (λ e. change_to e.0 (entry_at g e.0)) (λ e. not (option_eq eqb e.1 (entry_at g e.0))) c.loop-place.changes _ c.in-None.ensures.steps.0)
    ∙ c.loop-place.invariant
    ∙ changes_since-is c.args.earlier.now c.into_iter-place-iterator.ensures.into_iter_gives.5 g before overlaid simple c.simple.ensures
