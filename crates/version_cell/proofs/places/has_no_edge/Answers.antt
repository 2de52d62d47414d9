use Rattle.std.proofs.Common.{◌||◌, refl, sym, ap, ◌∙◌}
use Rattle.std.proofs.lemmas.Bool.{false≢true}
use Rattle.version_cell.proofs.NoEdges.{has_edge, has_edge-none, near_at_floor-none}
use Rattle.version_cell.proofs.places.has_no_edge.Goals as goal

pub returns-then-is_some : goal.returns-then-is_some
returns-then-is_some c = (
  λ is. absurd (false≢true is),
  λ none.
      sym (has_edge-none c.args.places.now none)
      ∙ sym c.loop-at_floor.invariant
      ∙ ap has_edge c.in-Some.ensures.steps
      ∙ ap (λ b. b || has_edge c.next.new.self) (sym c.is_some.ensures ∙ c.if-is_some.true),
)

pub returns : goal.returns
returns c = (λ _. near_at_floor-none c.args.places.now (sym c.loop-at_floor.invariant ∙ ap has_edge c.in-None.ensures.steps.0), λ _. refl)
