use Rattle.std.proofs.Common.{arith, ap, sym, subst, ◌∙◌}
use Rattle.std.specs.FinMap as map
use Rattle.std.specs.Option.{is_some}
use Rattle.graph_types.specs.meaning.Graph.{HasEnds}
use Rattle.graph_types.proofs.Undirected.{edge-below, HasEnds-undirected}
use Rattle.graph_types.proofs.snapshot.Snapshot.edge_label.Goals as goal

pub returns-clause-label : goal.returns-clause-label
returns-clause-label c =
    c.edge_label.ensures
    ∙ sym (edge-below c.self.inside.arcs _ _ (omega (arith, c.a-low.ensures.ordered, c.b-high.ensures.higher)))
    ∙ (λ i. map.get (c.self.view_is i).edges (c.a-low.ensures.lower i, c.b-high.ensures.higher i))

pub returns-clause-ends : goal.returns-clause-ends
returns-clause-ends c has =
    let ends = HasEnds-undirected c.self.inside.arcs c.self.invariant _ _ (ap is_some (sym c.edge_label.ensures) ∙ has) in
    subst (λ e. HasEnds c.args.self.now e) (λ i. (c.a-low.ensures.lower i, c.b-high.ensures.higher i)) (subst (λ g. HasEnds g (c.a-low.result, c.b-high.result)) c.self.view_is ends)
