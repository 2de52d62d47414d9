use Rattle.std.proofs.Common.{◌<◌, arith, ◌∙◌}
use Rattle.graph_types.specs.meaning.Graph.{without_edge}
use Rattle.graph_types.proofs.Undirected.{take_both, IsUndirected-take_both}
use Rattle.graph_types.proofs.snapshot.Snapshot.take_edge.Goals as goal

below : (c : goal.After-take_edge-2) → c.a-a.result < c.b-b.result
below c = omega (arith, c.a-a.ensures.ordered, c.b-b.ensures.higher)

pub invariant_of-self : goal.invariant_of-self
invariant_of-self c =
    rw (c.take_edge-2.ensures, c.take_edge.ensures) (IsUndirected-take_both c.self.inside.arcs _ _ (below c) c.self.invariant)

pub returns : goal.returns
returns c =
    rw (c.take_edge-2.ensures, c.take_edge.ensures)
    (take_both c.self.inside.arcs _ _ (below c) ∙ (λ i. without_edge (c.self.view_is i) (c.a-a.ensures.lower i, c.b-b.ensures.higher i)))
