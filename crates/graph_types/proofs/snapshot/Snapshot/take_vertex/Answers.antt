use Rattle.std.proofs.Common.{ap, ◌∙◌}
use Rattle.graph_types.specs.meaning.Graph.{without_vertex}
use Rattle.graph_types.proofs.Undirected.{IsUndirected-without_vertex, undirected-without_vertex}
use Rattle.graph_types.proofs.snapshot.Snapshot.take_vertex.Goals as goal

pub invariant_of-self : goal.invariant_of-self
invariant_of-self c =
    rw (c.take_edges_to.ensures, c.take_vertex-near.ensures.rest)
    (IsUndirected-without_vertex c.self.inside.arcs c.args.v c.take_vertex-near.result c.self.invariant c.take_vertex-near.ensures.taken)

pub returns : goal.returns
returns c =
    rw (c.take_edges_to.ensures, c.take_vertex-near.ensures.rest)
    (undirected-without_vertex c.self.inside.arcs c.args.v c.take_vertex-near.result c.self.invariant c.take_vertex-near.ensures.taken
    ∙ ap (λ g. without_vertex g c.args.v) c.self.view_is)
