use Rattle.std.proofs.Common.{ap, ◌∙◌}
use Rattle.graph_types.specs.storage.Adjacency.{undirected_graph}
use Rattle.graph_types.specs.meaning.Graph.{with_vertex}
use Rattle.graph_types.proofs.Undirected.{IsUndirected-with_vertex}
use Rattle.graph_types.proofs.snapshot.Snapshot.put_vertex.Goals as goal

pub invariant_of-self-2 : goal.invariant_of-self-2
invariant_of-self-2 c = rw c.in_ok-put_vertex.ensures.ok (IsUndirected-with_vertex c.self.inside.arcs c.args.v c.args.l c.self.invariant)

pub returns-clause-ok : goal.returns-clause-ok
returns-clause-ok c = ap undirected_graph c.in_ok-put_vertex.ensures.ok ∙ ap (λ g. with_vertex g c.args.v c.args.l) c.self.view_is
