use Rattle.graph_types.proofs.Neighbourhoods.{seen-undirected}
use Rattle.graph_types.proofs.snapshot.Snapshot.vertex.Goals as goal

pub returns : goal.returns
returns c = seen-undirected c.self.inside.arcs _ c.self.invariant c.self.view_is c.args.v _ c.vertex.ensures.label c.vertex.ensures.near
