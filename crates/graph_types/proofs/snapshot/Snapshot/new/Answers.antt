use Rattle.std.proofs.Common.{ap, ◌∙◌}
use Rattle.graph_types.specs.storage.Adjacency.{undirected_graph}
use Rattle.graph_types.proofs.Undirected.{IsUndirected-empty_graph, undirected-empty_graph}
use Rattle.graph_types.proofs.snapshot.Snapshot.new.Goals as goal

pub invariant_of-result : goal.invariant_of-result
invariant_of-result c = rw c.new.ensures IsUndirected-empty_graph

pub returns : goal.returns
returns c = ap undirected_graph c.new.ensures ∙ undirected-empty_graph
