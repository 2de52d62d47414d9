use Rattle.std.proofs.Common.{◌≡◌}
use Rattle.std.specs.FinMap as map
use Rattle.graph_types.specs.storage.Adjacency.{without_edges_to}
use Rattle.graph_types.proofs.adjacency.Adjacency.take_edges_to.Given as goal

abbrev pub invariant-loop-from : goal.invariant-loop-from
invariant-loop-from l = without_edges_to l.self l.sources l.to ≡ without_edges_to l.fn.self l.fn.sources l.to

abbrev pub decreases-loop-from : goal.decreases-loop-from
decreases-loop-from l = map.len l.sources
