use Rattle.std.proofs.Common.{subst}
use Rattle.graph_types.specs.meaning.Simple.{IsSimple}
use Rattle.graph_types.proofs.Undirected.{IsSimple-undirected}
use Rattle.graph_types.proofs.snapshot.Snapshot.simple.Goals as goal

pub returns : goal.returns
returns c = subst IsSimple c.self.view_is (IsSimple-undirected _ c.self.invariant)
