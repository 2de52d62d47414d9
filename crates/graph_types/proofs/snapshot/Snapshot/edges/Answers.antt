use Rattle.std.proofs.Common.{ap, ◌∙◌}
use Rattle.std.specs.FinMap as map
use Rattle.std.proofs.lemmas.Result.{IfOk-weaker}
use Rattle.graph_types.proofs.Undirected.{keys-undirected}
use Rattle.graph_types.proofs.snapshot.Snapshot.edges.Goals as goal

pub returns : goal.returns
returns c = IfOk-weaker c.edges_up.result _ _ (λ es is. is ∙ keys-undirected c.self.inside.arcs ∙ ap (λ g. map.keys g.edges) c.self.view_is) c.edges_up.ensures
