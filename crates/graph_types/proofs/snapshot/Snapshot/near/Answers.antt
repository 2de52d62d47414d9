use Rattle.std.proofs.Common.{ap, ◌∙◌}
use Rattle.std.proofs.lemmas.Result.{IfOk-weaker}
use Rattle.graph_types.specs.meaning.Graph.{neighbours}
use Rattle.graph_types.proofs.Undirected.{Lists-neighbours}
use Rattle.graph_types.proofs.snapshot.Snapshot.near.Goals as goal

pub returns : goal.returns
returns c = IfOk-weaker c.near.result _ _ (λ ws lists. Lists-neighbours c.self.inside.arcs c.self.invariant c.args.v ws lists ∙ ap (λ g. neighbours g c.args.v) c.self.view_is) c.near.ensures
