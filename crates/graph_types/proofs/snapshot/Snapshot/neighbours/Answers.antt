use Rattle.std.proofs.Common.{ap, ◌∙◌}
use Rattle.std.specs.FinMap as map
use Rattle.std.specs.Option.{is_some}
use Rattle.std.proofs.lemmas.Option.{IfSome_then}
use Rattle.graph_types.specs.meaning.Graph.{has_edge, has_vertex, label_between, neighbours}
use Rattle.graph_types.proofs.Listing.{Lists-alike, Lists-keys}
use Rattle.graph_types.proofs.Undirected.{Lists-neighbours, labels-between}
use Rattle.graph_types.proofs.snapshot.Snapshot.neighbours.Goals as goal

pub returns-clause-there : goal.returns-clause-there
returns-clause-there c = c.neighbours.ensures.there ∙ ap (λ g. has_vertex g c.args.v) c.self.view_is

pub returns-clause-labels : goal.returns-clause-labels
returns-clause-labels c =
    IfSome_then c.neighbours.result c.neighbours.ensures.labels (λ near is w.
    is w
    ∙ labels-between c.self.inside.arcs c.self.invariant c.args.v w
    ∙ ap (λ g. label_between g c.args.v w) c.self.view_is)

pub returns-clause-vertices : goal.returns-clause-vertices
returns-clause-vertices c =
    IfSome_then c.neighbours.result c.neighbours.ensures.labels (λ near is.
    Lists-neighbours c.self.inside.arcs c.self.invariant c.args.v (map.keys near.now)
    (Lists-alike (map.contains_key near.now) (λ w. has_edge c.self.inside.arcs (c.args.v, w)) (map.keys near.now) (λ w. ap is_some (is w)) (Lists-keys near.now))
    ∙ ap (λ g. neighbours g c.args.v) c.self.view_is)
