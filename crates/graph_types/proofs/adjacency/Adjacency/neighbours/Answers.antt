use Rattle.std.proofs.Common.{ap, sym, ◌∙◌}
use Rattle.std.specs.FinMap as map
use Rattle.std.specs.Option.{is_some, option_map, option_and_then}
use Rattle.graph_types.specs.meaning.Graph.{has_vertex}
use Rattle.graph_types.proofs.Rows.{get-edges, get-labels}
use Rattle.graph_types.proofs.adjacency.Adjacency.neighbours.Goals as goal

pub returns-in-Some-clause-there : goal.returns-in-Some-clause-there
returns-in-Some-clause-there c =
    ap (λ row. is_some (option_map (λ r. r.label) row)) (c.in-Some.ensures ∙ ap (map.get c.self.inside.rows) c.v.view_is)
    ∙ ap is_some (sym (get-labels _ c.args.v))
    ∙ ap (λ g. has_vertex g c.args.v) c.self.view_is

pub returns-in-Some-clause-labels : goal.returns-in-Some-clause-labels
returns-in-Some-clause-labels c w =
    ap (option_and_then (λ row. map.get row.near w)) (c.in-Some.ensures ∙ ap (map.get c.self.inside.rows) c.v.view_is)
    ∙ sym (get-edges _ c.args.v w)
    ∙ ap (λ g. map.get g.edges (c.args.v, w)) c.self.view_is

pub returns-in-None-clause-there : goal.returns-in-None-clause-there
returns-in-None-clause-there c =
    ap (λ row. is_some (option_map (λ r. r.label) row)) (c.in-None.ensures ∙ ap (map.get c.self.inside.rows) c.v.view_is)
    ∙ ap is_some (sym (get-labels _ c.args.v))
    ∙ ap (λ g. has_vertex g c.args.v) c.self.view_is
