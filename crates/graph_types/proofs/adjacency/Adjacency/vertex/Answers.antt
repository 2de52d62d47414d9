use Rattle.std.proofs.Common.{ap, sym, ◌∙◌}
use Rattle.std.specs.FinMap as map
use Rattle.std.specs.Option.{option_map, option_and_then}
use Rattle.graph_types.proofs.Neighbourhoods.{seen-label, seen-near}
use Rattle.graph_types.proofs.Rows.{get-edges, get-labels}
use Rattle.graph_types.proofs.adjacency.Adjacency.vertex.Goals as goal

pub returns-clause-label : goal.returns-clause-label
returns-clause-label c =
    seen-label c.get.result
    ∙ ap (option_map (λ row. row.label)) (c.get.ensures ∙ ap (map.get c.self.inside.rows) c.v.view_is)
    ∙ sym (get-labels _ c.args.v)
    ∙ ap (λ g. map.get g.labels c.args.v) c.self.view_is

pub returns-clause-near : goal.returns-clause-near
returns-clause-near c w =
    seen-near c.get.result w
    ∙ ap (option_and_then (λ row. map.get row.near w)) (c.get.ensures ∙ ap (map.get c.self.inside.rows) c.v.view_is)
    ∙ sym (get-edges _ c.args.v w)
    ∙ ap (λ g. map.get g.edges (c.args.v, w)) c.self.view_is
