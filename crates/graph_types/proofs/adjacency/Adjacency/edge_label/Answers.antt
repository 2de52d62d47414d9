use Rattle.std.proofs.Common.{sym, ap, ◌∙◌}
use Rattle.std.specs.FinMap as map
use Rattle.std.specs.Option.{option_and_then}
use Rattle.graph_types.proofs.Rows.{get-edges}
use Rattle.graph_types.proofs.adjacency.Adjacency.edge_label.Goals as goal

pub returns-in-Some : goal.returns-in-Some
returns-in-Some c =
    c.copied.ensures
    ∙ c.get-in-Some.ensures
    ∙ ap (option_and_then (λ row. map.get row.near c.args.to)) (c.in-Some.ensures ∙ ap (map.get c.self.inside.rows) c.from.view_is)
    ∙ sym (get-edges _ c.args.from c.args.to)
    ∙ ap (λ g. map.get g.edges (c.args.from, c.args.to)) c.self.view_is

pub returns-in-None : goal.returns-in-None
returns-in-None c =
    ap (option_and_then (λ row. map.get row.near c.args.to)) (c.in-None.ensures ∙ ap (map.get c.self.inside.rows) c.from.view_is)
    ∙ sym (get-edges _ c.args.from c.args.to)
    ∙ ap (λ g. map.get g.edges (c.args.from, c.args.to)) c.self.view_is
