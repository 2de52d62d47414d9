use Rattle.std.proofs.Common.{sym, ap, ◌∙◌}
use Rattle.std.specs.FinMap as map
use Rattle.std.specs.Option.{option_map}
use Rattle.graph_types.proofs.Rows.{get-labels}
use Rattle.graph_types.proofs.adjacency.Adjacency.label.Goals as goal

pub returns-in-Some : goal.returns-in-Some
returns-in-Some c =
    ap (option_map (λ row. row.label)) (c.in-Some.ensures ∙ ap (map.get c.self.inside.rows) c.v.view_is)
    ∙ sym (get-labels _ c.args.v)
    ∙ ap (λ g. map.get g.labels c.args.v) c.self.view_is

pub returns-in-None : goal.returns-in-None
returns-in-None c =
    ap (option_map (λ row. row.label)) (c.in-None.ensures ∙ ap (map.get c.self.inside.rows) c.v.view_is)
    ∙ sym (get-labels _ c.args.v)
    ∙ ap (λ g. map.get g.labels c.args.v) c.self.view_is
