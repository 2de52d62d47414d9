use Rattle.std.proofs.Common.{ap, sym, ◌∙◌}
use Rattle.std.specs.FinMap as map
use Rattle.graph_types.specs.storage.Adjacency.{graph_of_rows}
use Rattle.graph_types.specs.meaning.Graph.{without_edge}
use Rattle.graph_types.proofs.RowChanges.{graph-without_edge, without_no_row}
use Rattle.graph_types.proofs.adjacency.Adjacency.take_edge.Goals as goal

pub returns-in_default : goal.returns-in_default
returns-in_default c =
    sym (without_no_row _ c.args.from c.args.to (sym (c.in_default.ensures.value ∙ ap (map.get c.self.inside.rows) c.from.view_is)))
    ∙ ap (λ g. without_edge g (c.args.from, c.args.to)) c.self.view_is

pub returns : goal.returns
returns c =
    let row = c.in-Some.vertex.now in
    let rows = c.self.inside.rows in
    (λ i. graph_of_rows (map.insert rows (c.from.view_is i) (record { label = row.label; near = c.take.ensures.rest i })))
    ∙ graph-without_edge rows c.args.from row (sym (c.in-Some.ensures.value ∙ ap (map.get c.self.inside.rows) c.from.view_is)) c.args.to
    ∙ ap (λ g. without_edge g (c.args.from, c.args.to)) c.self.view_is
