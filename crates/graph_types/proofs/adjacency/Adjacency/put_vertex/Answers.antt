use Rattle.std.proofs.Common.{ap, ◌∙◌}
use Rattle.std.specs.Ordering.{nat_cmp}
use Rattle.std.specs.FinMap as map
use Rattle.std.specs.Option.{option_and_then}
use Rattle.graph_types.specs.declared.adjacency.Vertex.{Vertex}
use Rattle.graph_types.specs.storage.Adjacency.{graph_of_rows}
use Rattle.graph_types.specs.meaning.Graph.{with_vertex}
use Rattle.graph_types.proofs.RowChanges.{graph-with_label}
use Rattle.graph_types.proofs.adjacency.Adjacency.put_vertex.Goals as goal

pub returns-in-Some-clause-ok : goal.returns-in-Some-clause-ok
returns-in-Some-clause-ok c =
    let row : Vertex = record { label = c.args.label; near = c.in-Some.vertex.now.near } in
    ap (λ v. graph_of_rows (map.insert c.self.inside.rows v row)) c.v.view_is
    ∙ graph-with_label c.self.inside.rows c.args.v row (λ y. ap (option_and_then (λ r. map.get r.near y)) (c.in-Some.ensures.value ∙ ap (map.get c.self.inside.rows) c.v.view_is))
    ∙ ap (λ g. with_vertex g c.args.v c.args.label) c.self.view_is

pub returns-clause-ok : goal.returns-clause-ok
returns-clause-ok c =
    let row : Vertex = record { label = c.args.label; near = c.new-near.result } in
    ap graph_of_rows (c.in_ok-insert.ensures.ok ∙ ap (λ v. map.insert c.self.inside.rows v row) c.v.view_is)
    ∙ graph-with_label c.self.inside.rows c.args.v row
    (λ y. ap (λ m. map.get m y) c.new-near.ensures ∙ map.get-empty nat_cmp y ∙ ap (option_and_then (λ r. map.get r.near y)) (c.in_default.ensures.value ∙ ap (map.get c.self.inside.rows) c.v.view_is))
    ∙ ap (λ g. with_vertex g c.args.v c.args.label) c.self.view_is
