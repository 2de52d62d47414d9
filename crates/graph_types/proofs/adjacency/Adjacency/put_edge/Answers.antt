use Rattle.std.proofs.Common.{ap, sym, ◌∙◌}
use Rattle.std.specs.FinMap as map
use Rattle.std.specs.Option.{is_some, option_map, option_and_then}
use Rattle.std.proofs.lemmas.Bool.{false≢true}
use Rattle.std.proofs.lemmas.Result.{on_ok_weaker, on_err_weaker}
use Rattle.graph_types.specs.storage.Adjacency.{graph_of_rows}
use Rattle.graph_types.specs.meaning.Graph.{with_edge, has_edge, has_vertex}
use Rattle.graph_types.proofs.Rows.{get-labels, get-edges}
use Rattle.graph_types.proofs.RowChanges.{graph-with_edge, row-again}
use Rattle.graph_types.proofs.adjacency.Adjacency.put_edge.Goals as goal

pub unreachable-requires : goal.unreachable-requires
unreachable-requires c =
    false≢true
    (ap (λ row. is_some (option_map (λ r. r.label) row)) (c.in_default.ensures.value ∙ ap (map.get c.self.inside.rows) c.from.view_is)
    ∙ ap is_some (sym (get-labels _ c.args.from))
    ∙ ap (λ g. has_vertex g c.args.from) c.self.view_is
    ∙ c.requires)

pub returns-clause-ok : goal.returns-clause-ok
returns-clause-ok c =
    let row = c.in-Some.vertex.now in
    on_ok_weaker c.put.result
    (λ put. (λ i. graph_of_rows (map.insert c.self.inside.rows (c.from.view_is i) (record { label = row.label; near = put i })))
    ∙ graph-with_edge c.self.inside.rows c.args.from row (sym (c.in-Some.ensures.value ∙ ap (map.get c.self.inside.rows) c.from.view_is)) c.args.to c.args.label
    ∙ ap (λ g. with_edge g (c.args.from, c.args.to) c.args.label) c.self.view_is)
    c.put.ensures.ok

pub returns-clause-err : goal.returns-clause-err
returns-clause-err c =
    let row = c.in-Some.vertex.now in
    on_err_weaker c.put.result
    (λ kept. (λ i. graph_of_rows (map.insert c.self.inside.rows (c.from.view_is i) (record { label = row.label; near = kept i })))
    ∙ ap graph_of_rows (row-again c.self.inside.rows c.args.from row (sym (c.in-Some.ensures.value ∙ ap (map.get c.self.inside.rows) c.from.view_is)))
    ∙ c.self.view_is)
    c.put.ensures.err

pub returns-clause-was_new : goal.returns-clause-was_new
returns-clause-was_new c =
    on_err_weaker c.put.result
    (λ none. ap (λ g. has_edge g (c.args.from, c.args.to)) (sym c.self.view_is)
    ∙ ap is_some (get-edges _ c.args.from c.args.to)
    ∙ ap (λ row. is_some (option_and_then (λ r. map.get r.near c.args.to) row)) (sym (c.in-Some.ensures.value ∙ ap (map.get c.self.inside.rows) c.from.view_is))
    ∙ ap is_some none)
    c.put.ensures.was_new
