use Rattle.std.proofs.Common.{ap, sym, ◌∙◌}
use Rattle.std.specs.Ordering.{nat_cmp}
use Rattle.std.specs.FinMap as map
use Rattle.std.specs.Option.{option_and_then}
use Rattle.graph_types.specs.storage.Adjacency.{graph_of_rows, without_row}
use Rattle.graph_types.proofs.Rows.{get-edges}
use Rattle.graph_types.proofs.RowChanges.{graph-without_row}
use Rattle.graph_types.proofs.adjacency.Adjacency.take_vertex.Goals as goal

pub returns-in_default-clause-rest : goal.returns-in_default-clause-rest
returns-in_default-clause-rest c =
    ap graph_of_rows (c.remove.ensures.rest ∙ ap (map.remove c.self.inside.rows) c.v.view_is)
    ∙ graph-without_row _ c.args.v
    ∙ ap (λ g. without_row g c.args.v) c.self.view_is

pub returns-in_default-clause-taken : goal.returns-in_default-clause-taken
returns-in_default-clause-taken c w =
    ap (λ m. map.get m w) c.new.ensures
    ∙ map.get-empty nat_cmp w
    ∙ ap (option_and_then (λ row. map.get row.near w)) (c.in_default.ensures.value ∙ ap (map.get c.self.inside.rows) c.v.view_is)
    ∙ sym (get-edges _ c.args.v w)
    ∙ ap (λ g. map.get g.edges (c.args.v, w)) c.self.view_is

pub returns-clause-rest : goal.returns-clause-rest
returns-clause-rest c =
    ap graph_of_rows (c.remove.ensures.rest ∙ ap (map.remove c.self.inside.rows) c.v.view_is)
    ∙ graph-without_row _ c.args.v
    ∙ ap (λ g. without_row g c.args.v) c.self.view_is

pub returns-clause-taken : goal.returns-clause-taken
returns-clause-taken c w =
    ap (option_and_then (λ row. map.get row.near w)) (c.in-Some.ensures.value ∙ ap (map.get c.self.inside.rows) c.v.view_is)
    ∙ sym (get-edges _ c.args.v w)
    ∙ ap (λ g. map.get g.edges (c.args.v, w)) c.self.view_is
