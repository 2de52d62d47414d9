use Rattle.std.proofs.Common.{ap, sym, ◌∙◌}
use Rattle.std.specs.Option.{is_some}
use Rattle.graph_types.specs.storage.Adjacency.{without_edges_to}
use Rattle.graph_types.proofs.RowChanges.{without_edges_to-next, without_edges_to-none}
use Rattle.graph_types.proofs.adjacency.Adjacency.take_edges_to.Goals as goal

pub loop-from-preserved : goal.loop-from-preserved
loop-from-preserved c =
    rw (c.take_edge.ensures, c.in-Some.ensures.taken.1)
    (without_edges_to-next _ _ c.args.to _ (ap is_some c.in-Some.ensures.taken.0) ∙ c.loop-from.invariant)

pub returns : goal.returns
returns c = sym (without_edges_to-none _ c.args.to) ∙ ap (λ m. without_edges_to c.loop-from.self m c.args.to) (sym c.in_default.ensures.taken.0) ∙ c.loop-from.invariant
