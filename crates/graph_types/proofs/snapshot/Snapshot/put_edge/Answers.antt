use Rattle.std.proofs.Common.{◌≡◌, ◌<◌, arith, ap, sym, subst, ◌∙◌}
use Rattle.graph_types.specs.storage.Adjacency.{IsUndirected, undirected_graph}
use Rattle.graph_types.specs.meaning.Graph.{has_edge, with_edge, without_edge}
use Rattle.graph_types.proofs.Undirected.{end_is_there, put_both, put_undone, IsUndirected-put_both}
use Rattle.graph_types.proofs.snapshot.Snapshot.put_edge.Goals as goal

pub put_edge-requires : goal.put_edge-requires
put_edge-requires c = end_is_there _ _ _ _ c.self.view_is c.a-low.ensures.lower c.requires.low

pub put_edge-requires-2 : goal.put_edge-requires-2
put_edge-requires-2 c = rw c.in_ok-put_edge.ensures.ok (end_is_there _ _ _ _ c.self.view_is c.b-high.ensures.higher c.requires.high)

arcs_undone : (c : goal.After-take_edge) → c.take_edge.new.self ≡ c.self.inside.arcs
arcs_undone c =
    let below : c.a-low.result < c.b-high.result = omega (arith, c.a-low.ensures.ordered, c.b-high.ensures.higher) in
    let first = c.in_ok-put_edge.ensures.ok in
    c.take_edge.ensures
    ∙ ap (λ g. without_edge g (c.a-low.result, c.b-high.result)) (c.in-Err.ensures.err ∙ first)
    ∙ put_undone c.self.inside.arcs _ _ below c.self.invariant c.args.l (ap (λ g. has_edge g (c.b-high.result, c.a-low.result)) (sym first) ∙ c.in-Err.ensures.was_new)

pub invariant_of-self-in-Err : goal.invariant_of-self-in-Err
invariant_of-self-in-Err c = subst IsUndirected (sym (arcs_undone c)) c.self.invariant

pub returns-in-Err-clause-err : goal.returns-in-Err-clause-err
returns-in-Err-clause-err c = ap undirected_graph (arcs_undone c) ∙ c.self.view_is

pub invariant_of-self-in_default : goal.invariant_of-self-in_default
invariant_of-self-in_default c =
    let below : c.a-low.result < c.b-high.result = omega (arith, c.a-low.ensures.ordered, c.b-high.ensures.higher) in
    rw (c.in_default.ensures.ok, c.in_ok-put_edge.ensures.ok)
    (IsUndirected-put_both c.self.inside.arcs _ _ below c.self.invariant c.args.l
    (end_is_there _ _ _ _ c.self.view_is c.a-low.ensures.lower c.requires.low)
    (end_is_there _ _ _ _ c.self.view_is c.b-high.ensures.higher c.requires.high))

pub returns-clause-ok : goal.returns-clause-ok
returns-clause-ok c =
    let below : c.a-low.result < c.b-high.result = omega (arith, c.a-low.ensures.ordered, c.b-high.ensures.higher) in
    ap undirected_graph (c.in_default.ensures.ok ∙ ap (λ g. with_edge g (c.b-high.result, c.a-low.result) c.args.l) c.in_ok-put_edge.ensures.ok)
    ∙ put_both c.self.inside.arcs _ _ below c.args.l
    ∙ (λ i. with_edge (c.self.view_is i) (c.a-low.ensures.lower i, c.b-high.ensures.higher i) c.args.l)
