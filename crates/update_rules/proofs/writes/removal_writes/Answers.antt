use Rattle.std.proofs.Common.{cond, None, Some, sym, ap, ◌∙◌}
use Rattle.std.specs.BTreeMap.{get}
use Rattle.std.specs.Ordering.{eq_by_cmp}
use Rattle.std.specs.Slice.Iter.{iter_rest}
use Rattle.std.proofs.lemmas.List.{nil_from_length}
use Rattle.graph_types.specs.meaning.Graph.{neighbours}
use Rattle.update_rules.specs.meaning.Places.{place_cmp}
use Rattle.update_rules.proofs.Writing.{put_each, put_each-is, IsOverlaid-without_vertex}
use Rattle.update_rules.proofs.writes.removal_writes.Goals as goal

pub loop-to-preserved : goal.loop-to-preserved
loop-to-preserved c = λ p.
    let v = c.args.vertex in
    (λ i. put_each v (λ q. c.in_ok-put_both.ensures q i) (iter_rest c.next.new.self) p)
    ∙ ap (λ ws. put_each v (λ q. get place_cmp c.loop-to.entries q) ws p) (sym c.in-Some.ensures.steps)
    ∙ c.loop-to.invariant p

pub returns : goal.returns
returns c =
    let v = c.args.vertex in
    let g = c.args.graph.now in
    IsOverlaid-without_vertex c.loop-to.entries g v c.simple.ensures
    (λ p. sym (ap (λ ws. put_each v (λ q. get place_cmp c.loop-to.entries q) ws p) (nil_from_length (iter_rest c.loop-to.to-iterator) c.in-None.ensures.steps.0))
    ∙ c.loop-to.invariant p
    ∙ put_each-is v (λ q. cond (eq_by_cmp place_cmp q (v, None)) (Some None) None) (neighbours g v) p)
