use Rattle.std.proofs.Common.{◌≡◌, cond, None, Some}
use Rattle.std.specs.BTreeMap.{get}
use Rattle.std.specs.Ordering.{eq_by_cmp}
use Rattle.std.specs.Slice.Iter.{iter_rest}
use Rattle.graph_types.specs.meaning.Graph.{neighbours}
use Rattle.update_rules.specs.meaning.Places.{Place, place_cmp}
use Rattle.update_rules.proofs.Writing.{put_each}
use Rattle.update_rules.proofs.writes.removal_writes.Given as goal

abbrev pub invariant-loop-to : goal.invariant-loop-to
invariant-loop-to l =
    (p : Place) → put_each l.vertex (λ q. get place_cmp l.entries q) (iter_rest l.to-iterator) p
    ≡ put_each l.vertex (λ q. cond (eq_by_cmp place_cmp q (l.vertex, None)) (Some None) None) (neighbours l.graph l.vertex) p
