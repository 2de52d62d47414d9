use Rattle.std.proofs.Common.{◌≡◌, ◌++◌}
use Rattle.std.specs.List.{filter_map}
use Rattle.std.specs.List.Sorted.{IsStrictlySortedBy}
use Rattle.std.specs.Ordering.{nat_cmp}
use Rattle.std.specs.Slice.Iter.{iter_rest}
use Rattle.update_rules.specs.calls.Telling.{edge_told}
use Rattle.update_rules.proofs.net.edges_told.Given as goal

abbrev pub invariant-loop-change : goal.invariant-loop-change
invariant-loop-change l = IsStrictlySortedBy nat_cmp l.vertices → l.edges ++ filter_map (edge_told l.vertices) (iter_rest l.change-iterator) ≡ filter_map (edge_told l.vertices) l.changes
