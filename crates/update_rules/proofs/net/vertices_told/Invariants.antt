use Rattle.std.proofs.Common.{◌≡◌, ◌++◌}
use Rattle.std.specs.List.{filter_map}
use Rattle.std.specs.Slice.Iter.{iter_rest}
use Rattle.update_rules.specs.calls.Telling.{vertex_told}
use Rattle.update_rules.proofs.net.vertices_told.Given as goal

abbrev pub invariant-loop-change : goal.invariant-loop-change
invariant-loop-change l = l.vertices ++ filter_map vertex_told (iter_rest l.change-iterator) ≡ filter_map vertex_told l.changes
