use Rattle.std.proofs.Common.{◌≡◌}
use Rattle.std.specs.FinMap as map
use Rattle.version_cell.proofs.NoEdges.{has_edge}
use Rattle.version_cell.proofs.places.has_no_edge.Given as goal

abbrev pub invariant-loop-at_floor : goal.invariant-loop-at_floor
invariant-loop-at_floor l = has_edge l.at_floor-iterator ≡ has_edge (map.entries l.places)
