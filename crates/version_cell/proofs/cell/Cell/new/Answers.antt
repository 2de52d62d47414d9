use Rattle.std.proofs.Common.{None, ap, ◌∙◌}
use Rattle.std.specs.FinMap as map
use Rattle.std.specs.Ordering.{nat_cmp}
use Rattle.version_cell.specs.storage.Places.{near_at_floor}
use Rattle.version_cell.proofs.PlaceLabels.{HavePlaces-none, near_at_floor-empty}
use Rattle.version_cell.proofs.cell.Cell.new.Goals as goal

pub invariant_of-result : goal.invariant_of-result
invariant_of-result c = HavePlaces-none (map.from_entries {R = nat_cmp} c.new-3.result.entries) c.new.result (ap (map.from_entries {R = nat_cmp}) c.new-3.ensures.empty)

pub returns-clause-at_floor : goal.returns-clause-at_floor
returns-clause-at_floor c = λ i. record { label = None; near = (ap near_at_floor c.new.ensures ∙ near_at_floor-empty) i }
