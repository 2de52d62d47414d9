use Rattle.shard_tables.specs.calls.CellSteps.{CameBy}
use Rattle.shard_tables.proofs.cells.cell.Given as goal

abbrev pub invariant-loop-step : goal.invariant-loop-step
invariant-loop-step l = CameBy l.last l.cell
