use Rattle.shard_tables.proofs.CellSteps.{CameBy-new}
use Rattle.shard_tables.proofs.cells.cell.Goals as goal

pub loop-step-init : goal.loop-step-init
loop-step-init c = CameBy-new 0 _ c.new-cell.ensures.label c.new-cell.ensures.near
