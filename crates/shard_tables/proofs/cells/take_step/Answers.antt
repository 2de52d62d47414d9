use Rattle.shard_tables.proofs.CellSteps.{CameBy-folded}
use Rattle.shard_tables.proofs.cells.take_step.Goals as goal

pub returns-in-fold : goal.returns-in-fold
returns-in-fold c = CameBy-folded c.args.last c.in_ok-t.t c.args.cell.now c.fold_to.new.self c.fold_to.ensures.folded c.requires
