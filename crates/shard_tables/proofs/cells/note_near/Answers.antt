use Rattle.std.proofs.Common.{sym, subst, arith}
use Rattle.shard_tables.specs.calls.CellSteps.{CameBy}
use Rattle.shard_tables.proofs.CellSteps.{CameBy-kept, CameBy-near, near-later}
use Rattle.shard_tables.proofs.cells.note_near.Goals as goal

pub set_near-requires-clause-later : goal.set_near-requires-clause-later
set_near-requires-clause-later c =
    near-later c.args.last c.args.at c.reserve_near.new.self (CameBy-kept c.args.last c.args.cell.now c.reserve_near.new.self c.in_ok-reserve_near.ensures.kept c.requires) (omega arith) c.in_ok-to.to

pub returns : goal.returns
returns c =
    subst (CameBy c.args.at) (sym c.set_near.ensures)
    (CameBy-near c.args.last c.reserve_near.new.self (CameBy-kept c.args.last c.args.cell.now c.reserve_near.new.self c.in_ok-reserve_near.ensures.kept c.requires) (record { at = c.args.at; label = c.in_ok-label.label }) (omega arith) c.in_ok-to.to)
