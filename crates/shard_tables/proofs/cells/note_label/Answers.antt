use Rattle.std.proofs.Common.{sym, subst, arith}
use Rattle.shard_tables.specs.calls.CellSteps.{CameBy}
use Rattle.shard_tables.proofs.CellSteps.{CameBy-kept, CameBy-label, label-later}
use Rattle.shard_tables.proofs.cells.note_label.Goals as goal

pub set_label-requires-clause-later : goal.set_label-requires-clause-later
set_label-requires-clause-later c =
    label-later c.args.last c.args.at c.reserve_label.new.self (CameBy-kept c.args.last c.args.cell.now c.reserve_label.new.self c.in_ok-reserve_label.ensures.kept c.requires) (omega arith)

pub returns : goal.returns
returns c =
    subst (CameBy c.args.at) (sym c.set_label.ensures)
    (CameBy-label c.args.last c.reserve_label.new.self (CameBy-kept c.args.last c.args.cell.now c.reserve_label.new.self c.in_ok-reserve_label.ensures.kept c.requires) (record { at = c.args.at; label = c.in_ok-label.label }) (omega arith))
