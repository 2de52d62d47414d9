use Rattle.std.proofs.Common.{arith}
use Rattle.snapshot_fold.proofs.Telling.{history_text-accepted, history_text-says, history_text-tells}
use Rattle.snapshot_fold.proofs.laws.a_history_is_accepted.Goals as goal

pub returns-clause-records : goal.returns-clause-records
returns-clause-records c = λ format pattern first later m can. history_text-says format pattern first later m can m (omega arith)

pub returns-clause-whole : goal.returns-clause-whole
returns-clause-whole c = λ format pattern first later m can. history_text-accepted format pattern first later m can

pub returns-clause-cut_off : goal.returns-clause-cut_off
returns-clause-cut_off c = λ format pattern first later m written more can split. history_text-tells format pattern first later m can written more split
