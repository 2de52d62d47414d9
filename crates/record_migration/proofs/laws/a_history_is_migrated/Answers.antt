use Rattle.record_migration.proofs.Rewriting.{history_migrated}
use Rattle.record_migration.proofs.laws.a_history_is_migrated.Goals as goal

pub returns : goal.returns
returns c = λ pattern first later m most small can few. history_migrated pattern first later m can most few
