use Rattle.record_tally.proofs.Records.{added-counted, done-counted, removed-counted}
use Rattle.record_tally.proofs.laws.a_history_is_counted.Goals as goal

pub returns-clause-removed : goal.returns-clause-removed
returns-clause-removed c = λ pattern first later m. removed-counted pattern first later m

pub returns-clause-added : goal.returns-clause-added
returns-clause-added c = λ pattern first later m. added-counted pattern first later m

pub returns-clause-done : goal.returns-clause-done
returns-clause-done c = λ pattern first later m. done-counted pattern first later m
