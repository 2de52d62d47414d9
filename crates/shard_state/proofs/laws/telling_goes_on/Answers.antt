use Rattle.shard_state.proofs.Told.{Tells-applied, Tells-passed, Tells-pruned}
use Rattle.shard_state.proofs.laws.telling_goes_on.Goals as goal

pub returns-clause-applied : goal.returns-clause-applied
returns-clause-applied c = Tells-applied

pub returns-clause-passed : goal.returns-clause-passed
returns-clause-passed c = Tells-passed

pub returns-clause-pruned : goal.returns-clause-pruned
returns-clause-pruned c = Tells-pruned
