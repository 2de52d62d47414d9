use Rattle.shard_state.proofs.Told.{Tells-begun, Tells-empty}
use Rattle.shard_state.proofs.laws.telling_begins.Goals as goal

pub returns-clause-holds : goal.returns-clause-holds
returns-clause-holds c = Tells-begun

pub returns-clause-empty : goal.returns-clause-empty
returns-clause-empty c = Tells-empty
