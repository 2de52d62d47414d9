use Rattle.shard_state.proofs.Told.{pair-told}
use Rattle.shard_state.proofs.laws.told_pair.Goals as goal

pub returns : goal.returns
returns c = pair-told
