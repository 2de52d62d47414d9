use Rattle.shard_state.proofs.GroupsTogether.{AreNumbered-pruned, AreNumbered-with_parts, FitTogether-next, Tell-next, Tell-pruned, floor-with_part}
use Rattle.shard_state.proofs.laws.telling_together.Goals as goal

pub returns-clause-fit : goal.returns-clause-fit
returns-clause-fit c = FitTogether-next

pub returns-clause-told : goal.returns-clause-told
returns-clause-told c = Tell-next

pub returns-clause-pruned : goal.returns-clause-pruned
returns-clause-pruned c = Tell-pruned

pub returns-clause-numbered : goal.returns-clause-numbered
returns-clause-numbered c = λ shards numbered parts at f. (AreNumbered-with_parts at parts shards numbered, AreNumbered-pruned f shards numbered)

pub returns-clause-floors : goal.returns-clause-floors
returns-clause-floors c = λ parts at shard. floor-with_part at parts shard
