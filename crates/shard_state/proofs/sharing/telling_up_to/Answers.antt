use Rattle.std.proofs.Common.{length, refl}
use Rattle.shard_state.proofs.TellingOn.{CanBeViewed-taken, KeepGraph-told, TellUpTo-begun, TellUpTo-lower, TellUpTo-pruned}
use Rattle.shard_state.proofs.sharing.telling_up_to.Goals as goal

pub returns-clause-begins : goal.returns-clause-begins
returns-clause-begins c = TellUpTo-begun

pub returns-clause-lower : goal.returns-clause-lower
returns-clause-lower c = λ graphs taken floor f shards tell. TellUpTo-lower graphs taken floor shards tell f

pub returns-clause-viewed : goal.returns-clause-viewed
returns-clause-viewed c = CanBeViewed-taken

pub returns-clause-pruned : goal.returns-clause-pruned
returns-clause-pruned c = λ graphs taken floor f shards tell. TellUpTo-pruned graphs taken floor shards tell f

pub returns-clause-ends : goal.returns-clause-ends
returns-clause-ends c = λ graphs floor shards tell. KeepGraph-told graphs (length graphs.later) floor shards tell refl
