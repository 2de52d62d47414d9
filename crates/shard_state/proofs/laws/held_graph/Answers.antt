use Rattle.shard_state.proofs.Joined.{joined-is}
use Rattle.shard_state.proofs.Told.{CanBeViewed-told, Hold-told}
use Rattle.shard_state.proofs.laws.held_graph.Goals as goal

pub returns-clause-told : goal.returns-clause-told
returns-clause-told c = Hold-told

pub returns-clause-joined : goal.returns-clause-joined
returns-clause-joined c = joined-is

pub returns-clause-viewed : goal.returns-clause-viewed
returns-clause-viewed c = CanBeViewed-told
