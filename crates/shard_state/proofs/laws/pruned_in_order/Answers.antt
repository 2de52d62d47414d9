use Rattle.shard_state.proofs.Told.{IsInOrder-pruned}
use Rattle.shard_state.proofs.laws.pruned_in_order.Goals as goal

pub returns : goal.returns
returns c = λ shard f in_order. IsInOrder-pruned shard in_order f
