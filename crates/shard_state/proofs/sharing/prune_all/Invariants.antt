use Rattle.std.proofs.Common.{◌≡◌}
use Rattle.shard_state.specs.meaning.Shards.{pruned}
use Rattle.shard_state.proofs.PrunedInTurn.{first_changed}
use Rattle.shard_state.proofs.sharing.prune_all.Given as goal

-- the first shards are pruned
abbrev pub invariant-loop-shard : goal.invariant-loop-shard
invariant-loop-shard l = l.shards ≡ first_changed (λ shard. pruned shard l.stamp) l.shard-index l.fn.shards
