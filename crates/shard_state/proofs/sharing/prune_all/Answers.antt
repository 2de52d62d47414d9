use Rattle.std.proofs.Common.{◌<◌, ◌≤◌, length, arith}
use Rattle.shard_state.specs.meaning.Shards.{ShardValue, pruned}
use Rattle.shard_state.proofs.PrunedInTurn.{changed-each, changed-next}
use Rattle.shard_state.proofs.sharing.prune_all.Goals as goal

pub loop-shard-preserved : goal.loop-shard-preserved
loop-shard-preserved c =
    let within : c.loop-shard.shard-index < length c.args.shards.now = omega arith in
    changed-next (λ (shard : ShardValue). pruned shard c.args.stamp) c.loop-shard.shard-index c.args.shards.now c.loop-shard.shards c.shard-item.result c.prune.new.self within c.loop-shard.invariant c.prune.ensures.pruned

pub returns : goal.returns
returns c =
    let all : length c.args.shards.now ≤ c.loop-shard.shard-index = omega arith in
    changed-each (λ (shard : ShardValue). pruned shard c.args.stamp) c.loop-shard.shard-index c.args.shards.now c.loop-shard.shards all c.loop-shard.invariant
