use Rattle.shard_state.specs.calls.Sharing.{TellGroups}
use Rattle.store_bench.proofs.passing.take_groups.Given as goal

-- they took in the groups before this one
abbrev pub invariant-loop-group : goal.invariant-loop-group
invariant-loop-group l = TellGroups l.window l.group 0 l.shards
