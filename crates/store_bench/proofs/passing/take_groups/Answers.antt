use Rattle.std.proofs.Common.{◌≡◌, length, subst, arith}
use Rattle.shard_state.specs.calls.Sharing.{TellGroups}
use Rattle.shard_state.proofs.TellingOn.{TellGroups-lower}
use Rattle.store_bench.proofs.passing.take_groups.Goals as goal

pub take_in-requires : goal.take_in-requires
take_in-requires c = record {
  within = omega arith;
  told = TellGroups-lower c.args.window.now c.loop-group.group 0 c.loop-group.shards c.loop-group.invariant;
}

pub loop-group-preserved : goal.loop-group-preserved
loop-group-preserved c = c.in-Ok.ensures 0 c.loop-group.invariant

pub returns : goal.returns
returns c =
    let end : c.loop-group.group ≡ length c.args.window.now.later = omega arith in
    subst (λ n. TellGroups c.args.window.now n 0 c.loop-group.shards) end c.loop-group.invariant
