use Rattle.std.proofs.Common.{◌≡◌}
use Rattle.shard_state.specs.calls.Sharing.{TellGroups}
use Rattle.view_tables.proofs.shards.Shards.take_in.Given as goal

-- they took in the groups before this one
abbrev pub invariant-loop-group : goal.invariant-loop-group
invariant-loop-group l = record {
  told : TellGroups l.window l.self.taken l.self.floor l.self.items.items;
  taken : l.self.taken ≡ l.group;
}
