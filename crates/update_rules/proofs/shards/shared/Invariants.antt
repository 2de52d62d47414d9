use Rattle.std.proofs.Common.{take}
use Rattle.update_rules.specs.calls.Sharing.{AreShared}
use Rattle.update_rules.proofs.shards.shared.Given as goal

abbrev pub invariant-loop-change : goal.invariant-loop-change
invariant-loop-change l = AreShared l.shards l.by_shard (take l.change-index l.changes)
