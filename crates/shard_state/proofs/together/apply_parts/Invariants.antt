use Rattle.std.proofs.Common.{drop}
use Rattle.shard_state.proofs.GroupsTogether.{IsTakingIn}
use Rattle.shard_state.proofs.together.apply_parts.Given as goal

abbrev pub invariant-loop-part : goal.invariant-loop-part
invariant-loop-part l = IsTakingIn l.at l.fn.shards l.shards l.parts (drop l.part-index l.parts)
