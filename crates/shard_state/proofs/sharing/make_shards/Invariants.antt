use Rattle.std.proofs.Common.{◌≡◌, map as mapped}
use Rattle.std.specs.List.{range_with_len}
use Rattle.shard_state.specs.meaning.Shards.{empty_shard}
use Rattle.shard_state.proofs.sharing.make_shards.Given as goal

-- the shards before this one are made
abbrev pub invariant-loop-number : goal.invariant-loop-number
invariant-loop-number l = l.shards.items ≡ mapped (λ number. empty_shard number l.count) (range_with_len 0 l.number)
