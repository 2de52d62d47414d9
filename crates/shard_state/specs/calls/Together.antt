-- What shards do together with the parts of a group.
use Rattle.std.specs.Prelude.{ℕ, ◌<◌, eqb, if◌then◌else◌, List, [], ◌∷◌, map as mapped, length}
use Rattle.std.specs.List.{AllByRecursion}
use Rattle.std.specs.List.Sorted.{IsStrictlySortedBy}
use Rattle.std.specs.Ordering.{nat_cmp}
use Rattle.update_rules.specs.declared.shards.Part.{Part}
use Rattle.shard_state.specs.calls.Fitting.{Fits}
use Rattle.shard_state.specs.meaning.Joining.{AreNumbered, shard_at}
use Rattle.shard_state.specs.meaning.Shards.{ShardValue, applied}

-- the part is for one of the shards, which it fits
pub record FitsOne (shards : List ShardValue) (at : ℕ) (part : Part) : Type 0 where
  pub there : part.shard < length shards
  pub fits : Fits (shard_at shards part.shard) part at

-- each part fits its shard, and there is at most one for each
pub record FitTogether (shards : List ShardValue) (parts : List Part) (at : ℕ) : Type 0 where
  pub numbered : AreNumbered shards
  pub each : AllByRecursion (FitsOne shards at) parts
  pub apart : IsStrictlySortedBy nat_cmp (mapped (λ part. part.shard) parts)

-- the shard with its own part of some, if it has one
abbrev pub with_part : List Part → ℕ → ShardValue → ShardValue
with_part [] at shard = shard
with_part (part ∷ parts) at shard = with_part parts at (if eqb part.shard shard.number then applied shard part.changes at else shard)
