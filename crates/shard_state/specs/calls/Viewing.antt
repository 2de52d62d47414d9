-- Which shards a view can go over.
use Rattle.std.specs.Prelude.{ℕ, ◌-◌, ◌<◌, List, length}
use Rattle.std.specs.List.{AllByRecursion}
use Rattle.shard_state.specs.meaning.Joining.{HoldGraph}
use Rattle.shard_state.specs.meaning.Shards.{ShardValue}

-- There are shards. Before and after timestamp t they hold a graph, and none was pruned so far.
pub record CanBeViewed (shards : List ShardValue) (t : ℕ) : Type 0 where
  pub some : 0 < length shards
  pub floors : AllByRecursion (λ shard. shard.floor < t) shards
  pub before : HoldGraph shards (t - 1)
  pub after : HoldGraph shards t
