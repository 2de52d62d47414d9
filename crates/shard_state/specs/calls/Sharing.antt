-- What shards keep together through graphs that follow one another.
use Rattle.std.specs.Prelude.{◌≡◌, ℕ, ◌+◌, ◌<◌, ◌≤◌, List, map as mapped, length}
use Rattle.std.specs.List.{AllByRecursion, range_with_len}
use Rattle.graph_types.specs.meaning.Graph.{Graph}
use Rattle.group_window.specs.meaning.Windows.{WindowValue}
use Rattle.shard_state.specs.meaning.Joining.{AreNumbered, Hold}
use Rattle.shard_state.specs.meaning.Shards.{IsInOrder, ShardValue, empty_shard, pruned}
use Rattle.shard_state.specs.meaning.Telling.{AreSimple, Graphs, Tells, graphs_of}

-- so many shards, numbered from 0 on, without a vertex
abbrev pub empty_shards : ℕ → List ShardValue
empty_shards count = mapped (λ number. empty_shard number count) (range_with_len 0 count)

-- each shard pruned to timestamp f
abbrev pub all_pruned : ℕ → List ShardValue → List ShardValue
all_pruned f shards = mapped (λ shard. pruned shard f) shards

-- the shard knows of no timestamp after this one
pub record KnowsUpTo (at : ℕ) (shard : ShardValue) : Type 0 where
  pub in_order : IsInOrder shard
  pub upto : shard.upto ≤ at
  pub floor : shard.floor ≤ at

-- There are shards, numbered from 0 on. They hold the graph at this timestamp, and know of none after it.
pub record KeepGraph (shards : List ShardValue) (at : ℕ) (g : Graph) : Type 0 where
  pub some : 0 < length shards
  pub numbered : AreNumbered shards
  pub known : AllByRecursion (KnowsUpTo at) shards
  pub hold : Hold shards at g

-- There are shards, numbered from 0 on. They tell graphs that follow one another, up to the one after `taken` steps.
-- None was pruned further than to the one after `floor` steps.
pub record TellUpTo (graphs : Graphs) (taken floor : ℕ) (shards : List ShardValue) : Type 0 where
  pub some : 0 < length shards
  pub numbered : AreNumbered shards
  pub simple : AreSimple graphs
  pub within : taken ≤ length graphs.later
  pub earlier : floor ≤ taken
  pub told : AllByRecursion (Tells graphs (graphs.first + taken)) shards
  pub floors : AllByRecursion (λ shard. shard.floor ≤ graphs.first + floor) shards

-- The window is parted among as many shards as there are. They tell its graphs up to the one after its first `taken`
-- groups, and none was pruned further than to the one after `floor` of them.
pub record TellGroups (w : WindowValue) (taken floor : ℕ) (shards : List ShardValue) : Type 0 where
  pub parted : w.shards ≡ length shards
  pub tell : TellUpTo (graphs_of w) taken floor shards
