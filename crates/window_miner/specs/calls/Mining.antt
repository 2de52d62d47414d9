-- What mining a window asks for, and what it leaves.
use Rattle.std.specs.Prelude.{◌≡◌, ℕ, ◌+◌, List, [], ◌∷◌, length, IfSome}
use Rattle.std.specs.List.{AllByRecursion}
use Rattle.delta_task.specs.calls.Deltas.{IsDelta}
use Rattle.delta_task.specs.declared.delta.Delta.{Delta}
use Rattle.graph_types.specs.meaning.Graph.{Graph}
use Rattle.group_window.specs.meaning.Windows.{WindowValue, last_or}
use Rattle.mining_model.specs.meaning.Embeddings.{Pattern}
use Rattle.shard_state.specs.calls.Sharing.{KeepGraph}
use Rattle.shard_state.specs.meaning.Shards.{ShardValue}
use Rattle.window_miner.specs.declared.mining.Mined.{Mined}

-- The window begins with a graph, if it has a group. It is parted among as many shards as there are, and they keep
-- this graph at the timestamp before the first group.
pub record FollowsShards (w : WindowValue) (shards : List ShardValue) (g : Graph) : Type 0 where
  pub base : IfSome w.base (λ before. before ≡ g)
  pub parted : w.shards ≡ length shards
  pub keep : KeepGraph shards w.first g

-- a window can be mined: the shards keep the graph that it begins with
abbrev pub CanMine : WindowValue → List ShardValue → Type 0
CanMine w shards = (g : Graph) × FollowsShards w shards g

-- there is a delta for each graph that follows, in order, of what the step to it takes away and brings
abbrev pub AreDeltas : Pattern → ℕ → Graph → List Graph → List Delta → Type 0
AreDeltas pattern most before [] [] = Unit {0}
AreDeltas pattern most before [] (delta ∷ deltas) = ⊥
AreDeltas pattern most before (after ∷ later) [] = ⊥
AreDeltas pattern most before (after ∷ later) (delta ∷ deltas) = IsDelta pattern before after most delta × AreDeltas pattern most after later deltas

-- The window was mined from a graph on. There is a delta for each of its groups. As many shards as there were keep its
-- last graph at its last timestamp, which is the floor of each.
pub record IsMined (pattern : Pattern) (most : ℕ) (w : WindowValue) (g : Graph) (mined : Mined) : Type 0 where
  pub deltas : AreDeltas pattern most g w.later mined.deltas.items
  pub count : length mined.shards.items ≡ w.shards
  pub keep : KeepGraph mined.shards.items (w.first + length w.later) (last_or g w.later)
  pub floors : AllByRecursion (λ shard. shard.floor ≡ w.first + length w.later) mined.shards.items
