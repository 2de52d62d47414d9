-- That a shard tells the graphs of a window.
use Rattle.std.specs.Prelude.{◌≡◌, ℕ, ◌+◌, ◌-◌, ◌≤◌, min, List, length, unwrap_or}
use Rattle.std.specs.List.{AllByRecursion}
use Rattle.graph_types.specs.meaning.Graph.{Graph, empty_graph}
use Rattle.graph_types.specs.meaning.Simple.{IsSimple}
use Rattle.mining_model.specs.meaning.History.{graph_at}
use Rattle.group_window.specs.meaning.Windows.{WindowValue}
use Rattle.update_rules.specs.meaning.Parts.{changes_between, part_of}
use Rattle.update_rules.specs.declared.shards.Part.{Part}
use Rattle.update_rules.specs.meaning.Places.{Place, entry_at}
use Rattle.shard_state.specs.meaning.Shards.{IsInOrder, IsOwn, ShardValue, entry_after}

-- graphs that follow one another: the one at timestamp `first`, and the one at each timestamp after it
pub record Graphs : Type 0 where
  pub first : ℕ
  pub base : Graph
  pub later : List Graph

-- those of a window
abbrev pub graphs_of : WindowValue → Graphs
graphs_of w = record { first = w.first; base = unwrap_or w.base empty_graph; later = w.later }

abbrev pub last_of : Graphs → ℕ
last_of graphs = graphs.first + length graphs.later

-- the graph at timestamp t, from the first on
abbrev pub graph_of : Graphs → ℕ → Graph
graph_of graphs t = graph_at graphs.base graphs.later (t - graphs.first)

-- each of them is simple
pub record AreSimple (graphs : Graphs) : Type 0 where
  pub base : IsSimple graphs.base
  pub later : AllByRecursion IsSimple graphs.later

-- what the group of timestamp t changes at the vertices of one of so many shards
abbrev pub part_at : Graphs → ℕ → ℕ → ℕ → Part
part_at graphs shards number t = part_of shards (changes_between (graph_of graphs (t - 1)) (graph_of graphs t)) number

-- The shard tells the graphs up to timestamp n. It took in what they change up to n. And of each entry at a vertex of
-- its own it tells, at each timestamp from its floor and the first one on, what stands in the graph then, or in the
-- graph at n where that is later.
pub record Tells (graphs : Graphs) (n : ℕ) (shard : ShardValue) : Type 0 where
  pub from_first : graphs.first ≤ n
  pub to_last : n ≤ last_of graphs
  pub upto : shard.upto ≤ n
  pub in_order : IsInOrder shard
  pub entries : (p : Place) → IsOwn shard p.0 → (t : ℕ) → graphs.first ≤ t → shard.floor ≤ t → entry_after shard p t ≡ entry_at (graph_of graphs (min t n)) p
