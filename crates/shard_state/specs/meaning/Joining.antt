-- The graph that shards hold together.
use Rattle.std.specs.Prelude.{◌≡◌, ℕ, ◌%◌, ◌<◌, nat_lt, if◌then◌else◌, List, map as mapped, length, get_or, Option, None, Some}
use Rattle.std.specs.FinMap as map
use Rattle.std.specs.List.{filter_map, flat_map}
use Rattle.std.specs.Ordering.{nat_cmp}
use Rattle.graph_types.specs.meaning.Graph.{Graph, pair_cmp}
use Rattle.graph_types.specs.meaning.Simple.{IsSimple}
use Rattle.update_rules.specs.meaning.Places.{Place, entry_at}
use Rattle.shard_state.specs.meaning.KnownMaps.{map_of_known}
use Rattle.shard_state.specs.meaning.Shards.{ShardValue, empty_shard, entry_after}

abbrev pub shard_at : List ShardValue → ℕ → ShardValue
shard_at shards i = get_or shards i (empty_shard 0 1)

-- the shard of vertex v
abbrev pub shard_of_vertex : List ShardValue → ℕ → ShardValue
shard_of_vertex shards v = shard_at shards (v % length shards)

-- the shards are numbered from 0 on, and each is made for as many as there are
abbrev pub AreNumbered : List ShardValue → Type 0
AreNumbered shards = (i : ℕ) → i < length shards → ((shard_at shards i).number ≡ i) × ((shard_at shards i).shards ≡ length shards)

-- what stood at a place after timestamp t, which the shard of its vertex tells
abbrev pub joined_entry : List ShardValue → ℕ → Place → Option ℕ
joined_entry shards t p = entry_after (shard_of_vertex shards p.0) p t

-- the shards hold this graph after timestamp t
pub record Hold (shards : List ShardValue) (t : ℕ) (g : Graph) : Type 0 where
  pub simple : IsSimple g
  pub entries : (p : Place) → joined_entry shards t p ≡ entry_at g p

-- the places of which shards know something
abbrev pub places_of_shards : List ShardValue → List Place
places_of_shards shards = flat_map (λ shard. map.keys shard.entries) shards

-- the two vertices of a place of an edge
abbrev pub ends_of_place : ℕ → Option ℕ → Option (ℕ × ℕ)
ends_of_place v None = None
ends_of_place v (Some w) = Some (v, w)

-- the label of an edge after timestamp t, which is told at its lower end
abbrev pub joined_edge : List ShardValue → ℕ → ℕ × ℕ → Option ℕ
joined_edge shards t e = if nat_lt e.0 e.1 then joined_entry shards t (e.0, Some e.1) else None

-- the graph that shards hold after timestamp t, where they hold one
abbrev pub joined_graph : List ShardValue → ℕ → Graph
joined_graph shards t = record {
  labels = map_of_known nat_cmp (λ v. joined_entry shards t (v, None)) (mapped (λ p. p.0) (places_of_shards shards));
  edges = map_of_known pair_cmp (joined_edge shards t) (filter_map (λ p. ends_of_place p.0 p.1) (places_of_shards shards));
}

-- the shards hold a graph after timestamp t
abbrev pub HoldGraph : List ShardValue → ℕ → Type 0
HoldGraph shards t = (g : Graph) × Hold shards t g
