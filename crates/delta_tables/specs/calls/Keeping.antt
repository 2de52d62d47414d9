-- Stores that keep a graph.
use Rattle.std.specs.Prelude.{◌≡◌, ℕ, length}
use Rattle.shard_state.specs.calls.Sharing.{KeepGraph}
use Rattle.delta_tables.specs.declared.windows.Store.{Store}

-- so many shards keep the store's graph at its timestamp
pub record KeepsGraph (count : ℕ) (store : Store) : Type 0 where
  pub all : length store.shards.items ≡ count
  pub keep : KeepGraph store.shards.items store.at store.graph
