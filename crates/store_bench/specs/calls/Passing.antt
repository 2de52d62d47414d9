-- A store through which updates pass.
use Rattle.std.specs.Prelude.{◌≡◌, ℕ, ◌≤◌, length}
use Rattle.shard_state.specs.calls.Sharing.{KeepGraph}
use Rattle.store_bench.specs.declared.passing.Store.{Store}

-- its eight shards keep its graph, after no more than so many updates
pub record KeepsUpTo (most : ℕ) (store : Store) : Type 0 where
  pub count : length store.shards.items ≡ 8
  pub keep : KeepGraph store.shards.items store.at store.graph
  pub few : store.at ≤ most
