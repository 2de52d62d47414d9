-- Shards that take in the groups of a window.
use Rattle.std.specs.Prelude.{◌≡◌, ℕ, ◌<◌, List, length}
use Rattle.std.specs.List.{AllByRecursion}
use Rattle.group_window.specs.meaning.Windows.{WindowValue}
use Rattle.shard_state.specs.meaning.Joining.{AreNumbered}
use Rattle.shard_state.specs.meaning.Shards.{ShardValue}
use Rattle.shard_state.specs.meaning.Telling.{Tells, graphs_of}
use Rattle.shard_tables.specs.calls.Building.{IsFromNothing}

-- the shards are those of the window, and tell its first n groups
pub record TellWindow (w : WindowValue) (n : ℕ) (shards : List ShardValue) : Type 0 where
  pub from_nothing : IsFromNothing w
  pub some : 0 < length shards
  pub count : length shards ≡ w.shards
  pub numbered : AreNumbered shards
  pub tell : AllByRecursion (Tells (graphs_of w) n) shards
