use Rattle.std.proofs.Common.{◌≡◌}
use Rattle.shard_tables.specs.calls.Building.{IsBuilding}
use Rattle.shard_tables.proofs.groups.groups.Given as goal

abbrev pub invariant-loop-step : goal.invariant-loop-step
invariant-loop-step l = record { building : IsBuilding l.window l.graph; shards : l.window.shards ≡ l.shards }
