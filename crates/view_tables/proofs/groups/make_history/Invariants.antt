use Rattle.std.proofs.Common.{◌≡◌}
use Rattle.view_tables.specs.calls.Making.{IsClosed}
use Rattle.view_tables.proofs.groups.make_history.Given as goal

-- no group is open, and the groups are parted among the shards that were asked for
abbrev pub invariant-loop : goal.invariant-loop
invariant-loop l = record {
  closed : IsClosed l.history.window l.history.graph;
  shards : l.history.window.shards ≡ l.case.shards;
}
