use Rattle.std.proofs.Common.{◌≡◌}
use Rattle.view_tables.specs.calls.Making.{IsOpen}
use Rattle.view_tables.proofs.groups.add_group.Given as goal

-- the group is open
abbrev pub invariant-loop : goal.invariant-loop
invariant-loop l = record {
  opened : IsOpen l.history.window l.history.graph;
  shards : l.history.window.shards ≡ l.fn.history.window.shards;
}
