use Rattle.std.proofs.Common.{ℕ}
use Rattle.graph_types.specs.meaning.Graph.{Graph}
use Rattle.delta_tables.specs.calls.Filling.{GoesOn, IsOpen}
use Rattle.delta_tables.proofs.filling.add_group.Given as goal

-- the group is open, and the window goes on from where it did
abbrev pub invariant-loop : goal.invariant-loop
invariant-loop l = record {
  opened : IsOpen l.window l.graph;
  goes_on : (at shards : ℕ) (before : Graph) → GoesOn l.fn.window at shards before → GoesOn l.window at shards before;
}
