use Rattle.std.proofs.Common.{ℕ}
use Rattle.graph_types.specs.meaning.Graph.{Graph}
use Rattle.delta_tables.specs.calls.Filling.{GoesOn, IsClosed}
use Rattle.delta_tables.proofs.filling.fill_window.Given as goal

-- no group is open, and the window goes on from where it did
abbrev pub invariant-loop : goal.invariant-loop
invariant-loop l = record {
  closed : IsClosed l.window l.graph;
  goes_on : (at shards : ℕ) (before : Graph) → GoesOn l.fn.window at shards before → GoesOn l.window at shards before;
}
