use Rattle.std.proofs.Common.{ℕ, IsSome}
use Rattle.graph_types.specs.meaning.Graph.{Graph}
use Rattle.group_window.specs.meaning.Windows.{StandsOn}
use Rattle.rehearsal_tables.specs.calls.Leading.{Leads}
use Rattle.rehearsal_tables.proofs.ready.add_group.Given as goal

-- the group is open, and its updates lead on
abbrev pub invariant-loop-update : goal.invariant-loop-update
invariant-loop-update l = record {
  opened : IsSome l.window.current;
  stands : StandsOn l.window l.graph;
  leads : (at count : ℕ) (before : Graph) → Leads at count before l.fn.window l.fn.graph → Leads at count before l.window l.graph;
}
