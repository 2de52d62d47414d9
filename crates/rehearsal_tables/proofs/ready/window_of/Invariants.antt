use Rattle.std.proofs.Common.{◌≡◌, None}
use Rattle.group_window.specs.meaning.Windows.{StandsOn}
use Rattle.rehearsal_tables.specs.calls.Leading.{Leads}
use Rattle.rehearsal_tables.proofs.ready.window_of.Given as goal

-- no group is open, and the groups so far lead on
abbrev pub invariant-loop-group : goal.invariant-loop-group
invariant-loop-group l = record {
  closed : l.window.current ≡ None;
  stands : StandsOn l.window l.graph;
  leads : Leads l.fn.at l.count l.fn.graph l.window l.graph;
}
