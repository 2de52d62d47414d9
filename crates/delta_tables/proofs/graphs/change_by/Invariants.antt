use Rattle.delta_tables.specs.calls.Changing.{IsChanging}
use Rattle.delta_tables.proofs.graphs.change_by.Given as goal

-- the updates so far led from the graph as it came
abbrev pub invariant-loop-update : goal.invariant-loop-update
invariant-loop-update l = IsChanging l.window l.fn.graph l.graph
