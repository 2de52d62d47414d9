use Rattle.delta_tables.specs.calls.Changing.{IsChanging}
use Rattle.delta_tables.proofs.graphs.change.Given as goal

-- the updates so far led from the graph as it came
abbrev pub invariant-loop : goal.invariant-loop
invariant-loop l = IsChanging l.window l.fn.graph l.graph
