use Rattle.group_window.specs.meaning.Windows.{StandsOn}
use Rattle.window_tables.proofs.windows.window.Given as goal

abbrev pub invariant-loop-step : goal.invariant-loop-step
invariant-loop-step l = StandsOn l.window l.graph
