use Rattle.std.proofs.Common.{◌-◌}
use Rattle.store_bench.specs.calls.Filling.{IsFilled}
use Rattle.store_bench.proofs.window.fill.Given as goal

-- each update before this one is a group, or was refused
abbrev pub invariant-loop-number : goal.invariant-loop-number
invariant-loop-number l = IsFilled l.window l.fn.at 8 (l.number - l.from) l.fn.graph l.graph
