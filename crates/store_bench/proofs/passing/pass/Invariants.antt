use Rattle.std.proofs.Common.{◌≤◌, ◌-◌}
use Rattle.store_bench.specs.calls.Passing.{KeepsUpTo}
use Rattle.store_bench.proofs.passing.pass.Given as goal

abbrev pub invariant-loop-done : goal.invariant-loop-done
invariant-loop-done l = KeepsUpTo l.done l.store × (l.done ≤ l.to)

abbrev pub decreases-loop-done : goal.decreases-loop-done
decreases-loop-done l = l.to - l.done
