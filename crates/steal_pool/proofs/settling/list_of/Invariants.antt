use Rattle.std.proofs.Common.{◌≡◌, ◌++◌}
use Rattle.steal_pool.proofs.settling.list_of.Given as goal

abbrev pub invariant-loop-number : goal.invariant-loop-number
invariant-loop-number g l =
    (goal.iterator-loop-number g).can_next l.number-iterator × (goal.iterator-loop-number g).is_finite l.number-iterator × (l.list ++ l.number-iterator ≡ l.initial.list ++ l.initial.number-iterator)
