use Rattle.std.proofs.Common.{◌≡◌}
use Rattle.pool_bench.proofs.threads.take_all.Given as goal

abbrev pub invariant-loop : goal.invariant-loop
invariant-loop g l =
    (goal.iterator-loop g).can_next l.iterator' × (goal.iterator-loop g).is_finite l.iterator' × (l.thief.pool ≡ l.initial.thief.pool)
