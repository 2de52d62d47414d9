use Rattle.steal_pool.specs.calls.Looks.{KeepsCounts}
use Rattle.steal_pool.specs.calls.Steals.{OnlyLooks}
use Rattle.steal_pool.proofs.thief.Thief.steal.Given as goal

abbrev pub invariant-loop : goal.invariant-loop
invariant-loop g l =
    (goal.iterator-loop g).can_next l.iterator' × (goal.iterator-loop g).is_finite l.iterator' × OnlyLooks l.initial.self l.self × KeepsCounts l.initial.self l.self
