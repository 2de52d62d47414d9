use Rattle.std.proofs.Common.{◌≡◌}
use Rattle.steal_pool.proofs.parcel.append.Given as goal

abbrev pub invariant-loop : goal.invariant-loop
invariant-loop g l =
    (goal.iterator-loop g).can_next l.iterator' × (goal.iterator-loop g).is_finite l.iterator' × (l.numbers ≡ l.initial.numbers) × (l.notes ≡ l.initial.notes)
