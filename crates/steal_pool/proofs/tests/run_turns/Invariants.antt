use Rattle.std.proofs.Common.{◌≡◌, length, map}
use Rattle.steal_pool.specs.meaning.Pool.{ThiefValue}
use Rattle.steal_pool.proofs.tests.run_turns.Given as goal

abbrev pub invariant-loop-i : goal.invariant-loop-i
invariant-loop-i g l = (l.feed ≡ record l.initial.feed { fed = l.feed.fed }) × (length l.feed.fed ≡ l.i)

abbrev pub invariant-loop-i-2 : goal.invariant-loop-i-2
invariant-loop-i-2 g l = map (λ (t : ThiefValue). t.pool) l.thieves ≡ map (λ (t : ThiefValue). t.pool) l.initial.thieves
