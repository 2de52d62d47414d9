use Rattle.std.proofs.Common.{◌≡◌, ◌++◌, List, All, length}
use Rattle.steal_pool.specs.meaning.Pool.{ThiefValue}
use Rattle.steal_pool.specs.calls.Settling.{TakesBack}
use Rattle.steal_pool.proofs.settling.add_all.Given as goal

abbrev pub invariant-loop-thief : goal.invariant-loop-thief
invariant-loop-thief g l =
    All (λ (t : ThiefValue). t.pool ≡ l.initial.books.pool) l.thieves × ((back : List ThiefValue) × (l.initial.thieves ≡ l.thieves ++ back) × TakesBack back l.initial.books l.books)

abbrev pub decreases-loop-thief : goal.decreases-loop-thief
decreases-loop-thief g l = length l.thieves
