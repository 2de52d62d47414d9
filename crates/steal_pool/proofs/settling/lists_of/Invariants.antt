use Rattle.std.proofs.Common.{◌≡◌, map, take}
use Rattle.steal_pool.specs.meaning.Pool.{ThiefValue}
use Rattle.steal_pool.proofs.settling.lists_of.Given as goal

abbrev pub invariant-loop-thief : goal.invariant-loop-thief
invariant-loop-thief g l = l.lists ≡ map (λ (t : ThiefValue). t.taken) (take l.thief-index l.thief-items)
