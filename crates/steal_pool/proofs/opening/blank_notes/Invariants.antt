use Rattle.std.proofs.Common.{◌≡◌, length}
use Rattle.steal_pool.proofs.opening.blank_notes.Given as goal

abbrev pub invariant-loop-i : goal.invariant-loop-i
invariant-loop-i l = length l.notes ≡ l._i
