-- What was moved, and what is left, are all.
use Rattle.std.proofs.Common.{◌≡◌, ◌++◌}
use Rattle.snapshot_fold.proofs.held.unpacked.Given as goal

abbrev pub invariant-loop-piece : goal.invariant-loop-piece
invariant-loop-piece l = l.long.keys ++ l.piece-iterator ≡ l.packed.keys
