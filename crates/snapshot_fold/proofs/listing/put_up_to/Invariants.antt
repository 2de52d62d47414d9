-- What is left gives what is still to be put, and the others.
use Rattle.std.proofs.Common.{◌≡◌, ◌++◌, length}
use Rattle.snapshot_fold.specs.storage.Undone.{pieces_above, pieces_up_to}
use Rattle.snapshot_fold.proofs.listing.put_up_to.Given as goal

abbrev pub invariant-loop-left : goal.invariant-loop-left
invariant-loop-left l = record {
  put : l.pieces ++ pieces_up_to l.left l.piece ≡ l.initial.pieces ++ pieces_up_to l.went l.piece;
  left : pieces_above l.left l.piece ≡ pieces_above l.went l.piece;
}

abbrev pub decreases-loop-left : goal.decreases-loop-left
decreases-loop-left l = length l.left
