-- What was put, and what the pieces that are left will add, are the pieces before.
use Rattle.std.proofs.Common.{◌≡◌, ◌++◌}
use Rattle.snapshot_fold.specs.storage.Undone.{pieces_before_open}
use Rattle.snapshot_fold.proofs.listing.put_back.Given as goal

abbrev pub invariant-loop-piece : goal.invariant-loop-piece
invariant-loop-piece l = l.pieces ++ pieces_before_open l.piece-iterator l.to_put l.to_skip ≡ pieces_before_open l.held l.went l.came
