-- The piece so far has the members so far.
use Rattle.std.proofs.Common.{◌≡◌, take}
use Rattle.snapshot_fold.proofs.packed.PackedPiece.piece.Given as goal

abbrev pub invariant-loop-slot : goal.invariant-loop-slot
invariant-loop-slot l = l.piece ≡ record { mode = l.self.mode; members = take l.slot-index l.self.members }
