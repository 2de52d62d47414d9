-- The slots so far are those of the members so far.
use Rattle.std.proofs.Common.{◌≡◌, length, map, take}
use Rattle.graph_types.specs.storage.Slots.{slot_of}
use Rattle.snapshot_fold.specs.storage.Packed.{most_packed}
use Rattle.snapshot_fold.proofs.packed.PackedPiece.of.Given as goal

abbrev pub invariant-loop-place : goal.invariant-loop-place
invariant-loop-place l = record {
  live : take l.place l.slots ≡ map slot_of (take l.place l.piece.members);
  room : length l.slots ≡ most_packed;
}
