use Rattle.std.proofs.Common.{◌≡◌, drop}
use Rattle.graph_types.specs.storage.Slots.{place_from}
use Rattle.graph_types.proofs.piece.place_of.Given as goal

abbrev pub invariant-loop-place : goal.invariant-loop-place
invariant-loop-place l = place_from 0 l.slots l.slot ≡ place_from l.place (drop l.place l.slots) l.slot
