use Rattle.std.proofs.Common.{◌≡◌, ◌≤◌, Some, length, map, take, ap, subst, ◌∙◌, arith, take_all}
use Rattle.std.specs.List.{slice_get}
use Rattle.std.proofs.lemmas.List.{length-set}
use Rattle.graph_types.specs.storage.Slots.{piece_in, slot_of}
use Rattle.snapshot_fold.specs.storage.Packed.{HoldsFew, most_packed}
use Rattle.snapshot_fold.proofs.Packing.{fills, packs}
use Rattle.snapshot_fold.proofs.packed.PackedPiece.of.Goals as goal

pub loop-place-preserved : goal.loop-place-preserved
loop-place-preserved c =
    let members = c.args.piece.now.members in
    let slots = c.loop-place.slots in
    let found : slice_get members c.loop-place.place ≡ Some c.unwrap.result = cc in
    record {
      live = fills members slots c.loop-place.place c.unwrap.result c.slot.result found c.slot.ensures (omega arith) c.loop-place.invariant.live;
      room = length-set slots c.loop-place.place c.slot.result ∙ c.loop-place.invariant.room;
    }

holds_few : (c : goal.After-mode) → HoldsFew c.mode.result c.len-len.result c.loop-place.slots × (piece_in c.mode.result c.len-len.result c.loop-place.slots ≡ c.args.piece.now)
holds_few c =
    let p = c.args.piece.now in
    let all : c.loop-place.place ≡ c.len-len.result = omega arith in
    let few : length p.members ≤ most_packed = omega arith in
    packs p c.mode.result c.len-len.result c.loop-place.slots c.len-len.ensures.piece few c.mode.ensures c.len-len.ensures.members
    (subst (λ n. take n c.loop-place.slots ≡ map slot_of (take n p.members)) all c.loop-place.invariant.live
    ∙ ap (map slot_of) (take_all c.len-len.result p.members (omega arith)))

pub invariant_of-result : goal.invariant_of-result
invariant_of-result c = (holds_few c).0

pub returns : goal.returns
returns c = (omega arith, (holds_few c).1)
