use Rattle.graph_types.specs.storage.Slots.{member_in}
use Rattle.graph_types.proofs.Packed.{Joins, is_there, joins, packed_joined}
use Rattle.graph_types.proofs.piece.Piece.with_slot.Goals as goal
use Rattle.graph_types.proofs.piece.Piece.with_slot.Goals.{In_ok-place}

joins_there : (c : In_ok-place) → Joins c.args.self.now (member_in c.args.self.now.mode c.args.slot) c.in_ok-place.place
joins_there c =
    joins _ c.args.slot _ c.len-len.ensures.piece c.requires.unused c.live.ensures _ _ c.requires.lower_first c.len-len.ensures.members c.if-len-eq-MOST_MEMBERS.false c.in_ok-place.ensures

pub returns-in_err-place : goal.returns-in_err-place
returns-in_err-place c =
    rw c.from_residual.ensures
    (is_there _ c.args.slot _ c.len-len.ensures.piece c.requires.unused c.live.ensures c.in_err-place.ensures)

pub put_slot-requires-clause-place : goal.put_slot-requires-clause-place
put_slot-requires-clause-place c = rw c.len-len.ensures.members (joins_there (goal.at.put_slot-requires-clause-place c).In_ok-place).within

pub invariant_of-result : goal.invariant_of-result
invariant_of-result c =
    let at = joins_there (goal.at.invariant_of-result c).In_ok-place in
    (packed_joined _ _ _ _ _ _ _ _ _ c.self.invariant c.self.view_is at c.len-len.ensures.members c.requires.unused c.put_slot.ensures).0

pub returns : goal.returns
returns c =
    let at = joins_there (goal.at.returns c).In_ok-place in
    (at.can, (packed_joined _ _ _ _ _ _ _ _ _ c.self.invariant c.self.view_is at c.len-len.ensures.members c.requires.unused c.put_slot.ensures).1)
