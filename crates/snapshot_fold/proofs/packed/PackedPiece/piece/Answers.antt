use Rattle.std.proofs.Common.{refl, sym, ap, subst, ◌∙◌, get_or}
use Rattle.std.specs.Option.{IsSome}
use Rattle.graph_types.specs.meaning.Piece.{HasLowerFirst, IsPiece}
use Rattle.graph_types.specs.storage.Slots.{member_in}
use Rattle.snapshot_fold.proofs.Packing.{found_itself, lower_first, next_joins}
use Rattle.snapshot_fold.proofs.packed.PackedPiece.piece.Goals as goal

pub member-requires : goal.member-requires
member-requires c =
    let live = c.live-slot-items.result.now in
    let i = c.loop-slot.slot-index in
    subst (λ k. HasLowerFirst (member_in k (get_or live i (0, 0)))) (sym (ap (λ q. q.mode) c.self.view_is))
    (lower_first c.args.self.now i (get_or live i (0, 0)) live (subst IsPiece c.self.view_is c.self.invariant.sound) c.live-slot-items.ensures c.loop-slot-test.true (found_itself live i (0, 0) c.loop-slot-test.true))

pub unwrap-piece-requires : goal.unwrap-piece-requires
unwrap-piece-requires c =
    let joined =
    next_joins c.args.self.now c.self.inside.mode c.loop-slot.slot-index (0, 0) c.live-slot-items.result.now c.loop-slot.piece c.member.result c.with.result
    (subst IsPiece c.self.view_is c.self.invariant.sound) (ap (λ q. q.mode) c.self.view_is) c.live-slot-items.ensures c.loop-slot-test.true c.loop-slot.invariant c.member.ensures c.with.ensures in
    subst IsSome (sym joined) refl

pub loop-slot-preserved : goal.loop-slot-preserved
loop-slot-preserved c =
    let joined =
    next_joins c.args.self.now c.self.inside.mode c.loop-slot.slot-index (0, 0) c.live-slot-items.result.now c.loop-slot.piece c.member.result c.with.result
    (subst IsPiece c.self.view_is c.self.invariant.sound) (ap (λ q. q.mode) c.self.view_is) c.live-slot-items.ensures c.loop-slot-test.true c.loop-slot.invariant c.member.ensures c.with.ensures in
    let is = sym c.unwrap-piece.ensures ∙ joined in cc
