use Rattle.std.proofs.Common.{ap, subst, ◌∙◌}
use Rattle.graph_types.specs.meaning.Piece.{IsPiece}
use Rattle.graph_types.proofs.Packed.{slot_found}
use Rattle.graph_types.proofs.piece.Piece.get.Goals as goal

pub member_of-requires : goal.member_of-requires
member_of-requires c =
    let found = c.in_ok-slot.ensures.lookup.3 in
    (slot_found _ _ _ _ _ (subst IsPiece c.self.view_is c.self.invariant.sound) (ap (λ p. p.mode) c.self.view_is) c.live.ensures found.0 (found.1 _)).0

pub returns : goal.returns
returns c =
    let found = c.in_ok-slot.ensures.lookup.3 in
    c.member_of.ensures
    ∙ (slot_found _ _ _ _ _ (subst IsPiece c.self.view_is c.self.invariant.sound) (ap (λ p. p.mode) c.self.view_is) c.live.ensures found.0 (found.1 _)).1
