use Rattle.std.proofs.Common.{◌++◌, ◌∷◌, [], take_all, sym, ap, ◌∙◌}
use Rattle.graph_types.specs.meaning.Piece.{members_of_all}
use Rattle.plain_miner.specs.meaning.Pieces.{piece_difference}
use Rattle.plain_miner.proofs.SameMembers.{members_of_all-without, pieces_without-other, pieces_without-same}
use Rattle.plain_miner.proofs.difference.without.Goals as goal
use Rattle.plain_miner.proofs.difference.without.Goals.{then-not-is_among+in_ok-push, else-not-is_among}

pub loop-piece-preserved : goal.loop-piece-preserved
loop-piece-preserved c =
    let pieces = c.args.pieces.now in
    let others = c.args.others.now in
    let i = c.loop-piece.piece-index in
    let p = c.piece-item.result in
    elim c.if-not-is_among.branch [
      | then-not-is_among+in_ok-push w ↦ w.left-is ∙ w.in_ok-push.ensures.ok ∙ ap (λ left. left ++ p ∷ []) c.loop-piece.invariant
          ∙ sym (pieces_without-other pieces others i p c.loop-piece-test.true c.piece-item.is (sym c.is_among.ensures ∙ w.if-not-is_among.true))
      | else-not-is_among w ↦ w.left-is ∙ c.loop-piece.invariant
          ∙ sym (pieces_without-same pieces others i p c.loop-piece-test.true c.piece-item.is (sym c.is_among.ensures ∙ w.if-not-is_among.false))
    ]

pub returns-clause-members : goal.returns-clause-members
returns-clause-members c =
    let pieces = c.args.pieces.now in
    let others = c.args.others.now in
    ap members_of_all (c.loop-piece.invariant ∙ ap (λ pieces. piece_difference pieces others) (take_all c.loop-piece.piece-index pieces c.loop-piece-test.false))
    ∙ members_of_all-without pieces others
