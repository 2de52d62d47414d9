use Rattle.std.proofs.Common.{sym, ap, ◌∙◌}
use Rattle.snapshot_fold.specs.meaning.Pieces.{has_piece}
use Rattle.snapshot_fold.proofs.Steps.{after_rem_is, on_ok}
use Rattle.snapshot_fold.proofs.fold.Fold.take_out.Goals as goal

pub invariant_of-self-2 : goal.invariant_of-self-2
invariant_of-self-2 c =
    (after_rem_is c.args.self.now c.self.inside.format c.self.inside.mode c.self.inside.done c.self.inside.pieces c.self.inside.went c.self.inside.came c.self.view_is c.self.invariant
    c.args.piece.now c.mode.result c.remove.new.self c.push.new.self c.requires.first c.requires.above
    (sym c.remove.ensures.test ∙ c.if-not-remove.false) c.remove.ensures.keys
    (on_ok c.push.result (sym c.is_err.ensures.value ∙ c.if-is_err.false) c.push.ensures.ok) c.mode.ensures).0

pub returns-clause-ok : goal.returns-clause-ok
returns-clause-ok c =
    let there = sym c.remove.ensures.test ∙ c.if-not-remove.false in (
      ap (λ s. has_piece s.held c.args.piece.now) (sym c.self.view_is) ∙ there,
      (after_rem_is c.args.self.now c.self.inside.format c.self.inside.mode c.self.inside.done c.self.inside.pieces c.self.inside.went c.self.inside.came c.self.view_is c.self.invariant
          c.args.piece.now c.mode.result c.remove.new.self c.push.new.self c.requires.first c.requires.above
          there c.remove.ensures.keys
          (on_ok c.push.result (sym c.is_err.ensures.value ∙ c.if-is_err.false) c.push.ensures.ok) c.mode.ensures).1,
    )
