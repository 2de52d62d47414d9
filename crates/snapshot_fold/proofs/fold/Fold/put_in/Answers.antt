use Rattle.std.proofs.Common.{◌≡◌, false, sym, ap, ◌∙◌}
use Rattle.std.proofs.lemmas.Bool.{not-true}
use Rattle.snapshot_fold.specs.meaning.Pieces.{has_piece}
use Rattle.snapshot_fold.proofs.Steps.{after_new_is, on_ok}
use Rattle.snapshot_fold.proofs.fold.Fold.put_in.Goals as goal

pub invariant_of-self-in-Ok-true : goal.invariant_of-self-in-Ok-true
invariant_of-self-in-Ok-true c =
    let absent : has_piece c.self.inside.pieces c.args.piece.now ≡ false = not-true _ (sym c.in-Ok-true.ensures.added ∙ c.in-Ok-true.field-0-test) in
    (after_new_is c.args.self.now c.self.inside.format c.self.inside.mode c.self.inside.done c.self.inside.pieces c.self.inside.went c.self.inside.came c.self.view_is c.self.invariant
    c.args.piece.now c.mode.result c.insert.new.self c.push.new.self c.requires.above
    absent c.in-Ok-true.ensures.keys
    (on_ok c.push.result (sym c.is_err.ensures.value ∙ c.if-is_err.false) c.push.ensures.ok) c.mode.ensures).0

pub returns-in-Ok-true-clause-ok : goal.returns-in-Ok-true-clause-ok
returns-in-Ok-true-clause-ok c =
    let absent : has_piece c.self.inside.pieces c.args.piece.now ≡ false = not-true _ (sym c.in-Ok-true.ensures.added ∙ c.in-Ok-true.field-0-test) in (
      ap (λ s. has_piece s.held c.args.piece.now) (sym c.self.view_is) ∙ absent,
      (after_new_is c.args.self.now c.self.inside.format c.self.inside.mode c.self.inside.done c.self.inside.pieces c.self.inside.went c.self.inside.came c.self.view_is c.self.invariant
          c.args.piece.now c.mode.result c.insert.new.self c.push.new.self c.requires.above
          absent c.in-Ok-true.ensures.keys
          (on_ok c.push.result (sym c.is_err.ensures.value ∙ c.if-is_err.false) c.push.ensures.ok) c.mode.ensures).1,
    )
