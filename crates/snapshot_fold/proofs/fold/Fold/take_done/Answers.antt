use Rattle.std.proofs.Common.{Ok, sym, ap, ◌∙◌}
use Rattle.snapshot_fold.proofs.Steps.{IsOpen-done, seen, after_done_is}
use Rattle.snapshot_fold.proofs.fold.Fold.take_done.Goals as goal

pub invariant_of-self : goal.invariant_of-self
invariant_of-self c = rw (c.new.ensures, c.new-2.ensures) (IsOpen-done _ _ _ c.self.invariant)

pub returns-clause-ok : goal.returns-clause-ok
returns-clause-ok c =
    c.in_default.ensures
    ∙ ap Ok
    (sym (after_done_is c.args.self.now c.self.inside.format c.self.inside.mode c.self.inside.done c.self.inside.pieces c.self.inside.went c.self.inside.came c.self.view_is c.self.invariant c.args.stamp)
    ∙ (λ i. seen c.self.inside.format c.self.inside.mode c.args.stamp c.self.inside.pieces (sym c.new.ensures i) (sym c.new-2.ensures i)))
