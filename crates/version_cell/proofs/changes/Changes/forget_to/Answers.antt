use Rattle.std.proofs.Common.{◌<◌, ◌≤◌, length, drop, sym, ap, ◌∙◌, arith}
use Rattle.version_cell.specs.storage.Due.{due_count}
use Rattle.version_cell.specs.storage.Tracks.{is_changed}
use Rattle.version_cell.proofs.Folding.{dropped-due, is_changed-after, none-after}
use Rattle.version_cell.proofs.changes.Changes.forget_to.Goals as goal

pub returns-then-due-len-clause-rest : goal.returns-then-due-len-clause-rest
returns-then-due-len-clause-rest c =
    c.drop-drain.ensures.items c.drain.ensures.ready.2
    ∙ c.drain.ensures.kept
    ∙ (λ i. drop (c.due-due.ensures i) (c.self.view_is i).changes)
    ∙ dropped-due c.args.t c.args.self.now.changes

pub returns-then-due-len-clause-left : goal.returns-then-due-len-clause-left
returns-then-due-len-clause-left c =
    let fewer : due_count c.args.t c.args.self.now.changes < length c.args.self.now.changes =
    omega (arith, c.if-due-len.true, c.due-due.ensures, c.len.ensures.value, ap (λ track. length track.changes) c.self.view_is) in
    sym (ap is_changed (returns-then-due-len-clause-rest c) ∙ is_changed-after c.args.t c.args.self.now.changes fewer)

pub returns-clause-rest : goal.returns-clause-rest
returns-clause-rest c =
    let all : length c.args.self.now.changes ≤ due_count c.args.t c.args.self.now.changes =
    omega (arith, c.if-due-len.false, c.due-due.ensures, c.len.ensures.value, ap (λ track. length track.changes) c.self.view_is) in
    c.shrink_to_fit.ensures.items ∙ c.clear.ensures.items ∙ none-after c.args.t c.args.self.now.changes all
