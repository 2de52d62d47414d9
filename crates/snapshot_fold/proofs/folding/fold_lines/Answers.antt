use Rattle.std.proofs.Common.{Ok, sym, ap, subst, ◌∙◌, arith}
use Rattle.std.proofs.lemmas.Result.{err_from_is_err_and}
use Rattle.snapshot_fold.specs.meaning.Folding.{is_reached, outcome_at_end}
use Rattle.snapshot_fold.specs.calls.Reading.{IsOutcome, TakesLine}
use Rattle.snapshot_fold.proofs.Going.{Stands-start, Stands-next, Stands-reached, Stands-ends, Stands-stops}
use Rattle.snapshot_fold.proofs.folding.fold_lines.Goals as goal

pub lines-init : goal.lines-init
lines-init g c = record {
  stands = Stands-start c.args.most_lines c.args.at _ c.in_ok-reader.reader c.new-fold.result c.new-fold.ensures
      c.in_ok-reader.ensures.line c.in_ok-reader.ensures.number c.in_ok-reader.ensures.most
      c.in_ok-reader.ensures.live c.in_ok-reader.ensures.held;
  kept = omega arith;
}

pub returns-then-is_reached-clause-folds : goal.returns-then-is_reached-clause-folds
returns-then-is_reached-clause-folds g c =
    let reached = sym (c.is_reached.ensures ∙ ap (is_reached c.args.at) c.done.ensures) ∙ c.if-is_reached.true in
    Stands-reached c.args.most_lines c.args.at _ _ c.lines.reader c.lines.fold c.list.result c.lines.invariant.stands reached
    c.list.ensures.gives

pub returns-in_err-take_line-clause-folds : goal.returns-in_err-take_line-clause-folds
returns-in_err-take_line-clause-folds g c =
    let later = sym (c.is_reached.ensures ∙ ap (is_reached c.args.at) c.done.ensures) ∙ c.if-is_reached.false in
    let p = err_from_is_err_and c.from_residual-in_err-take_line.result c.from_residual-in_err-take_line.ensures.1 in
    let folds =
    Stands-stops c.args.most_lines c.args.at _ _ _ c.lines.reader c.take_line.new.reader c.lines.fold c.take_line.new.fold later
    c.lines.invariant.stands _ c.in_err-take_line.ensures.takes in
    rw (p.1, p.2) folds

pub returns-then-not-branch-clause-folds : goal.returns-then-not-branch-clause-folds
returns-then-not-branch-clause-folds g c =
    let later = sym (c.is_reached.ensures ∙ ap (is_reached c.args.at) c.done.ensures) ∙ c.if-is_reached.false in
    let ends =
    subst (λ b. TakesLine c.lines.reader c.take_line.new.reader c.lines.fold c.take_line.new.fold (g.S.Source.left c.lines.input)
    (g.S.Source.left c.take_line.new.input) (Ok b)) c.if-not-branch.true c.in_ok-take_line.ensures.takes in
    Stands-ends c.args.most_lines c.args.at _ _ _ c.lines.reader c.take_line.new.reader c.lines.fold c.take_line.new.fold later
    c.lines.invariant.stands c.end.result ends
    (subst (λ n. IsOutcome c.end.result (outcome_at_end c.args.at n c.take_line.new.fold)) c.number-whole_lines.ensures c.end.ensures.gives)

pub lines-preserved : goal.lines-preserved
lines-preserved g c =
    let later = sym (c.is_reached.ensures ∙ ap (is_reached c.args.at) c.done.ensures) ∙ c.if-is_reached.false in
    let takes =
    subst (λ b. TakesLine c.lines.reader c.take_line.new.reader c.lines.fold c.take_line.new.fold (g.S.Source.left c.lines.input)
    (g.S.Source.left c.take_line.new.input) (Ok b)) c.if-not-branch.false c.in_ok-take_line.ensures.takes in
    record {
      stands = Stands-next c.args.most_lines c.args.at _ _ _ c.lines.reader c.take_line.new.reader c.lines.fold
          c.take_line.new.fold later c.lines.invariant.stands takes.0 takes.1;
      kept = omega (arith, c.lines.invariant.kept, c.in_ok-take_line.ensures.kept);
    }
