use Rattle.std.proofs.Common.{arith}
use Rattle.std.proofs.lemmas.Result.{err_from_is_err_and}
use Rattle.tesseract.proofs.Between.{StandsBetween-goes, StandsBetween-start}
use Rattle.tesseract.proofs.Going.{Ended-unbegun}
use Rattle.tesseract.proofs.mine.mine_lines.Goals as goal

pub take_line-requires-clause-stands : goal.take_line-requires-clause-stands
take_line-requires-clause-stands g c = (
  c.lines.invariant.0.progress,
  (let n = c.lines.invariant.0.running.counted in omega (arith, n)),
  c.lines.invariant.0.stands,
)

pub lines-init : goal.lines-init
lines-init g c = (
  StandsBetween-start c.args.terms c.args.plan _ _ c.args.page.now c.in-Ok.reader _
      c.requires.fresh (c.in-Ok-new.ensures c.args.terms)
      c.in-Ok.ensures.line c.in-Ok.ensures.number c.in-Ok.ensures.most
      c.in-Ok.ensures.live c.in-Ok.ensures.held,
  omega arith,
  omega arith,
)

pub lines-preserved : goal.lines-preserved
lines-preserved g c = (
  StandsBetween-goes c.args.terms c.args.plan _ _ _ _ _ c.lines.reader _ c.in-More.next c.lines.invariant.0.most_is
      (rw c.in-More.is at c.in_ok-next.ensures.goes)
      ((rw c.in-More.is at c.in_ok-next.ensures.runs) _ _ c.lines.invariant.0.progress c.lines.invariant.0.stands c.lines.invariant.0.running),
  omega (arith, c.lines.invariant.1, c.in_ok-next.ensures.reads),
  omega (arith, c.lines.invariant.2, c.in_ok-next.ensures.writes),
)

pub returns-in-End-clause-mined : goal.returns-in-End-clause-mined
returns-in-End-clause-mined g c =
    (rw c.in-End.is at c.in_ok-next.ensures.runs) _ _ c.lines.invariant.0.progress c.lines.invariant.0.stands c.lines.invariant.0.running

pub returns-in_err-next-clause-mined : goal.returns-in_err-next-clause-mined
returns-in_err-next-clause-mined g c =
    let p = err_from_is_err_and c.from_residual.result c.from_residual.ensures.1 in
    rw p.1 (c.in_err-next.ensures.runs _ _ c.lines.invariant.0.progress c.lines.invariant.0.stands c.lines.invariant.0.running)

pub returns-in_default-clause-mined : goal.returns-in_default-clause-mined
returns-in_default-clause-mined g c =
    (tt, Ended-unbegun c.args.terms _ _ c.args.page.now c.requires.fresh)

pub returns-in_default-new-clause-mined : goal.returns-in_default-new-clause-mined
returns-in_default-new-clause-mined g c =
    (tt, Ended-unbegun c.args.terms _ _ c.args.page.now c.requires.fresh)
