use Rattle.std.proofs.Common.{arith}
use Rattle.std.proofs.lemmas.Result.{err_from_is_err_and}
use Rattle.tesseract.proofs.Emptying.{AtDelta-start, all_written, next_fails, next_full, next_written}
use Rattle.tesseract.proofs.mining.write_waiting.Goals as goal

pub loop-delta-init : goal.loop-delta-init
loop-delta-init g c = (
  (let v = c.first.view_is in omega (arith, v)),
  omega arith,
  λ left0 left written0 reader p pattern stamp deltas running.
      AtDelta-start c.args.terms pattern p left0 left written0 _ _ reader c.first.inside.0 c.args.standing c.args.deltas.now
      (let v = c.first.view_is in omega (arith, v, stamp)) deltas running,
)

pub loop-delta-preserved : goal.loop-delta-preserved
loop-delta-preserved g c = (
  (let t = c.loop-delta.invariant.0 in omega (arith, t)),
  (let before = c.loop-delta.invariant.1 in let kept = c.in_ok-now.ensures.cause.kept in omega (arith, before, kept)),
  λ left0 left written0 reader p pattern stamp deltas running.
      next_written c.args.terms pattern p left0 left written0 _ _ _ _ reader c.args.first c.loop-delta.t c.loop-delta.standing
      c.loop-delta.delta-index c.args.deltas.now c.delta-item.result c.loop-delta-test.true c.delta-item.is c.loop-delta.invariant.0 c.requires.few
      (c.loop-delta.invariant.2 left0 left written0 reader p pattern stamp deltas running) c.in-Some.now
      (rw c.in-Some.is at c.in_ok-now.ensures.writes),
)

pub returns-in_err-now-clause-writes : goal.returns-in_err-now-clause-writes
returns-in_err-now-clause-writes g c = λ left0 left left' written0 reader p pattern stamp deltas tell running.
    let e = err_from_is_err_and c.from_residual.result c.from_residual.ensures.1 in
    rw e.1 (next_fails c.args.terms pattern p left0 left written0 _ _ _ c.write_group.new.page reader c.args.first c.loop-delta.t c.loop-delta.standing
    c.loop-delta.delta-index c.args.deltas.now c.delta-item.result c.loop-delta-test.true c.delta-item.is c.loop-delta.invariant.0 c.requires.few
    (c.loop-delta.invariant.2 left0 left written0 reader p pattern stamp deltas running) left' c.in_err-now.field-0.0 tell c.in_err-now.ensures.writes)

pub returns-in_default-clause-writes : goal.returns-in_default-clause-writes
returns-in_default-clause-writes g c = λ left0 left left' written0 reader p pattern stamp deltas tell running.
    next_full c.args.terms pattern p left0 left written0 _ _ _ _ reader c.args.first c.loop-delta.t c.loop-delta.standing
    c.loop-delta.delta-index c.args.deltas.now c.delta-item.result c.loop-delta-test.true c.delta-item.is c.loop-delta.invariant.0 c.requires.few
    (c.loop-delta.invariant.2 left0 left written0 reader p pattern stamp deltas running) left' tell
    (rw c.in_default.is at c.in_ok-now.ensures.writes)

pub returns-clause-writes : goal.returns-clause-writes
returns-clause-writes g c = λ left0 left left' written0 reader p pattern stamp deltas tell running.
    all_written c.args.terms pattern p left0 left written0 _ _ reader c.loop-delta.t c.loop-delta.standing c.loop-delta.delta-index
    c.args.deltas.now c.loop-delta-test.false (c.loop-delta.invariant.2 left0 left written0 reader p pattern stamp deltas running)
