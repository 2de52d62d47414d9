use Rattle.std.proofs.Common.{refl}
use Rattle.std.proofs.lemmas.Result.{err_from_is_err_and}
use Rattle.cond_eval.specs.meaning.Patterns.{pattern_of}
use Rattle.tesseract.specs.calls.Progress.{all_mined}
use Rattle.tesseract.proofs.Going.{Running-ended}
use Rattle.tesseract.proofs.Turning.{tell_bytes}
use Rattle.tesseract.proofs.mine.end.Goals as goal

pub returns-in_err-_waiting-clause-runs : goal.returns-in_err-_waiting-clause-runs
returns-in_err-_waiting-clause-runs g c = λ left0 left left' written0 old new p is_end ends under running.
    let e = err_from_is_err_and c.from_residual.result c.from_residual.ensures.1 in
    rw e.1 (c.in_err-_waiting.ensures.empties left0 left left' written0 old p under (tell_bytes left left' _ ends) running)

pub returns-in-Nothing-clause-runs : goal.returns-in-Nothing-clause-runs
returns-in-Nothing-clause-runs g c = λ left0 left left' written0 old new p is_end ends under running.
    let emptied = (rw c.in-Nothing.is at c.in_ok-_waiting.ensures.empties) left0 left left' written0 old p under (tell_bytes left left' _ ends) running in (
      is_end,
      Running-ended c.args.terms left0 left left' written0 _ _ old new (all_mined (pattern_of c.args.program.now) p) c.args.status refl ends emptied.1,
    )

pub returns-in-End-clause-runs : goal.returns-in-End-clause-runs
returns-in-End-clause-runs g c = λ left0 left left' written0 old new p is_end ends under running.
    (rw c.in-End.is at c.in_ok-_waiting.ensures.empties) left0 left left' written0 old p under (tell_bytes left left' _ ends) running
