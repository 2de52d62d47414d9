use Rattle.job_io.proofs.Gathering.{Gathers-err, Gathers-put, Puts-after, Puts-more, WritesAll-stops, WritesBoth-stops, WritesBoth-then}
use Rattle.job_io.proofs.page.Page.put.Goals as goal

pub returns-in_err-send-clause-gathered : goal.returns-in_err-send-clause-gathered
returns-in_err-send-clause-gathered g c =
    Gathers-err _ c.from_residual.ensures.0 (Gathers-put _ _ (Puts-more _ c.in_err-send.ensures.sent))

pub returns-then-bytes-gt-PAGE_BYTES-clause-gathered : goal.returns-then-bytes-gt-PAGE_BYTES-clause-gathered
returns-then-bytes-gt-PAGE_BYTES-clause-gathered g c =
    rw c.send.ensures.empty (Gathers-put _ _ (Puts-after _ _ c.in_ok-send.ensures.sent.all c.put_all.ensures.written))

pub returns-in_err-send-clause-sends : goal.returns-in_err-send-clause-sends
returns-in_err-send-clause-sends g c = λ _ _. WritesAll-stops _ c.from_residual.ensures.0 c.in_err-send.ensures.calls

pub returns-in_err-send-clause-passes : goal.returns-in_err-send-clause-passes
returns-in_err-send-clause-passes g c = λ _. WritesBoth-stops _ _ c.from_residual.ensures.0 c.in_err-send.ensures.calls

pub returns-then-bytes-gt-PAGE_BYTES-clause-passes : goal.returns-then-bytes-gt-PAGE_BYTES-clause-passes
returns-then-bytes-gt-PAGE_BYTES-clause-passes g c = λ _. WritesBoth-then _ _ _ c.in_ok-send.ensures.calls c.put_all.ensures.calls
