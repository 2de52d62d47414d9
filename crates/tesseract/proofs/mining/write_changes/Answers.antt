use Rattle.job_io.proofs.Gathering.{Gathers-then, Gathers-err, Gathers-more}
use Rattle.tesseract.proofs.mining.write_changes.Goals as goal

pub returns-in_err-write_delta-clause-text : goal.returns-in_err-write_delta-clause-text
returns-in_err-write_delta-clause-text g c =
    Gathers-err _ c.from_residual.ensures.0 (Gathers-more _ c.in_err-write_delta.ensures.text)

pub returns-clause-text : goal.returns-clause-text
returns-clause-text g c = Gathers-then c.in_ok-write_delta.ensures.text c.write_done.ensures.text
