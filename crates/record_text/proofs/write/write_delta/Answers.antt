use Rattle.job_io.proofs.Gathering.{Gathers-then, Gathers-err, Gathers-more}
use Rattle.record_text.proofs.write.write_delta.Goals as goal

pub returns-in_err-write_records-clause-text : goal.returns-in_err-write_records-clause-text
returns-in_err-write_records-clause-text g c =
    rw (← c.deref.ensures) (Gathers-err _ c.from_residual.ensures.0 (Gathers-more _ c.in_err-write_records.ensures.text))

pub returns-clause-text : goal.returns-clause-text
returns-clause-text g c =
    rw (← c.deref.ensures, ← c.deref-2.ensures) (Gathers-then c.in_ok-write_records.ensures.text c.write_records-2.ensures.text)
