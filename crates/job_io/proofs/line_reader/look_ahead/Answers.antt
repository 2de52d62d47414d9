use Rattle.std.proofs.Common.{subst}
use Rattle.job_io.specs.calls.Reading.{IsAhead}
use Rattle.job_io.proofs.line_reader.look_ahead.Goals as goal

pub returns-in-Some-clause-ok : goal.returns-in-Some-clause-ok
returns-in-Some-clause-ok g c =
    let later = g.S.Source.left c.loop-ahead.src in
    subst (λ held. IsAhead held later c.in-Some.ahead) c.held.ensures (c.in-Some.ensures later)
