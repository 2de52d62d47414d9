use Rattle.std.proofs.Common.{◌+◌, arith}
use Rattle.job_io.specs.meaning.Lines.{most_line_bytes}
use Rattle.job_io.proofs.Ahead.{HasNoLf-take, HasNoLf-all, HasNoLf-front}
use Rattle.job_io.proofs.line_reader.first_line.Goals as goal

pub returns-in-Some-2 : goal.returns-in-Some-2
returns-in-Some-2 c =
    let found = c.in-Some.ensures.0 in
    λ later. (HasNoLf-take c.args.held.now (most_line_bytes + 1) (omega (arith, found.high)) (λ k low below. found.before k low (omega arith)), omega (arith, found.high))

pub returns-in-None : goal.returns-in-None
returns-in-None c = λ later.
    (HasNoLf-front c.args.held.now (most_line_bytes + 1) (HasNoLf-all c.args.held.now c.in-None.ensures), c.if-held-gt-MOST_LINE_BYTES.true)

pub returns-in-None-2 : goal.returns-in-None-2
returns-in-None-2 c = record { no_lf = HasNoLf-all c.args.held.now c.in-None.ensures; short = c.if-held-gt-MOST_LINE_BYTES.false }
