use Rattle.std.proofs.Common.{◌≡◌, ◌≤◌, ◌-◌, length, Contains}
use Rattle.job_io.specs.meaning.Lines.{lf}
use Rattle.job_io.specs.calls.Reading.{MovesBytes}
use Rattle.job_io.proofs.line_reader.look_ahead.Given as goal

abbrev pub invariant-loop-ahead : goal.invariant-loop-ahead
invariant-loop-ahead g l = record {
  taken : MovesBytes l.initial.buffer.held l.buffer.held (g.S.Source.left l.initial.src) (g.S.Source.left l.src);
  unasked : Contains l.initial.buffer.held lf → (l.src ≡ l.initial.src) × (l.buffer.held ≡ l.initial.buffer.held);
  kept : g.S.Source.faults l.initial.src ≤ g.S.Source.faults l.src;
}

abbrev pub decreases-loop-ahead : goal.decreases-loop-ahead
decreases-loop-ahead g l = 4097 - length l.buffer.held
