use Rattle.std.proofs.Common.{◌≤◌, ◌+◌, length, drop, ◌∙◌, ap, arith}
use Rattle.job_io.specs.storage.LineBuffer.{BufferValue}
use Rattle.job_io.proofs.BlockOf.{slice_range-skip, length-slice_range}
use Rattle.job_io.proofs.line_buffer.LineBuffer.give.Goals as goal

pub returns-clause-held : goal.returns-clause-held
returns-clause-held c =
    let b = c.self.inside in
    let within : b.end ≤ length b.bytes.items = omega arith in
    let held = ap (λ (v : BufferValue). length v.held) c.self.view_is in
    slice_range-skip b.bytes.items b.start b.end (c.args.count + c.args.ending) (omega (arith, held, length-slice_range b.bytes.items b.start b.end within))
    ∙ ap (λ (v : BufferValue). drop (c.args.count + c.args.ending) v.held) c.self.view_is
