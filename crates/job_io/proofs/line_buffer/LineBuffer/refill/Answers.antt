use Rattle.std.proofs.Common.{◌≡◌, ◌≤◌, ◌-◌, length, take, sym, ◌∙◌, ap, arith, length-take, length-drop}
use Rattle.job_io.specs.storage.LineBuffer.{BufferValue}
use Rattle.job_io.proofs.BlockOf.{take-copy_within, length-slice_range, slice_range-filled}
use Rattle.job_io.proofs.line_buffer.LineBuffer.refill.Goals as goal

pub returns-clause-taken : goal.returns-clause-taken
returns-clause-taken g c =
    let b = c.self.inside in
    let kept = b.end - b.start in
    let count = c.in_ok-count.count in
    let whole : b.end ≤ length b.bytes.items = omega arith in
    let held = ap (λ (v : BufferValue). v.held) c.self.view_is in
    let is_kept = length-slice_range b.bytes.items b.start b.end whole in
    let moved = c.deref_mut.ensures.value ∙ c.copy_within.ensures.items in
    let front = ap (take kept) moved ∙ take-copy_within b.bytes.items b.start b.end whole ∙ held in
    let within = c.in_ok-count.ensures.bound.0 in
    let room : length c.read.new.buf ≡ c.copy_within.new.self.len - kept = simp (length-take, length-drop) at c.read.auto.buf ∙ omega (arith, c.deref_mut.ensures.len, c.copy_within.ensures.len) in
    let size : c.copy_within.new.self.len ≡ 32768 = omega arith in
    let small : kept ≤ 4096 = omega (arith, ap length held) in (
      take count c.read.new.buf,
      slice_range-filled c.args.self.now.held c.deref_mut.result.now c.read.new.buf _ kept _ c.copy_within.new.self.len count front (ap length (sym held) ∙ is_kept) within (omega arith),
      sym c.in_ok-count.ensures.bound.1,
      c.in_ok-count.ensures.bytes.0,
      λ none. c.in_ok-count.ensures.bytes.1 none (omega arith),
    )
