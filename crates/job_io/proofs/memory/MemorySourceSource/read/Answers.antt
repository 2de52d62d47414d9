use Rattle.std.proofs.Common.{◌≡◌, sym, drop, length, arith}
use Rattle.std.proofs.lemmas.List.{drop-drop}
use Rattle.job_io.proofs.Copying.{ReadConsumes-copied}
use Rattle.job_io.proofs.memory.MemorySourceSource.read.Goals as goal

pub returns-clause-bytes : goal.returns-clause-bytes
returns-clause-bytes c =
    let left = drop c.self.inside.given c.self.inside.bytes in
    let split : c.split_at.result.1.now ≡ left = cc in
    let count = rw split at c.copy_front-n.ensures.count in
    let front = rw split at c.copy_front-n.ensures.front in
    let kept : length c.copy_front-n.new.into ≡ length c.args.buf.now = omega arith in
    let lost = drop-drop c.copy_front-n.result c.self.inside.given c.self.inside.bytes in
    rw (← c.self.view_is)
    (ReadConsumes-copied left _ _ c.self.inside.step _ c.self.invariant.1 (rw kept count) front (sym lost))
