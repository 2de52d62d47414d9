use Rattle.std.proofs.Common.{◌≡◌, suc, ◌+◌, min, drop, length, take, sym, arith}
use Rattle.std.proofs.lemmas.List.{drop-drop}
use Rattle.job_io.proofs.Copying.{ReadConsumes-copied}
use Rattle.trial_job.proofs.source.JobSourceSource.read.Goals as goal

pub returns-clause-bytes : goal.returns-clause-bytes
returns-clause-bytes c =
    let left = drop c.self.inside.given c.self.inside.job in
    let room = suc (length c.args.buf.now) in
    let buf = c.copy_front-n.new.into in
    let n = c.copy_front-n.result in
    let split : c.split_at.result.1.now ≡ left = cc in
    let front : take n buf ≡ take n left = rw split at c.copy_front-n.ensures.front in
    let some = rw split at c.copy_front-n.ensures.count in
    let kept : length buf ≡ length c.args.buf.now = omega arith in
    let count : n ≡ min (min room (length buf)) (length left) = omega (arith, some, kept) in
    let after = drop (c.self.inside.given + n) c.self.inside.job in
    rw (← c.self.view_is)
    (ReadConsumes-copied left after buf room n (omega arith) count front (sym (drop-drop n c.self.inside.given c.self.inside.job)))
