use Rattle.std.proofs.Common.{◌↔◌, IsTrue, Contains, sym, ◌∙◌, ap, subst}
use Rattle.memchr.specs.Find.{IsFirstByte, is_byte}
use Rattle.job_io.specs.meaning.Lines.{lf, Reading}
use Rattle.job_io.proofs.Ahead.{found_lf}
use Rattle.job_io.proofs.line_reader.LineReader.ready.Goals as goal

pub returns : goal.returns
returns c =
    let held = c.args.self.now.held in
    let is_held = c.held.ensures ∙ ap (λ (r : Reading). r.held) c.self.view_is in
    let searched = subst (λ h. IsFirstByte (is_byte lf) h c.memchr.result) is_held c.memchr.ensures in
    subst (λ t. IsTrue t ↔ Contains held lf) (sym c.is_some.ensures) (found_lf held c.memchr.result searched)
