use Rattle.std.proofs.Common.{Err, arith, ap, length, length-append, subst}
use Rattle.line_fields.specs.meaning.Names.{Names}
use Rattle.program_grammar.specs.declared.header.HeaderStep.{HeaderStep}
use Rattle.program_grammar.specs.calls.Answers.{AnswersLine}
use Rattle.program_grammar.specs.meaning.Header.{header_said}
use Rattle.program_grammar.proofs.WholePrograms.{has-room, line-room}
use Rattle.job.proofs.header.Header.read.Goals as goal

pub take-requires : goal.take-requires
take-requires c = has-room c.self.inside.reader c.args.line.now c.self.inside.names c.self.invariant

pub invariant_of-result : goal.invariant_of-result
invariant_of-result c =
    let answers = rw c.in-Ok-More.field-0-is at c.in-Ok-More.ensures in
    let grows = answers.1 in
    line-room c.self.inside.reader c.in-Ok-More.reader c.args.line.now c.self.inside.names c.take.new.names c.self.invariant
    (omega (arith, grows.few, ap length grows.behind, length-append c.self.inside.names grows.more)) answers.0

pub returns-in-Err : goal.returns-in-Err
returns-in-Err c =
    subst (λ h. (after : Names) × AnswersLine {A = HeaderStep} c.args.number h.names (header_said h.reader c.args.line.now h.names) (Err c.in-Err.fault) after)
    c.self.view_is (c.take.new.names, c.in-Err.ensures)
