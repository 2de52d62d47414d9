-- What a line of a header leads to.
use Rattle.std.specs.Prelude.{◌≡◌, ℕ, List, Result, Ok, Err}
use Rattle.line_fields.specs.meaning.Names.{Names}
use Rattle.program_grammar.specs.declared.fault.ProgramFault.{ProgramFault}
use Rattle.program_grammar.specs.declared.header.HeaderStep.{HeaderStep}
use Rattle.program_grammar.specs.declared.header.HeaderStep.TheVariants as step
use Rattle.program_grammar.specs.calls.Answers.{AnswersLine}
use Rattle.program_grammar.specs.meaning.Header.{header_said}
use Rattle.job.specs.declared.header.HeaderTurn.{HeaderTurn}
use Rattle.job.specs.declared.header.HeaderTurn.TheVariants.{More, Ready}
use Rattle.job.specs.storage.HeaderSoFar.{HeaderSoFar}

-- line n leads on, or it has this fault
abbrev pub TakesHeaderLine : ℕ → HeaderSoFar → List ℕ → Result HeaderTurn ProgramFault → Type 0
TakesHeaderLine n h text (Ok (More next)) =
    header_said h.reader text h.names ≡ Ok (step.More next.reader, next.names)
TakesHeaderLine n h text (Ok (Ready names program)) =
    header_said h.reader text h.names ≡ Ok (step.Ready program, names)
TakesHeaderLine n h text (Err fault) =
    (after : Names) × AnswersLine {A = HeaderStep} n h.names (header_said h.reader text h.names) (Err fault) after
