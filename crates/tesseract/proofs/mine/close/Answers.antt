use Rattle.std.proofs.Common.{subst, sym}
use Rattle.cond_eval.specs.meaning.Patterns.{pattern_of}
use Rattle.tesseract.specs.calls.Turning.{WaitsUnder}
use Rattle.tesseract.proofs.Going.{Running-ended}
use Rattle.tesseract.proofs.Taking.{under_program}
use Rattle.tesseract.proofs.mine.close.Goals as goal

pub returns-in-Heading-clause-runs : goal.returns-in-Heading-clause-runs
returns-in-Heading-clause-runs g c = λ left0 left left' written0 old new p is_end ends stands running.
    let current = stands.waits.current in (
      is_end,
      Running-ended c.args.terms left0 left left' written0 _ _ old new p c.args.status (rw c.in-Heading.is at current).1 ends running,
    )

pub end-requires-clause-waits : goal.end-requires-clause-waits
end-requires-clause-waits g c =
    let stands = c.requires.stands.1 in
    let waits = stands.waits in (
      c.requires.stands.0,
      subst (λ program. WaitsUnder c.args.terms c.args.plan (pattern_of program) c.requires.stands.0 c.args.run.waiting) (sym c.deref.ensures)
          (under_program c.args.terms c.args.plan c.requires.stands.0 c.in-Streaming.stream c.args.run.waiting (rw c.in-Streaming.is at waits) stands.lines_are),
    )

pub returns-clause-runs : goal.returns-clause-runs
returns-clause-runs g c = λ left0 left left' written0 old new p is_end ends stands running.
    let waits = stands.waits in
    c.end.ensures.runs left0 left left' written0 old new p is_end ends
    (subst (λ program. WaitsUnder c.args.terms c.args.plan (pattern_of program) p c.args.run.waiting) (sym c.deref.ensures)
    (under_program c.args.terms c.args.plan p c.in-Streaming.stream c.args.run.waiting (rw c.in-Streaming.is at waits) stands.lines_are)) running
