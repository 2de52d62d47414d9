use Rattle.std.proofs.Common.{map, string_bytes, subst, sym, ◌∙◌, ap}
use Rattle.tesseract.specs.calls.Run.{AnswersWords, EndState, Tells}
use Rattle.tesseract.specs.declared.status.Status.{Status}
use Rattle.tesseract.specs.meaning.Status.{status_line}
use Rattle.tesseract.proofs.Lacking.{AnswersWords-lacking}
use Rattle.tesseract.proofs.run.run_still.Goals as goal

pub returns-in-Err-clause-answers : goal.returns-in-Err-clause-answers
returns-in-Err-clause-answers g c =
    let input : EndState = record { bytes = g.S.Source.left c.args.input.now; faults = g.S.Source.faults c.args.input.now } in
    let out : EndState = record { bytes = g.O.Sink.written c.args.out.now; faults = g.O.Sink.faults c.args.out.now } in
    let err0 : EndState = record { bytes = g.E.Sink.written c.args.err.now; faults = g.E.Sink.faults c.args.err.now } in
    let err : EndState = record { bytes = g.E.Sink.written c.tell-in-Err.new.err; faults = g.E.Sink.faults c.tell-in-Err.new.err } in
    subst (AnswersWords (map string_bytes c.args.words.now) input input out out err0 err) (sym (c.tell-in-Err.ensures.same ∙ c.from.ensures))
    (AnswersWords-lacking (map string_bytes c.args.words.now) input out err0 err c.in-Err.fault c.in-Err.ensures.read
    (subst (λ (why : Status). Tells err0.bytes err.bytes err0.faults err.faults (status_line why)) c.from.ensures c.tell-in-Err.ensures.told))
