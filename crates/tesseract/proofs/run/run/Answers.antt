use Rattle.std.proofs.Common.{◌≡◌, map, string_bytes, refl, sym, subst, ◌∙◌}
use Rattle.command_words.specs.declared.command.Options.{Options}
use Rattle.tesseract.specs.declared.status.Status.{Status}
use Rattle.tesseract.specs.declared.terms.Terms.{Terms}
use Rattle.tesseract.specs.calls.Run.{AnswersWords, EndState, Tells}
use Rattle.tesseract.specs.calls.Trial.{Tries}
use Rattle.tesseract.specs.meaning.Commands.{trial_bytes, trial_terms}
use Rattle.tesseract.specs.meaning.Status.{status_line}
use Rattle.tesseract.proofs.Commands.{trial-options}
use Rattle.tesseract.proofs.Lacking.{AnswersWords-lacking}
use Rattle.tesseract.proofs.run.run.Goals as goal

pub returns-in-Ok-clause-trialed : goal.returns-in-Ok-clause-trialed
returns-in-Ok-clause-trialed g c = λ options given.
    let old = g.O.Sink.written c.args.out.now in
    let new = g.O.Sink.written c.trial.new.out in
    let command = c.in-Ok.field-0 in
    let read : Options = command.options in
    let same : read ≡ options = trial-options (map string_bytes c.args.words.now) command options c.in-Ok.ensures.read given in
    let on_terms : Tries (trial_terms read) (trial_bytes read) old new c.trial.result =
    subst (λ (terms : Terms). Tries terms (trial_bytes read) old new c.trial.result) c.trial_terms.ensures c.trial.ensures.tried in
    let told : Tries (trial_terms read) (trial_bytes read) old new c.tell-in-Trial.result =
    subst (λ (why : Status). Tries (trial_terms read) (trial_bytes read) old new why) (sym c.tell-in-Trial.ensures.same) on_terms in
    (subst (λ (o : Options). Tries (trial_terms o) (trial_bytes o) old new c.tell-in-Trial.result) same told, refl)

pub returns-clause-answers : goal.returns-clause-answers
returns-clause-answers g c =
    let input : EndState = record { bytes = g.S.Source.left c.args.input.now; faults = g.S.Source.faults c.args.input.now } in
    let out : EndState = record { bytes = g.O.Sink.written c.args.out.now; faults = g.O.Sink.faults c.args.out.now } in
    let err0 : EndState = record { bytes = g.E.Sink.written c.args.err.now; faults = g.E.Sink.faults c.args.err.now } in
    let err : EndState = record { bytes = g.E.Sink.written c.tell-in-Err.new.err; faults = g.E.Sink.faults c.tell-in-Err.new.err } in
    subst (AnswersWords (map string_bytes c.args.words.now) input input out out err0 err) (sym (c.tell-in-Err.ensures.same ∙ c.from.ensures))
    (AnswersWords-lacking (map string_bytes c.args.words.now) input out err0 err c.in-Err.fault c.in-Err.ensures.read
    (subst (λ (why : Status). Tells err0.bytes err.bytes err0.faults err.faults (status_line why)) c.from.ensures c.tell-in-Err.ensures.told))
