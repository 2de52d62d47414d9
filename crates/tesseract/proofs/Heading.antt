-- A run takes a line of its header, and one of any kind.
use Rattle.std.proofs.Common.{◌≡◌, ℕ, suc, ◌+◌, ◌≤◌, List, [], ◌++◌, length, Option, None, Some, Result, Ok, Err, refl, sym, ap, subst, ◌∙◌, arith}
use Rattle.std.specs.Option.{option_map}
use Rattle.graph_types.specs.meaning.Graph.{Graph}
use Rattle.group_window.specs.meaning.Windows.{RunValue}
use Rattle.job.specs.calls.Standing.{IsStageOf}
use Rattle.job.specs.calls.Taking.{TakesHeader}
use Rattle.job.specs.declared.fault.JobFault.{JobFault}
use Rattle.job.specs.declared.fault.JobFault.TheVariants as fault
use Rattle.job.specs.declared.judging.Job.{Job}
use Rattle.job.specs.declared.judging.Job.TheVariants.{Heading, Streaming}
use Rattle.job.specs.declared.stream.Stream.{Stream}
use Rattle.job.specs.meaning.Judging.{Judgement, Stage, heading, streaming, batching, refused, moved, accepted, graph_of_groups, header_judgement, open_updates, text_judgement}
use Rattle.job.specs.storage.HeaderSoFar.{HeaderSoFar}
use Rattle.job.proofs.Following.{text-LeadsOn}
use Rattle.job_io.specs.calls.Ends.{AppendsPrefix, PassesOn}
use Rattle.job_io.specs.declared.ends.WriteFault.{WriteFault}
use Rattle.job_io.specs.meaning.Lines.{Reading}
use Rattle.line_fields.specs.meaning.Names.{Names}
use Rattle.mining_model.specs.meaning.History.{Group}
use Rattle.program_grammar.specs.declared.fault.ProgramKind.{ProgramKind}
use Rattle.program_grammar.specs.declared.header.HeaderStep.{HeaderStep}
use Rattle.program_grammar.specs.declared.header.HeaderStep.TheVariants.{More, Ready}
use Rattle.program_grammar.specs.meaning.Header.{header_said}
use Rattle.record_text.specs.declared.record_format.RecordFormat.{RecordFormat}
use Rattle.tesseract.specs.declared.mine.Turn.{Turn}
use Rattle.tesseract.specs.declared.mine.Turn.TheVariants as turn
use Rattle.tesseract.specs.declared.status.Status.{Status}
use Rattle.tesseract.specs.declared.terms.Plan.{Plan}
use Rattle.tesseract.specs.declared.terms.Terms.{Terms}
use Rattle.tesseract.specs.declared.waiting.Waiting.{Waiting}
use Rattle.tesseract.specs.calls.Progress.{Progress}
use Rattle.tesseract.specs.calls.Run.{WritesPrefix}
use Rattle.tesseract.specs.calls.Running.{HasEnded, IsEnd, IsRunning}
use Rattle.tesseract.specs.calls.Turning.{GoesToNext, IsAtEnd, IsGiven, Stands, StandsAtNext, TakesHeading, Turns, opening_for}
use Rattle.tesseract.specs.calls.Waiting.{IsOpenFor, WaitsFor}
use Rattle.tesseract.specs.meaning.Status.{status_of_fault}
use Rattle.tesseract.proofs.Going.{Running-ended, Running-led, Running-starved, Running-unopened}
use Rattle.tesseract.proofs.Leading.{GoesOn, moved_to}
use Rattle.tesseract.proofs.Reaching.{opened}
use Rattle.tesseract.proofs.Turning.{IsEnd-refusal, ends_refused, judged_at, moves_on, tell_bytes}

-- Where a line leads on, the reader stands at the next one.
pub goes_any : (old new : Reading) (result : Result Turn WriteFault) → StandsAtNext old new → GoesToNext old new result
goes_any old new (Ok (turn.More run)) stands = stands
goes_any old new (Ok (turn.End why)) stands = tt
goes_any old new (Err bad) stands = tt

pub goes_nowhere : (old new : Reading) (t : Turn) → IsAtEnd t → GoesToNext old new (Ok t)
goes_nowhere old new (turn.More run) ended = absurd ended
goes_nowhere old new (turn.End why) ended = tt

-- what is written where the header is whole
opened_for : (format : RecordFormat) (stage next : Stage) (header : HeaderSoFar) (job : Job) → stage ≡ heading header.reader header.names → IsStageOf next job →
    opened format stage next ≡ opening_for format job
opened_for format stage next header (Heading h) is at =
    ap (λ s. opened format s next) is ∙ ap (opened format (heading header.reader header.names)) at
opened_for format stage (heading later names) header (Streaming s) is at = absurd (let e = at.mines in cc)
opened_for format stage (streaming pattern names g) header (Streaming s) is at = ap (λ s. opened format s (streaming pattern names g)) is
opened_for format stage (batching pattern names g us) header (Streaming s) is at = ap (λ s. opened format s (batching pattern names g us)) is

-- no batch is open where the stream begins
OpensNone : Judgement → Type 0
OpensNone (refused why) = Unit {0}
OpensNone (moved next) = open_updates next ≡ None
OpensNone (accepted us next) = Unit {0}

header_opens : (n : ℕ) (said : Result (HeaderStep × Names) ProgramKind) → OpensNone (header_judgement n said)
unfolding OpensNone
header_opens n (Ok (More later, names)) = refl
header_opens n (Ok (Ready program, names)) = refl
header_opens n (Err why) = tt

opens_none : (n : ℕ) (header : HeaderSoFar) (text : List ℕ) (next : Stage) → text_judgement n (heading header.reader header.names) text ≡ moved next → open_updates next ≡ None
unfolding OpensNone
opens_none n header text next is = subst OpensNone is (header_opens n (header_said header.reader text header.names))

open_for_none : (before : Graph) (stage : Stage) (s : Stream) (current : Option (Option RunValue)) → open_updates stage ≡ None → IsStageOf stage (Streaming s) → current ≡ None →
    IsOpenFor before s.graph s.batch current
open_for_none before stage s current none at closed =
    let batch : None ≡ s.batch = ap (option_map (λ (us : Group). length us)) (sym none) ∙ at.counts in
    subst (λ b. IsOpenFor before s.graph b current) batch closed

module _ (terms : Terms) (plan : Plan) (n : ℕ) (header : HeaderSoFar) (text : List ℕ) (w : Waiting) (p : Progress)
    (stands : Stands terms plan p (record { job = Heading header; waiting = w })) (old new : Reading) (was is : Option (List ℕ))
    (given : IsGiven old new was is n text) (most : old.most ≡ terms.lines) (within : n ≤ terms.lines)
    (left0 written0 written : Option (List ℕ)) (page : List ℕ) (running : IsRunning terms left0 was written0 written page old p) where
  -- the line is judged as the header says
  judged_here : (j : Judgement) → text_judgement n (heading header.reader header.names) text ≡ j → text_judgement n p.stage text ≡ j
  judged_here j is = ap (λ s. text_judgement n s text) stands.waits.at ∙ is

  -- the line leads on
  module _ (job : Job) (next : Stage) (led : text_judgement n (heading header.reader header.names) text ≡ moved next) (at : IsStageOf next job) where
    goes : GoesOn terms p new.line.bytes (moved_to p next) (opening_for terms.format job)
    goes =
        subst (GoesOn terms p new.line.bytes (moved_to p next)) (opened_for terms.format p.stage next header job stands.waits.at at)
        (moves_on terms old new was is n text given most p next running.counted (judged_here (moved next) led))

    counted_on : new.number ≡ suc old.number
    counted_on = let c = given.stands.counted in omega (arith, c)

    waits_on : (job : Job) → IsStageOf next job → WaitsFor (moved_to p next) job w.window
    waits_on (Heading h) at = stands.waits.current
    waits_on (Streaming s) at = open_for_none (graph_of_groups next) next s w.window.current (opens_none n header text next led) at stands.waits.current.0

    stands_on : Stands terms plan (moved_to p next) (record { job = job; waiting = w })
    stands_on = record {
      waits = record {
        at = at;
        waits = record {
          first = stands.waits.waits.first;
          follows = stands.waits.waits.follows;
          later = stands.waits.waits.later;
          parted = stands.waits.waits.parted;
          count = stands.waits.waits.count;
          few = stands.waits.waits.few;
          stamped = (let s = stands.waits.waits.stamped in omega (arith, s));
        };
        came =
            (text-LeadsOn n p.stage next text (judged_here (moved next) led)).same_graph ∙ stands.waits.came;
        current = waits_on job at;
      };
      room = stands.room;
      lines_are = (let a = running.counted in let b = given.number_is in let c = given.stands.counted in omega (arith, a, b, c, within));
    }

    heading_on : (written' : Option (List ℕ)) (page' : List ℕ) → PassesOn written page written' page' (opening_for terms.format job) →
        Turns terms plan left0 is written0 written' page' new (Ok (turn.More (record { job = job; waiting = w })))
    heading_on written' page' passed = (
      moved_to p next,
      Running-led terms left0 was is written0 written written' page page' (opening_for terms.format job) old new p (moved_to p next)
          given.fits.no_lf counted_on goes passed given.gives running,
      stands_on,
    )

    heading_fails : (written' : Option (List ℕ)) → AppendsPrefix written written' (page ++ opening_for terms.format job) →
        WritesPrefix terms left0 is written0 written'
    heading_fails written' front =
        Running-unopened terms left0 was is written0 written written' page (opening_for terms.format job) old new p (moved_to p next)
        given.gives goes front running

  heading_ends : (why : JobFault) (told : Status) → told ≡ status_of_fault why → TakesHeader n header text (Err why) →
      IsEnd told × HasEnded terms left0 is written0 written page told
  heading_ends (fault.Refused why) told same takes =
      subst (λ t. IsEnd t × HasEnded terms left0 is written0 written page t) (sym same) (
        IsEnd-refusal why,
        Running-ended terms left0 was is written0 written page old new p (status_of_fault (fault.Refused why)) stands.waits.current.1
            (ends_refused terms p.stage old new was is why
            (judged_at terms old new was is n text given most p running.counted ∙ judged_here (refused why) takes) given.gives)
            running,
      )
  heading_ends fault.NoMemory told same takes =
      subst (λ t. IsEnd t × HasEnded terms left0 is written0 written page t) (sym same)
      (tt, Running-starved terms left0 was is written0 written page old p (tell_bytes was is _ given.gives) running)

  pub heading_turns : (written' : Option (List ℕ)) (page' : List ℕ) (result : Result Turn WriteFault) →
      TakesHeading terms n header text w written page written' page' result → Turns terms plan left0 is written0 written' page' new result
  heading_turns written' page' (Ok (turn.More run)) takes =
      subst (λ v. Turns terms plan left0 is written0 written' page' new (Ok (turn.More (record { job = run.job; waiting = v })))) (sym takes.0)
      (heading_on run.job takes.1.0 takes.1.1 takes.1.2 written' page' takes.2)
  heading_turns written' page' (Ok (turn.End why)) takes =
      subst (λ v. IsEnd why × HasEnded terms left0 is written0 v page' why) (sym takes.3.0)
      (subst (λ held. IsEnd why × HasEnded terms left0 is written0 written held why) (sym takes.3.1)
      (heading_ends takes.0 why takes.1 takes.2))
  heading_turns written' page' (Err bad) takes = heading_fails takes.0 takes.1.0 takes.1.1 takes.1.2 written' takes.2
