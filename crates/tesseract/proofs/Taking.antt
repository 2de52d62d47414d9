-- A run takes a line of its stream.
use Rattle.std.proofs.Common.{◌≡◌, ℕ, ◌+◌, ◌<◌, ◌≤◌, List, [], length, Option, None, Some, Result, Ok, Err, IsOk, IsSome, IfSome, refl, sym, ap, subst, ◌∙◌, arith, Bool, true, false, if◌then◌else◌, box_value}
use Rattle.std.specs.Prelude.{nat_lt}
use Rattle.std.proofs.lemmas.Bool.{ltb-true}
use Rattle.cond_eval.specs.meaning.Patterns.{pattern_of}
use Rattle.graph_types.specs.declared.refusal.Refusal.{Refusal}
use Rattle.graph_types.specs.meaning.Graph.{Graph}
use Rattle.group_window.specs.meaning.Windows.{CanPush, HasRoom, RunValue, StandsOn, WindowValue, closed_graph, graph_after_current, graph_after_run, graph_before, last_or, most_groups, most_updates, update_count}
use Rattle.job.specs.calls.Counting.{batch_after, batch_if_accepted, batch_with_update}
use Rattle.job.specs.calls.Standing.{IsAt}
use Rattle.job.specs.declared.fault.JobRefusal.{JobRefusal}
use Rattle.job.specs.declared.fault.JobRefusal.TheVariants as refusal
use Rattle.job.specs.declared.judging.Job.TheVariants.{Streaming}
use Rattle.job.specs.declared.stream.Stream.{Stream}
use Rattle.job.specs.meaning.Judging.{Stage, heading, streaming, batching, graph_of_groups, most_batch_updates, pattern_at}
use Rattle.mining_model.specs.meaning.Embeddings.{Pattern}
use Rattle.mining_model.specs.meaning.History.{history}
use Rattle.mining_model.specs.meaning.Step.{step}
use Rattle.record_text.specs.declared.record_format.RecordFormat.{RecordFormat}
use Rattle.update_reader.specs.declared.Item.{Item}
use Rattle.update_reader.specs.declared.Item.TheVariants as item
use Rattle.tesseract.specs.declared.terms.Plan.{Plan}
use Rattle.tesseract.specs.declared.terms.Terms.{Terms}
use Rattle.tesseract.specs.declared.waiting.Waiting.{Waiting}
use Rattle.tesseract.specs.calls.Progress.{Progress, all_mined}
use Rattle.tesseract.specs.calls.Turning.{IsEmptied, IsGiven, IsPlan, Stands, WaitsUnder}
use Rattle.tesseract.specs.calls.Waiting.{CanKeep, IsOpenFor, IsOpenGroup, WaitsAll}
use Rattle.job.specs.calls.Taking.{TakesLine}
use Rattle.job.specs.declared.fault.JobFault.{JobFault}
use Rattle.job.specs.declared.fault.JobFault.TheVariants as fault
use Rattle.job_io.specs.calls.Ends.{BothKnown, PassesOn}
use Rattle.job_io.specs.meaning.Lines.{Reading}
use Rattle.job_io.proofs.Gathering.{PassesOn-start}
use Rattle.job_io.proofs.Known.{BothKnown-same}
use Rattle.line_fields.specs.meaning.Names.{Names}
use Rattle.tesseract.specs.declared.status.Status.{Status}
use Rattle.tesseract.specs.calls.Running.{EndsJob, IsEnd, IsRunning, TellBytes}
use Rattle.tesseract.specs.meaning.Status.{status_of_fault}
use Rattle.tesseract.proofs.Going.{Running-led}
use Rattle.tesseract.proofs.Keeping.{closed_at}
use Rattle.tesseract.proofs.Reaching.{opened}
use Rattle.tesseract.proofs.Standing.{StandsNext, goes_from, lines_after, stream_with}
use Rattle.tesseract.proofs.Turning.{IsEnd-refusal, ends_refused, ends_starved, judged_at}

-- in the stream nothing is opened any more
pub opened-stream : (format : RecordFormat) (pattern : Pattern) (stage next : Stage) → pattern_at stage ≡ Some pattern → opened format stage next ≡ []
opened-stream format pattern (heading later names) next is = absurd (cc)
opened-stream format pattern (streaming mined_for names g) next is = refl
opened-stream format pattern (batching mined_for names before us) next is = refl

-- what waits with a run in its stream waits under its program
pub under_program : (terms : Terms) (plan : Plan) (p : Progress) (stream : Stream) (w : Waiting) → WaitsAll terms plan p (Streaming stream) w → p.lines ≤ terms.lines →
    WaitsUnder terms plan (pattern_of (box_value stream.program)) p w
under_program terms plan p stream w all within = record { waits = all.waits; lines_are = within; known = all.at.mines }

-- ---- the item can be kept

-- a window that came to a graph stands on it
stands_closed : (mined g : Graph) (base : Option Graph) (later : List Graph) → IfSome base (λ h. h ≡ mined) → g ≡ last_or mined later →
    IfSome (closed_graph base later) (λ h. g ≡ h)
stands_closed mined g None later same came = tt
stands_closed mined g (Some h) later same came = came ∙ ap (λ h. last_or h later) (sym same)

stands_open : (before g mined : Graph) (base : Option Graph) (later : List Graph) (run : Option RunValue) (k : ℕ) → IfSome base (λ h. h ≡ mined) →
    before ≡ last_or mined later → (group : IsOpenGroup before g k (Some run)) → IfSome (graph_after_current (closed_graph base later) (Some run)) (λ h. g ≡ h)
stands_open before g mined base later None k same came group =
    let one : group.run ≡ None = (let e = group.current_is in cc) in
    let is : before ≡ g = (let e = subst (λ r. graph_before r g ≡ before) one group.before_is in sym e) in
    stands_closed mined g base later same (sym is ∙ came)
stands_open before g mined base later (Some run) k same came group =
    let one : group.run ≡ Some run = (let e = group.current_is in cc) in
    let e = subst (λ r. graph_after_run (Some before) r ≡ Some g) one group.now_is in
    let is : run.after ≡ g = cc in sym is

module _ (terms : Terms) (plan : Plan) (planned : IsPlan plan) (p : Progress) (stream : Stream) (w : Waiting)
    (stands : Stands terms plan p (record { job = Streaming stream; waiting = w })) where
  abbrev all : WaitsAll terms plan p (Streaming stream) w
  all = stands.waits

  pub narrow_room : length w.window.later < most_groups
  narrow_room = let r = stands.room in let n = planned.narrow in omega (arith, r, n)

  stands_none : w.window.current ≡ None → stream.batch ≡ None → StandsOn w.window stream.graph
  stands_none closed none =
      let at : stream.graph ≡ graph_of_groups p.stage = closed_at p.stage _ _ stream.graph (subst (IsAt p.stage _ _ stream.graph) none all.at) in
      subst (λ c. IfSome (graph_after_current (closed_graph w.window.base w.window.later) c) (λ h. stream.graph ≡ h)) (sym closed)
      (stands_closed p.mined stream.graph w.window.base w.window.later all.waits.follows.base (at ∙ all.came))

  stands_some : (k : ℕ) → IsOpenGroup (graph_of_groups p.stage) stream.graph k w.window.current → StandsOn w.window stream.graph
  stands_some k group =
      subst (λ c. IfSome (graph_after_current (closed_graph w.window.base w.window.later) c) (λ h. stream.graph ≡ h)) (sym group.current_is)
      (stands_open (graph_of_groups p.stage) stream.graph p.mined w.window.base w.window.later group.run k all.waits.follows.base all.came
      (subst (IsOpenGroup (graph_of_groups p.stage) stream.graph k) group.current_is group))

  open_room : (current : Option (Option RunValue)) (k : ℕ) → k < most_updates → IsOpenGroup (graph_of_groups p.stage) stream.graph k current → HasRoom w.window current
  open_room None k few group = absurd (let e = group.current_is in cc)
  open_room (Some run) k few group =
      let one : run ≡ group.run = (let e = group.current_is in cc) in
      subst (λ r. update_count r < most_updates) (sym one) (let c = group.count in omega (arith, c, few))

  accepted_of : (n : ℕ) (stepped : Result Graph Refusal) (counted : Result (Option ℕ) JobRefusal) (batch : Option ℕ) →
      batch_if_accepted n stepped counted ≡ Ok batch → IsOk stepped
  accepted_of n (Ok after) counted batch is = refl
  accepted_of n (Err why) (Ok b) batch is = absurd (cc)
  accepted_of n (Err why) (Err other) batch is = absurd (cc)

  room_of : (b : Bool) (n k : ℕ) (stepped : Result Graph Refusal) (batch : Option ℕ) →
      batch_if_accepted n stepped (if b then Ok (Some (k + 1)) else Err (refusal.Batch n)) ≡ Ok batch → b ≡ true
  room_of true n k stepped batch is = refl
  room_of false n k (Ok after) batch is = absurd (cc)
  room_of false n k (Err why) batch is = absurd (cc)

  can_push : (current : Option ℕ) (n : ℕ) (batch : Option ℕ) (stepped : Result Graph Refusal) → stream.batch ≡ current →
      IsOpenFor (graph_of_groups p.stage) stream.graph current w.window.current → batch_if_accepted n stepped (batch_with_update n current) ≡ Ok batch → CanPush w.window stream.graph
  can_push None n batch stepped is is_open counted =
      record { stands = stands_none is_open is; room = subst (HasRoom w.window) (sym is_open) narrow_room }
  can_push (Some k) n batch stepped is is_open counted =
      record {
        stands = stands_some k is_open;
        room = open_room w.window.current k (ltb-true k most_updates (room_of (nat_lt k most_batch_updates) n k stepped batch counted)) is_open;
      }

  pub can_keep : (what : Item) (n : ℕ) (current batch : Option ℕ) → stream.batch ≡ current →
      IsOpenFor (graph_of_groups p.stage) stream.graph current w.window.current → batch_after n stream.graph current what ≡ Ok batch → CanKeep what w.window stream.graph
  can_keep item.Nothing n current batch is is_open counted = tt
  can_keep item.Commit n None batch is is_open counted = is_open
  can_keep item.Commit n (Some k) batch is is_open counted = absurd (cc)
  can_keep item.BatchBegin n None batch is is_open counted = (is_open, narrow_room)
  can_keep item.BatchBegin n (Some k) batch is is_open counted = absurd (cc)
  can_keep item.BatchEnd n None batch is is_open counted = absurd (cc)
  can_keep item.BatchEnd n (Some k) batch is is_open counted =
      (subst IsSome (sym is_open.current_is) refl, stands_some k is_open)
  can_keep (item.Update u) n current batch is is_open counted = (
    accepted_of n (step stream.graph u) (batch_with_update n current) batch counted,
    can_push current n batch (step stream.graph u) is is_open counted,
  )

-- ---- nothing waits any more

-- where the window has no open group no batch is open
no_batch : (before now : Graph) (batch : Option ℕ) (current : Option (Option RunValue)) → current ≡ None → IsOpenFor before now batch current → batch ≡ None
no_batch before now None current closed is_open = refl
no_batch before now (Some k) current closed is_open = absurd (let e = is_open.current_is in cc)

pub Stands-emptied : (terms : Terms) (plan : Plan) (p : Progress) (stream : Stream) (was w : Waiting) → IsPlan plan → WaitsAll terms plan p (Streaming stream) was →
    p.lines ≤ terms.lines → was.window.current ≡ None → IsEmptied terms plan (pattern_of (box_value stream.program)) p w →
    Stands terms plan (all_mined (pattern_of (box_value stream.program)) p) (record { job = Streaming stream; waiting = w })
Stands-emptied terms plan p stream was w planned all within closed emptied =
    let none : stream.batch ≡ None = no_batch (graph_of_groups p.stage) stream.graph stream.batch was.window.current closed all.current in
    record {
      waits = record {
        at = all.at;
        waits = emptied.waits;
        came =
            all.came ∙ ap (last_or p.mined) all.waits.later
            ∙ sym (ap (last_or (last_or p.mined (history p.mined p.waiting))) emptied.empty);
        current = subst (λ b. IsOpenFor (graph_of_groups p.stage) stream.graph b w.window.current) (sym none) emptied.closed;
      };
      room = subst (λ (gs : List Graph). length gs < plan.window) (sym emptied.empty) (let s = planned.some_group in omega (arith, s));
      lines_are = within;
    }

-- ---- a line that was given

-- a line that leads no further ends the job
pub fault_ends : (terms : Terms) (n : ℕ) (text : List ℕ) (names : Names) (s : Stream) (p : Progress) (old new : Reading) (was is : Option (List ℕ))
    (why : JobFault) (told : Status) → IsGiven old new was is n text → old.most ≡ terms.lines → p.lines ≡ old.number → told ≡ status_of_fault why →
    TakesLine n p.stage text names (Err why) s → IsEnd told × BothKnown was is (λ was is. EndsJob terms.lines old new was is p.stage told)
fault_ends terms n text names s p old new was is (fault.Refused why) told given most counted same takes =
    subst (λ t. IsEnd t × BothKnown was is (λ was is. EndsJob terms.lines old new was is p.stage t)) (sym same) (
      IsEnd-refusal why,
      ends_refused terms p.stage old new was is why (judged_at terms old new was is n text given most p counted ∙ takes) given.gives,
    )
fault_ends terms n text names s p old new was is fault.NoMemory told given most counted same takes =
    subst (λ t. IsEnd t × BothKnown was is (λ was is. EndsJob terms.lines old new was is p.stage t)) (sym same)
    (tt, ends_starved terms p.stage old new was is _ given.gives)

-- What is known of a run after an item that was kept.
pub record RunsNext (terms : Terms) (plan : Plan) (pattern : Pattern) (q : Progress) (w : Waiting) (left0 left written0 written : Option (List ℕ))
    (page : List ℕ) (new : Reading) : Type 0 where
  pub under : WaitsUnder terms plan pattern q w
  pub tell : TellBytes left left
  pub running : IsRunning terms left0 left written0 written page new q

module _ (terms : Terms) (plan : Plan) (p : Progress) (later : Stream) (w : Waiting) (now : Graph) (n : ℕ) (text : List ℕ)
    (next : StandsNext terms plan p n text (Streaming (stream_with later now)) w) where
  lines_within : p.lines + 1 ≡ n → n ≤ terms.lines → next.reached_to.lines ≤ terms.lines
  lines_within counted few =
      let l = lines_after n text p next.reached_to next.leads in omega (arith, l, counted, few)

  under_next : p.lines + 1 ≡ n → n ≤ terms.lines → WaitsUnder terms plan (pattern_of (box_value later.program)) next.reached_to w
  under_next counted few = under_program terms plan next.reached_to (stream_with later now) w next.waits (lines_within counted few)

  pub keeps_under : p.lines + 1 ≡ n → n ≤ terms.lines → (q : Progress) × WaitsUnder terms plan (pattern_of (box_value later.program)) q w
  keeps_under counted few = (next.reached_to, under_next counted few)

  module _ (left0 was is written0 written : Option (List ℕ)) (page : List ℕ) (old new : Reading) (given : IsGiven old new was is n text)
      (most : old.most ≡ terms.lines) (few : n ≤ terms.lines) (pattern : Pattern) (known : pattern_at p.stage ≡ Some pattern)
      (running : IsRunning terms left0 was written0 written page old p) where
    counted_n : p.lines + 1 ≡ n
    counted_n = let a = running.counted in let b = given.number_is in let c = given.stands.counted in omega (arith, a, b, c)

    pub runs_next : RunsNext terms plan (pattern_of (box_value later.program)) next.reached_to w left0 is written0 written page new
    runs_next = record {
      under = under_next counted_n few;
      tell = BothKnown-same _ is (λ bytes. tt);
      running =
          Running-led terms left0 was is written0 written written page page (opened terms.format p.stage next.reached_to.stage) old new
          p next.reached_to given.fits.no_lf (let c = given.stands.counted in omega (arith, c))
          (goes_from terms old new was is n text given most p next.reached_to running.counted next.leads)
          (subst (PassesOn written page written page) (sym (opened-stream terms.format pattern p.stage next.reached_to.stage known)) (PassesOn-start written page))
          given.gives running;
    }

    pub stands_more : length w.window.later < plan.window → Stands terms plan next.reached_to (record { job = Streaming (stream_with later now); waiting = w })
    stands_more room = record { waits = next.waits; room = room; lines_are = lines_within counted_n few }

    pub stands_emptied : (after : Waiting) → IsPlan plan → w.window.current ≡ None → IsEmptied terms plan (pattern_of (box_value later.program)) next.reached_to after →
        Stands terms plan (all_mined (pattern_of (box_value later.program)) next.reached_to) (record { job = Streaming (stream_with later now); waiting = after })
    stands_emptied after planned closed emptied =
        Stands-emptied terms plan next.reached_to (stream_with later now) w after planned next.waits (lines_within counted_n few) closed emptied
