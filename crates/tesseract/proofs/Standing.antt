-- A run stands at the next line.
use Rattle.std.proofs.Common.{◌≡◌, ℕ, suc, ◌+◌, ◌*◌, ◌^◌, ◌≤◌, ◌⊎◌, inl, inr, List, [], ◌∷◌, length, length-append, Option, None, Some, Ok, refl, sym, ap, subst, ◌∙◌, arith, box_value}
use Rattle.graph_types.specs.meaning.Graph.{Graph}
use Rattle.group_window.specs.meaning.Windows.{IsSound, RunValue, WindowValue, ended, last_or, pushed}
use Rattle.job.specs.calls.Counting.{batch_after}
use Rattle.job.specs.calls.Standing.{IsAt}
use Rattle.job.specs.calls.Taking.{TakesLine}
use Rattle.job.specs.declared.judging.Job.{Job}
use Rattle.job.specs.declared.judging.Job.TheVariants.{Streaming}
use Rattle.job.specs.declared.stream.Stream.{Stream}
use Rattle.job.specs.meaning.Judging.{Judgement, Stage, accepted, graph_of_groups, moved, text_judgement}
use Rattle.job.proofs.Following.{text-Accepts, text-LeadsOn}
use Rattle.cond_eval.specs.meaning.Patterns.{pattern_of}
use Rattle.job_io.specs.meaning.Lines.{Reading}
use Rattle.mining_model.specs.meaning.History.{Group, history}
use Rattle.update_reader.specs.declared.Item.{Item}
use Rattle.update_reader.specs.declared.Item.TheVariants as item
use Rattle.record_text.specs.meaning.Text.{count_in}
use Rattle.shard_state.specs.calls.Sharing.{KeepGraph}
use Rattle.window_miner.specs.calls.Mining.{FollowsShards}
use Rattle.tesseract.specs.declared.terms.Plan.{Plan}
use Rattle.tesseract.specs.declared.terms.Terms.{Terms}
use Rattle.tesseract.specs.declared.waiting.Waiting.{Waiting}
use Rattle.tesseract.specs.calls.Progress.{Progress}
use Rattle.tesseract.specs.calls.Turning.{IsGiven}
use Rattle.tesseract.specs.calls.Waiting.{IsOpenFor, Keeps, Waits, WaitsAll, window_with}
use Rattle.tesseract.proofs.Keeping.{Follows, IsLed, LeadsTo, led_by}
use Rattle.tesseract.proofs.Leading.{GoesOn, brought_to, moved_to}
use Rattle.tesseract.proofs.Reaching.{opened}
use Rattle.tesseract.proofs.Turning.{brings_on, moves_on}

-- an item leaves the first timestamp of a window, and the number of its shards

same_pushed : (w : WindowValue) (current : Option (Option RunValue)) (before now : Graph) →
    ((pushed w current before now).first ≡ w.first) × ((pushed w current before now).shards ≡ w.shards)
same_pushed w None before now = (refl, refl)
same_pushed w (Some run) before now = (refl, refl)

same_ended : (w : WindowValue) (current : Option (Option RunValue)) (now : Graph) →
    ((ended w current now).first ≡ w.first) × ((ended w current now).shards ≡ w.shards)
same_ended w None now = (refl, refl)
same_ended w (Some run) now = (refl, refl)

same_window : (what : Item) (w : WindowValue) (before now : Graph) →
    ((window_with what w before now).first ≡ w.first) × ((window_with what w before now).shards ≡ w.shards)
same_window item.Nothing w before now = (refl, refl)
same_window item.Commit w before now = (refl, refl)
same_window item.BatchBegin w before now = (refl, refl)
same_window item.BatchEnd w before now = same_ended w w.current now
same_window (item.Update u) w before now = same_pushed w w.current before now

-- Line n of a stream, without its CR, leads from one progress to another: it brings no group, or a group that waits.
abbrev pub LeadsFrom : ℕ → List ℕ → Progress → Progress → Type 0
LeadsFrom n text p q =
    ((next : Stage) × (text_judgement n p.stage text ≡ moved next) × (q ≡ moved_to p next))
    ⊎ ((us : Group) × (next : Stage) × (text_judgement n p.stage text ≡ accepted us next) × (q ≡ brought_to p us next))

-- After a line a run stands at a progress to which the line led.
pub record StandsNext (terms : Terms) (plan : Plan) (p : Progress) (n : ℕ) (text : List ℕ) (job : Job) (w : Waiting) : Type 0 where
  pub reached_to : Progress
  pub leads : LeadsFrom n text p reached_to
  pub waits : WaitsAll terms plan reached_to job w

pub lines_after : (n : ℕ) (text : List ℕ) (p q : Progress) → LeadsFrom n text p q → q.lines ≡ suc p.lines
lines_after n text p q (inl led) = ap (λ (r : Progress). r.lines) led.2
lines_after n text p q (inr led) = ap (λ (r : Progress). r.lines) led.3

-- it leads on the job of all lines
pub goes_from : (terms : Terms) (old new : Reading) (left left' : Option (List ℕ)) (n : ℕ) (text : List ℕ) → IsGiven old new left left' n text →
    old.most ≡ terms.lines → (p q : Progress) → p.lines ≡ old.number → LeadsFrom n text p q →
    GoesOn terms p new.line.bytes q (opened terms.format p.stage q.stage)
goes_from terms old new left left' n text given most p q counted (inl led) =
    subst (λ (q : Progress). GoesOn terms p new.line.bytes q (opened terms.format p.stage q.stage)) (sym led.2)
    (moves_on terms old new left left' n text given most p led.0 counted led.1)
goes_from terms old new left left' n text given most p q counted (inr led) =
    subst (λ (q : Progress). GoesOn terms p new.line.bytes q (opened terms.format p.stage q.stage)) (sym led.3)
    (brings_on terms old new left left' n text given most p led.0 led.1 counted led.2)

module _ (terms : Terms) (plan : Plan) (p : Progress) (stream : Stream) (next : Stage) (was w : Waiting) (what : Item) (g : Graph)
    (at : IsAt next (pattern_of (box_value stream.program)) stream.names stream.graph stream.batch)
    (waits : Waits terms plan p was) (keeps : Keeps what was g w stream.graph) where
  same_first : w.window.first ≡ was.window.first
  same_first = ap (λ (v : WindowValue). v.first) keeps.window ∙ (same_window what was.window g stream.graph).0

  same_shards : w.window.shards ≡ was.window.shards
  same_shards = ap (λ (v : WindowValue). v.shards) keeps.window ∙ (same_window what was.window g stream.graph).1

  -- what waits, where these groups do
  waits_more : (q : Progress) → q.stamp ≡ p.stamp → q.mined ≡ p.mined → q.count ≡ p.count → q.stamp + length q.waiting ≤ q.lines →
      Follows p.mined q.waiting next stream.graph stream.batch w.window → Waits terms plan q w
  waits_more q stamp mined count few follows = record {
    first = same_first ∙ waits.first ∙ sym stamp;
    follows = subst (FollowsShards w.window w.shards.items) (sym mined) (record {
      base = follows.gathers.base;
      parted = same_shards ∙ waits.follows.parted ∙ ap (λ shards. length shards.items) (sym keeps.same_shards);
      keep =
          subst (λ t. KeepGraph w.shards.items t p.mined) (sym same_first)
          (subst (λ shards. KeepGraph shards.items was.window.first p.mined) (sym keeps.same_shards) waits.follows.keep);
    });
    later = follows.gathers.later ∙ ap (λ g. history g q.waiting) (sym mined);
    parted = same_shards ∙ waits.parted;
    count = count ∙ waits.count ∙ ap (λ n. count_in terms.format n) (sym keeps.same_count);
    few = subst (λ n. n ≤ q.stamp * 2 ^ 32) (sym keeps.same_count) (subst (λ t. was.standing ≤ t * 2 ^ 32) (sym stamp) waits.few);
    stamped = few;
  }

  waits_all : (q : Progress) → q.stage ≡ next → q.mined ≡ p.mined → Waits terms plan q w →
      Follows p.mined q.waiting next stream.graph stream.batch w.window → WaitsAll terms plan q (Streaming stream) w
  waits_all q stage mined waits follows = record {
    at = subst (λ s. IsAt s (pattern_of (box_value stream.program)) stream.names stream.graph stream.batch) (sym stage) at;
    waits = waits;
    came = ap graph_of_groups stage ∙ follows.came ∙ ap (λ g. last_or g w.window.later) (sym mined);
    current = subst (λ s. IsOpenFor (graph_of_groups s) stream.graph stream.batch w.window.current) (sym stage) follows.current;
  }

  pub stands_next : (n : ℕ) (text : List ℕ) → LeadsTo (text_judgement n p.stage text) p.mined p.waiting next stream.graph stream.batch w.window →
      StandsNext terms plan p n text (Streaming stream) w
  stands_next n text (inl led) = record {
    reached_to = moved_to p next;
    leads = inl (next, led.0, refl);
    waits = waits_all (moved_to p next) refl refl (waits_more (moved_to p next) refl refl refl (let f = waits.stamped in omega (arith, f)) led.1) led.1;
  }
  stands_next n text (inr led) = record {
    reached_to = brought_to p led.0 next;
    leads = inr (led.0, next, led.1, refl);
    waits =
        waits_all (brought_to p led.0 next) refl refl
        (waits_more (brought_to p led.0 next) refl refl refl
        (let f = waits.stamped in let l = length-append p.waiting (led.0 ∷ []) in omega (arith, f, l)) led.2) led.2;
  }

-- ---- an item of the stream

-- what is left of a stream once an item is made in its graph
abbrev pub stream_with : Stream → Graph → Stream
stream_with stream g = record { program = stream.program; names = stream.names; graph = g; batch = stream.batch }

module _ (terms : Terms) (plan : Plan) (p : Progress) (stream later : Stream) (was w : Waiting) (what : Item) (now : Graph)
    (all : WaitsAll terms plan p (Streaming stream) was) (same_graph : later.graph ≡ stream.graph) (same_program : later.program ≡ stream.program)
    (sound : IsSound was.window) (keeps : Keeps what was later.graph w now) (n : ℕ) (text : List ℕ)
    (batch : batch_after n stream.graph stream.batch what ≡ Ok later.batch) (takes : TakesLine n p.stage text stream.names (Ok what) later) where
  abbrev next : Stage
  next = takes.0

  abbrev j : Judgement
  j = text_judgement n p.stage text

  led : IsLed n p.stage next later.graph stream.batch later.batch what j
  led = record {
    pattern = pattern_of (box_value later.program);
    names = stream.names;
    later_names = later.names;
    at = subst (λ g. IsAt p.stage (pattern_of (box_value later.program)) stream.names g stream.batch) (sym same_graph)
        (subst (λ program. IsAt p.stage (pattern_of (box_value program)) stream.names stream.graph stream.batch) (sym same_program) all.at);
    leads = takes.1;
    at_next = takes.2;
    counted = subst (λ g. batch_after n g stream.batch what ≡ Ok later.batch) (sym same_graph) batch;
    moves = λ after is. text-LeadsOn n p.stage after text is;
    brings = λ us after is. text-Accepts n p.stage after text us is;
  }

  led_to : LeadsTo j p.mined p.waiting next now later.batch w.window
  led_to =
      subst (LeadsTo j p.mined p.waiting next now later.batch) (sym keeps.window)
      (subst (λ g. LeadsTo j p.mined p.waiting next g later.batch (window_with what was.window later.graph g)) (sym keeps.graph)
      (led_by n p.mined p.waiting p.stage next later.graph was.window j
      (record { base = all.waits.follows.base; later = all.waits.later }) sound.begun all.came what stream.batch later.batch led
      (subst (λ g. IsOpenFor (graph_of_groups p.stage) g stream.batch was.window.current) (sym same_graph) all.current)))

  pub item_kept : StandsNext terms plan p n text (Streaming (stream_with later now)) w
  item_kept =
      stands_next terms plan p (stream_with later now) next was w what later.graph
      (subst (λ g. IsAt next (pattern_of (box_value later.program)) later.names g later.batch) (sym keeps.graph) takes.2)
      all.waits keeps n text led_to
