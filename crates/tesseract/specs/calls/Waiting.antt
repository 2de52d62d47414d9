-- What waits to be mined.
use Rattle.std.specs.Prelude.{◌≡◌, ℕ, ◌+◌, ◌<◌, ◌≤◌, ◌*◌, ◌^◌, List, [], length, Option, None, Some, IsSome, IsOk}
use Rattle.graph_types.specs.meaning.Graph.{Graph}
use Rattle.group_window.specs.meaning.Windows.{CanPush, RunValue, StandsOn, WindowValue, ended, graph_after_run, graph_before, last_or, most_groups, pushed, update_count, with_current}
use Rattle.job.specs.calls.Standing.{IsStageOf}
use Rattle.job.specs.calls.Taking.{graph_with}
use Rattle.job.specs.declared.judging.Job.{Job}
use Rattle.job.specs.declared.judging.Job.TheVariants.{Heading, Streaming}
use Rattle.job.specs.meaning.Judging.{graph_of_groups}
use Rattle.mining_model.specs.meaning.History.{history}
use Rattle.mining_model.specs.meaning.Step.{step}
use Rattle.record_text.specs.meaning.Text.{count_in}
use Rattle.update_reader.specs.declared.Item.{Item}
use Rattle.update_reader.specs.declared.Item.TheVariants as item
use Rattle.window_miner.specs.calls.Mining.{FollowsShards}
use Rattle.tesseract.specs.declared.terms.Plan.{Plan}
use Rattle.tesseract.specs.declared.terms.Terms.{Terms}
use Rattle.tesseract.specs.declared.waiting.Kept.{Kept}
use Rattle.tesseract.specs.declared.waiting.Kept.TheVariants.{More, Ended}
use Rattle.tesseract.specs.declared.waiting.Waiting.{Waiting}
use Rattle.tesseract.specs.calls.Progress.{Progress}

-- A window has the groups that wait, and the shards keep the graph before them. Of the group that the window may
-- have open nothing is said.
pub record Waits (terms : Terms) (plan : Plan) (p : Progress) (w : Waiting) : Type 0 where
  pub first : w.window.first ≡ p.stamp
  pub follows : FollowsShards w.window w.shards.items p.mined
  pub later : w.window.later ≡ history p.mined p.waiting
  pub parted : w.window.shards ≡ plan.shards
  -- so many pieces stand after the last timestamp that was mined; each timestamp brought less than 2 ^ 32
  pub count : p.count ≡ count_in terms.format w.standing
  pub few : w.standing ≤ p.stamp * 2 ^ 32
  -- there are no more timestamps than lines
  pub stamped : p.stamp + length p.waiting ≤ p.lines

-- A group is open, with so many updates, that led from one graph to another.
pub record IsOpenGroup (before now : Graph) (updates : ℕ) (current : Option (Option RunValue)) : Type 0 where
  pub run : Option RunValue
  pub current_is : current ≡ Some run
  pub before_is : graph_before run now ≡ before
  pub now_is : graph_after_run (Some before) run ≡ Some now
  pub count : update_count run ≡ updates

-- The group that a window has open is the batch that is open, if one is.
abbrev pub IsOpenFor : Graph → Graph → Option ℕ → Option (Option RunValue) → Type 0
IsOpenFor before now None current = current ≡ None
IsOpenFor before now (Some updates) current = IsOpenGroup before now updates current

-- The same for a job. No group waits while its header is read.
abbrev pub WaitsFor : Progress → Job → WindowValue → Type 0
WaitsFor p (Heading header) w = (w.current ≡ None) × (p.waiting ≡ [])
WaitsFor p (Streaming stream) w = IsOpenFor (graph_of_groups p.stage) stream.graph stream.batch w.current

-- The job stands at the progress, and what waits is all that was accepted, and the batch that is open.
pub record WaitsAll (terms : Terms) (plan : Plan) (p : Progress) (job : Job) (w : Waiting) : Type 0 where
  pub at : IsStageOf p.stage job
  pub waits : Waits terms plan p w
  pub came : graph_of_groups p.stage ≡ last_or p.mined w.window.later
  pub current : WaitsFor p job w.window

-- what an item of the stream asks of the window and the graph
abbrev pub CanKeep : Item → WindowValue → Graph → Type 0
CanKeep item.Nothing w g = Unit {0}
CanKeep item.Commit w g = w.current ≡ None
CanKeep item.BatchBegin w g = (w.current ≡ None) × (length w.later < most_groups)
CanKeep item.BatchEnd w g = IsSome w.current × StandsOn w g
CanKeep (item.Update u) w g = IsOk (step g u) × CanPush w g

-- the window with an item that leads from one graph to another
abbrev pub window_with : Item → WindowValue → Graph → Graph → WindowValue
window_with item.Nothing w before after = w
window_with item.Commit w before after = w
window_with item.BatchBegin w before after = with_current w (Some None)
window_with item.BatchEnd w before after = ended w w.current after
window_with (item.Update u) w before after = pushed w w.current before after

-- The item was kept: an update is made in the graph, and the window knows of it.
pub record Keeps (what : Item) (old : Waiting) (g : Graph) (new : Waiting) (now : Graph) : Type 0 where
  pub graph : now ≡ graph_with what g
  pub window : new.window ≡ window_with what old.window g now
  pub same_shards : new.shards ≡ old.shards
  pub same_count : new.standing ≡ old.standing

-- Where the window is to end no group is open; where it isn't there is room for one group more.
abbrev pub EndsAt : ℕ → WindowValue → Kept → Type 0
EndsAt most w Ended = w.current ≡ None
EndsAt most w More = length w.later < most
