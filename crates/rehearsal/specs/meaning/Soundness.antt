-- What holds of a machine between any two events.
use Rattle.std.specs.Prelude.{◌≡◌, ◌+◌, ◌<◌, ◌≤◌, ℕ, true, List, length, get_or, Some, IfSome}
use Rattle.delta_task.specs.calls.Deltas.{IsDelta}
use Rattle.graph_types.specs.meaning.Graph.{Graph}
use Rattle.group_window.specs.meaning.Windows.{WindowValue, graph_of}
use Rattle.mining_model.specs.meaning.Embeddings.{Pattern}
use Rattle.shard_events.specs.meaning.Rule.{Rule}
use Rattle.shard_state.specs.meaning.Joining.{shard_at}
use Rattle.shard_state.specs.meaning.Telling.{Graphs}
use Rattle.rehearsal.specs.declared.machine.Machine.{Machine}
use Rattle.rehearsal.specs.declared.task.Task.{Task}
use Rattle.rehearsal.specs.declared.task.Task.TheVariants as task
use Rattle.rehearsal.specs.meaning.MachineState.{MachineState, state_of}
use Rattle.rehearsal.specs.meaning.Shown.{shown}
use Rattle.rehearsal.specs.meaning.Table.{are_for, group_parts, next_parts}

-- the task found nothing yet, or what its group takes away and brings
abbrev pub HasFound : Pattern → ℕ → WindowValue → ℕ → Task → Type 0
HasFound pattern most w i task.Waiting = Unit {0}
HasFound pattern most w i task.Live = Unit {0}
HasFound pattern most w i (task.Explored delta) = IsDelta pattern (graph_of w i) (graph_of w (i + 1)) most delta
HasFound pattern most w i (task.Finished delta) = IsDelta pattern (graph_of w i) (graph_of w (i + 1)) most delta

-- so of each task
abbrev pub HaveFound : Pattern → ℕ → WindowValue → List Task → Type 0
HaveFound pattern most w tasks = (i : ℕ) → i < length w.later → HasFound pattern most w i (get_or tasks i task.Waiting)

-- the graphs of a window that begins with this one
abbrev pub graphs_from : WindowValue → Graph → Graphs
graphs_from w g = record { first = w.first; base = g; later = w.later }

-- What a machine stands at is what the rule says of the window that begins with a graph. What the ingest and the watch
-- hold they hold for a reason.
pub record IsSoundState (w : WindowValue) (g : Graph) (m : MachineState) : Type 0 where
  pub base : IfSome w.base (λ before. before ≡ g)
  pub parted : w.shards ≡ length m.shards
  pub ruled : Rule (graphs_from w g) (shown w m)
  pub parts : m.parts ≤ length (group_parts w m)
  -- the next part is for the shard that the ingest holds
  pub next : (s : ℕ) → m.ingest ≡ Some s → are_for (next_parts w m) s ≡ true
  -- the shard that the watch holds is not pruned to the front that it saw
  pub behind : (s : ℕ) → m.watch ≡ Some s → (s < length m.shards) × ((shard_at m.shards s).floor < w.first + m.seen)
  pub apart : (s : ℕ) → m.ingest ≡ Some s → m.watch ≡ Some s → ⊥

-- The machine stands at what is sound, and what its tasks found is right.
pub record IsSoundMachine (pattern : Pattern) (most : ℕ) (w : WindowValue) (g : Graph) (m : Machine) : Type 0 where
  pub state : IsSoundState w g (state_of m)
  pub found : HaveFound pattern most w m.tasks.items
