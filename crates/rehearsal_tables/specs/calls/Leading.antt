-- Windows that lead from one graph to another.
use Rattle.std.specs.Prelude.{◌≡◌, ℕ, List, [], Option, None, Some}
use Rattle.graph_types.specs.meaning.Graph.{Graph}
use Rattle.group_window.specs.meaning.Windows.{RunValue, WindowValue, graph_after_current, last_or}

-- groups begin with this graph, if there are any
abbrev pub BeginWith : Graph → Option Graph → List Graph → Type 0
BeginWith before None later = later ≡ []
BeginWith before (Some g) later = g ≡ before

-- the updates of the open group, if it has any, began with this graph
abbrev pub RunsFrom : Graph → Option (Option RunValue) → Type 0
RunsFrom g None = Unit {0}
RunsFrom g (Some None) = Unit {0}
RunsFrom g (Some (Some run)) = run.before ≡ g

-- The window goes on from a graph at this timestamp, and is parted among so many shards. Its groups and its updates led
-- to another graph.
pub record Leads (at count : ℕ) (before : Graph) (w : WindowValue) (now : Graph) : Type 0 where
  pub first : w.first ≡ at
  pub parted : w.shards ≡ count
  pub begins : BeginWith before w.base w.later
  pub runs : RunsFrom (last_or before w.later) w.current
  pub came : graph_after_current (Some (last_or before w.later)) w.current ≡ Some now
