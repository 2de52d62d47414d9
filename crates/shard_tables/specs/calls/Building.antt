-- Windows that begin with the empty graph, while they are built and then.
use Rattle.std.specs.Prelude.{◌≡◌, Option, None, Some, unwrap_or}
use Rattle.graph_types.specs.meaning.Graph.{Graph, empty_graph}
use Rattle.graph_types.specs.meaning.Simple.{IsSimple}
use Rattle.group_window.specs.meaning.Windows.{RunValue, StandsOn, WindowValue, graph_before}
use Rattle.shard_state.specs.meaning.Telling.{AreSimple, graphs_of}

-- the window begins with the empty graph at timestamp 0, and its graphs are simple
pub record IsFromNothing (w : WindowValue) : Type 0 where
  pub first : w.first ≡ 0
  pub base : unwrap_or w.base empty_graph ≡ empty_graph
  pub simple : AreSimple (graphs_of w)

-- the graph before the group that is open, if one is, where g is the one now
abbrev pub closed_part : Option (Option RunValue) → Graph → Graph
closed_part None g = g
closed_part (Some run) g = graph_before run g

-- The same while it is built, where g is the graph now. As long as there is no group, that before the open one is empty.
pub record IsBuilding (w : WindowValue) (g : Graph) : Type 0 where
  pub stands : StandsOn w g
  pub first : w.first ≡ 0
  pub base : unwrap_or w.base (closed_part w.current g) ≡ empty_graph
  pub simple : AreSimple (graphs_of w)
  pub closed : IsSimple (closed_part w.current g)
