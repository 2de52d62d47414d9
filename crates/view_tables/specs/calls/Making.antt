-- Windows whose groups begin with nothing.
use Rattle.std.specs.Prelude.{◌≡◌, ◌<◌, IsSome, None, Some, length}
use Rattle.graph_types.specs.meaning.Graph.{Graph, empty_graph}
use Rattle.group_window.specs.meaning.Windows.{StandsOn, WindowValue, most_groups}

-- the groups begin with the empty graph
abbrev pub IsBegun : WindowValue → Type 0
IsBegun w = w.base ≡ Some empty_graph

-- it has no open group, and stands on the graph
pub record IsClosed (w : WindowValue) (g : Graph) : Type 0 where
  pub begun : IsBegun w
  pub closed : w.current ≡ None
  pub stands : StandsOn w g

-- it has an open group, which led to the graph, and room for it
pub record IsOpen (w : WindowValue) (g : Graph) : Type 0 where
  pub begun : IsBegun w
  pub opened : IsSome w.current
  pub stands : StandsOn w g
  pub room : length w.later < most_groups
