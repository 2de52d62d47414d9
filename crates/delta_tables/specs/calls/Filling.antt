-- Windows that go on from a graph, and stores that keep one.
use Rattle.std.specs.Prelude.{◌≡◌, ℕ, ◌<◌, length, IsSome, None, Some}
use Rattle.graph_types.specs.meaning.Graph.{Graph}
use Rattle.group_window.specs.meaning.Windows.{StandsOn, WindowValue, most_groups}

-- the window goes on from a graph at this timestamp, and is parted among so many shards
pub record GoesOn (w : WindowValue) (at count : ℕ) (before : Graph) : Type 0 where
  pub first : w.first ≡ at
  pub parted : w.shards ≡ count
  pub base : w.base ≡ Some before

-- it has no open group, and stands on the graph
pub record IsClosed (w : WindowValue) (g : Graph) : Type 0 where
  pub closed : w.current ≡ None
  pub stands : StandsOn w g

-- it has an open group, which led to the graph, and room for it
pub record IsOpen (w : WindowValue) (g : Graph) : Type 0 where
  pub opened : IsSome w.current
  pub stands : StandsOn w g
  pub room : length w.later < most_groups
