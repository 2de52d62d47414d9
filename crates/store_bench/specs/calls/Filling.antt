-- Windows of updates, each a group of its own.
use Rattle.std.specs.Prelude.{◌≡◌, ◌≤◌, ℕ, List, [], ◌∷◌, length, Option, None, Some}
use Rattle.std.specs.List.{AllByRecursion}
use Rattle.graph_types.specs.meaning.Graph.{Graph}
use Rattle.graph_types.specs.meaning.Simple.{IsSimple}
use Rattle.group_window.specs.meaning.Windows.{WindowValue, last_or}

-- the graph before the first group, where there is one
abbrev pub base_of : Graph → List Graph → Option Graph
base_of g [] = None
base_of g (next ∷ later) = Some g

-- The window begins at this timestamp, for so many shards, and has at most so many groups, which lead from one graph
-- to another. None of them is open, and all these graphs are simple.
pub record IsFilled (w : WindowValue) (at count most : ℕ) (before after : Graph) : Type 0 where
  pub first : w.first ≡ at
  pub parted : w.shards ≡ count
  pub few : length w.later ≤ most
  pub base : w.base ≡ base_of before w.later
  pub last : after ≡ last_or before w.later
  pub closed : w.current ≡ None
  pub begins_simple : IsSimple before
  pub simple : AllByRecursion IsSimple w.later
