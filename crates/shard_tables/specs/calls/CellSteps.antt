-- A cell that takes one step after the other.
use Rattle.std.specs.Prelude.{ℕ, ◌+◌}
use Rattle.std.specs.FinMap as map
use Rattle.version_cell.specs.meaning.Cell.{Timeline, changes_of}
use Rattle.version_cell.specs.meaning.Changes.{IsAfterLast}

-- all changes of the cell came by timestamp t
pub record CameBy (t : ℕ) (cell : Timeline) : Type 0 where
  pub label : IsAfterLast cell.label.changes (t + 1)
  pub near : (w : ℕ) → IsAfterLast (changes_of (map.get cell.near w)) (t + 1)
