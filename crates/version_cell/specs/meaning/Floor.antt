-- What a cell still has of the time up to its floor: one version, that at the floor.
use Rattle.std.specs.Prelude.{ℕ, ◌<◌, List, [], ◌∷◌}
use Rattle.std.specs.FinMap as map
use Rattle.version_cell.specs.declared.change.Change.{Change}
use Rattle.version_cell.specs.meaning.Cell.{Timeline, changes_of}

-- the changes ascend by their timestamps, and come after timestamp f
abbrev pub AscendAbove : ℕ → List Change → Type 0
AscendAbove f [] = Unit {0}
AscendAbove f (change ∷ later) = (f < change.at) × AscendAbove change.at later

-- all changes come after the floor, in order
pub record IsAboveFloor (cell : Timeline) : Type 0 where
  pub label : AscendAbove cell.floor cell.label.changes
  pub near : (w : ℕ) → AscendAbove cell.floor (changes_of (map.get cell.near w))
