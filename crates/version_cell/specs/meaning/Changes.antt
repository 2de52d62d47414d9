-- What changes of a label, in the order of their timestamps, make of it.
use Rattle.std.specs.Prelude.{ℕ, ◌-◌, ◌<◌, nat_le, List, [], ◌∷◌, ◌++◌, Option, if◌then◌else◌}
use Rattle.version_cell.specs.declared.change.Change.{Change}

-- what the label was after timestamp t, from what it was at the floor
abbrev pub label_after : Option ℕ → List Change → ℕ → Option ℕ
label_after at_floor [] t = at_floor
label_after at_floor (change ∷ later) t = if nat_le change.at t then label_after change.label later t else at_floor

-- the changes after timestamp t
abbrev pub changes_after : List Change → ℕ → List Change
changes_after [] t = []
changes_after (change ∷ later) t = if nat_le change.at t then changes_after later t else change ∷ later

-- the changes of a label, in order, and how many more can be noted with no memory
pub record Track : Type 0 where
  pub changes : List Change
  pub room : ℕ

-- one change more
abbrev pub with_change : Track → Change → Track
with_change track change = record { changes = track.changes ++ change ∷ []; room = track.room - 1 }

-- the last change, if there is one, is before timestamp t
abbrev pub IsAfterLast : List Change → ℕ → Type 0
IsAfterLast [] t = Unit {0}
IsAfterLast (change ∷ later) t = (change.at < t) × IsAfterLast later t
