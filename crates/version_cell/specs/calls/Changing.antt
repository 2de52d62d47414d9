-- What the calls that change a cell do.
use Rattle.std.specs.Prelude.{◌≡◌, ℕ, ◌≤◌, max}
use Rattle.std.specs.FinMap as map
use Rattle.version_cell.specs.declared.change.Change.{Change}
use Rattle.version_cell.specs.meaning.Changes.{changes_after, with_change}
use Rattle.version_cell.specs.meaning.Cell.{Timeline, changes_of, neighbourhood_after, room_of}

-- the same versions, and no less room: what a reservation leaves
pub record KeepsVersions (old new : Timeline) : Type 0 where
  pub floor : new.floor ≡ old.floor
  pub at_floor : new.at_floor ≡ old.at_floor
  pub label : new.label.changes ≡ old.label.changes
  pub near : (w : ℕ) → changes_of (map.get new.near w) ≡ changes_of (map.get old.near w)
  pub label_room : old.label.room ≤ new.label.room
  pub near_room : (w : ℕ) → room_of (map.get old.near w) ≤ room_of (map.get new.near w)

-- the cell after one change of its label, and after one of the edge to w
abbrev pub with_label_change : Timeline → Change → Timeline
with_label_change cell change = record { floor = cell.floor; at_floor = cell.at_floor; label = with_change cell.label change; near = cell.near }

abbrev pub with_near_change : Timeline → ℕ → Change → Timeline
with_near_change cell w change = record {
  floor = cell.floor;
  at_floor = cell.at_floor;
  label = cell.label;
  near = map.insert cell.near w (with_change (record { changes = changes_of (map.get cell.near w); room = room_of (map.get cell.near w) }) change);
}

-- the cell folded to f: what stood at the greater floor, and the changes after it
pub record IsFolded (old : Timeline) (f : ℕ) (new : Timeline) : Type 0 where
  pub floor : new.floor ≡ max old.floor f
  pub at_floor : new.at_floor ≡ neighbourhood_after old (max old.floor f)
  pub label : new.label.changes ≡ changes_after old.label.changes (max old.floor f)
  pub near : (w : ℕ) → changes_of (map.get new.near w) ≡ changes_after (changes_of (map.get old.near w)) (max old.floor f)
