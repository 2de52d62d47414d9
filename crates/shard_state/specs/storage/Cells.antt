-- The cells of a shard, and what they know of each entry.
use Rattle.std.specs.Prelude.{ℕ, List, ◌∷◌, ◌++◌, map as mapped, Option, None, Some}
use Rattle.std.specs.FinMap as map
use Rattle.std.specs.List.{flat_map}
use Rattle.std.specs.Ordering.{nat_cmp}
use Rattle.update_rules.specs.meaning.Places.{Place, place_cmp}
use Rattle.version_cell.specs.meaning.Cell.{Timeline, changes_of, room_of}
use Rattle.shard_state.specs.meaning.KnownMaps.{map_of_known}
use Rattle.shard_state.specs.meaning.Shards.{Entries}
use Rattle.shard_state.specs.meaning.Versions.{Versions, no_versions, some_versions}

abbrev pub Cells : Type 0
Cells = map.FinMap nat_cmp Timeline

-- of the label, or of the edge to a vertex: the versions, and how many more can be noted with no memory
abbrev pub versions_in_cell : Timeline → Option ℕ → Versions
versions_in_cell cell None = record { at_floor = cell.at_floor.label; changes = cell.label.changes }
versions_in_cell cell (Some w) = record { at_floor = map.get cell.at_floor.near w; changes = changes_of (map.get cell.near w) }

abbrev pub room_in_cell : Timeline → Option ℕ → ℕ
room_in_cell cell None = cell.label.room
room_in_cell cell (Some w) = room_of (map.get cell.near w)

-- the same where there may be no cell
abbrev pub versions_known : Option Timeline → Option ℕ → Versions
versions_known None to = no_versions
versions_known (Some cell) to = versions_in_cell cell to

abbrev pub room_known : Option Timeline → Option ℕ → ℕ
room_known None to = 0
room_known (Some cell) to = room_in_cell cell to

abbrev pub floor_known : Option Timeline → ℕ
floor_known None = 0
floor_known (Some cell) = cell.floor

module _ (cells : Cells) where
  abbrev pub versions_in : Place → Versions
  versions_in p = versions_known (map.get cells p.0) p.1

  abbrev pub room_in : Place → ℕ
  room_in p = room_known (map.get cells p.0) p.1

  abbrev pub floor_in : ℕ → ℕ
  floor_in v = floor_known (map.get cells v)

-- the places of which a cell knows something
abbrev pub places_of_cell : ℕ × Timeline → List Place
places_of_cell entry = (entry.0, None) ∷ mapped (λ w. (entry.0, Some w)) (map.keys entry.1.at_floor.near ++ map.keys entry.1.near)

-- the entries of which the cells know something
abbrev pub entries_of : Cells → Entries
entries_of cells = map_of_known place_cmp (λ p. some_versions (versions_in cells p)) (flat_map places_of_cell (map.entries cells))
