-- The vertices that have a place in a cell, and those of them to which an edge leads at the floor.
use Rattle.std.specs.Prelude.{ℕ, ◌||◌, Bool, IsTrue, is_some, if◌then◌else◌, Option}
use Rattle.std.specs.FinMap as map
use Rattle.std.specs.Option.{option_flatten}
use Rattle.std.specs.Ordering.{nat_cmp}
use Rattle.version_cell.specs.meaning.LabelMaps.{label_map}

-- a place for each of some vertices, with the label of the edge that leads there at the floor, if one does
abbrev pub Places : Type 0
Places = map.FinMap nat_cmp (Option ℕ)

-- the label of the edge to w at the floor, if one leads there
abbrev pub place_label : Places → ℕ → Option ℕ
place_label places w = option_flatten (map.get places w)

-- the vertices to which an edge leads at the floor
abbrev pub near_at_floor : Places → map.FinMap nat_cmp ℕ
near_at_floor places = label_map (place_label places) (map.keys places)

-- each vertex whose edge changes has a place
abbrev pub HavePlaces : {X : Type 0} → map.FinMap nat_cmp X → Places → Type 0
HavePlaces near places = (w : ℕ) → IsTrue (map.contains_key near w) → IsTrue (map.contains_key places w)

-- the places with a new label at w; where it has none, its place stays only if it is kept
abbrev pub with_place : Places → ℕ → Option ℕ → Bool → Places
with_place places w label kept = if is_some label || kept then map.insert places w label else map.remove places w
