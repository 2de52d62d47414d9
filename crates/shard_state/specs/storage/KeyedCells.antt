-- The cells of a shard, by their keys.
use Rattle.std.specs.Prelude.{◌≡◌, ℕ, ◌%◌, ◌==◌, if◌then◌else◌, map as mapped, Option, None}
use Rattle.std.specs.FinMap as map
use Rattle.std.specs.Ordering.{nat_cmp}
use Rattle.version_cell.specs.meaning.Cell.{Timeline}
use Rattle.shard_state.specs.declared.class.Class.{Class}
use Rattle.shard_state.specs.meaning.KnownMaps.{map_of_known}
use Rattle.shard_state.specs.storage.Cells.{Cells}
use Rattle.shard_state.specs.storage.Keys.{key_of, vertex_at}

-- the vertex is one of the class
abbrev pub Owns : Class → ℕ → Type 0
Owns class v = v % class.shards ≡ class.number

-- the cell of a vertex, of cells by their keys
abbrev pub cell_of : Class → Cells → ℕ → Option Timeline
cell_of class items v = if v % class.shards == class.number then map.get items (key_of class.shards v) else None

-- the cells by their vertices, of cells by their keys
unfoldable pub cells_of : Class → Cells → Cells
cells_of class items = map_of_known nat_cmp (cell_of class items) (mapped (vertex_at class.number class.shards) (map.keys items))
