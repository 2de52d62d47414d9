-- The sizes that a program may have.
use Rattle.std.specs.Prelude.{ℕ, ◌&&◌, nat_le, Option, None, Some, if◌then◌else◌}
use Rattle.graph_types.specs.meaning.Piece.{most_members}

-- the number, if it is from 1 to 8
abbrev pub size_in : ℕ → Option ℕ
size_in n = if nat_le 1 n && nat_le n most_members then Some n else None
