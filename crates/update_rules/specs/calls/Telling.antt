-- Which vertex or edge of the net change a change tells of.
use Rattle.std.specs.Prelude.{ℕ, Bool, ◌||◌, nat_le, eqb, List, Option, None, Some, if◌then◌else◌}
use Rattle.std.specs.List.{list_any}
use Rattle.update_rules.specs.declared.changes.Change.{Change}
use Rattle.update_rules.specs.declared.changes.Change.TheVariants.{Label, Near}

-- a changed label tells of its vertex
abbrev pub vertex_told : Change → Option ℕ
vertex_told (Label v now) = Some v
vertex_told (Near v to now) = None

abbrev pub is_among : List ℕ → ℕ → Bool
is_among vertices v = list_any (eqb v) vertices

-- a changed edge is told at its lower end, where neither end is among the vertices
abbrev pub edge_told : List ℕ → Change → Option (ℕ × ℕ)
edge_told vertices (Label v now) = None
edge_told vertices (Near v to now) = if nat_le to v || is_among vertices v || is_among vertices to then None else Some (v, to)
