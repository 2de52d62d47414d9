-- Entries of a graph in an ordered map, by their places.
use Rattle.std.specs.Prelude.{◌≡◌, ℕ, unwrap_or, Option, Some, if◌then◌else◌}
use Rattle.std.specs.BTreeMap.{BTreeMap, get}
use Rattle.std.specs.Ordering.{eq_by_cmp}
use Rattle.graph_types.specs.meaning.Graph.{Graph}
use Rattle.update_rules.specs.meaning.Places.{Place, place_cmp, entry_at}

-- `own` is the graph that has the map's entries where the map has one, and those of `other` elsewhere
abbrev pub IsOverlaid : BTreeMap Place (Option ℕ) → Graph → Graph → Type 0
IsOverlaid entries other own = (p : Place) → entry_at own p ≡ unwrap_or (get place_cmp entries p) (entry_at other p)

-- one entry is put, and the others stay
abbrev pub PutsEntry : BTreeMap Place (Option ℕ) → BTreeMap Place (Option ℕ) → Place → Option ℕ → Type 0
PutsEntry old new place label = (p : Place) → get place_cmp new p ≡ (if eq_by_cmp place_cmp p place then Some label else get place_cmp old p)

-- the entries of an edge are put at both its ends, and the others stay
abbrev pub PutsBoth : BTreeMap Place (Option ℕ) → BTreeMap Place (Option ℕ) → ℕ → ℕ → Option ℕ → Type 0
PutsBoth old new x y label =
    (p : Place) → get place_cmp new p ≡ (if eq_by_cmp place_cmp p (y, Some x) then Some label else (if eq_by_cmp place_cmp p (x, Some y) then Some label else get place_cmp old p))
