-- Lists of changes that are gone over beside the places of the same vertices, both ascending.
use Rattle.std.specs.Prelude.{ℕ, eqb, if◌then◌else◌, List, [], ◌∷◌, Option, None, Some}
use Rattle.std.specs.Borrow.{Bor}
use Rattle.version_cell.specs.meaning.Changes.{Track}

-- a list of changes that was taken out already, before those that are left
abbrev pub with_next : Option (Bor ℕ × Bor Track) → List (ℕ × Track) → List (ℕ × Track)
with_next None rest = rest
with_next (Some entry) rest = (entry.0.now, entry.1.now) ∷ rest

-- the first list, where it is that of w, and the lists that are left then
abbrev pub first_at : ℕ → List (ℕ × Track) → Option Track
first_at w [] = None
first_at w (entry ∷ rest) = if eqb entry.0 w then Some entry.1 else None

abbrev pub left_after : ℕ → List (ℕ × Track) → List (ℕ × Track)
left_after w [] = []
left_after w (entry ∷ rest) = if eqb entry.0 w then rest else entry ∷ rest
