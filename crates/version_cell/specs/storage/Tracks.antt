-- Lists of changes, one for each vertex whose edge changes.
use Rattle.std.specs.Prelude.{◌≡◌, ℕ, ◌≤◌, ◌||◌, Bool, true, false, eqb, IsTrue, List, [], ◌∷◌}
use Rattle.std.specs.FinMap as map
use Rattle.std.specs.Ordering.{nat_cmp}
use Rattle.version_cell.specs.declared.change.Change.{Change}
use Rattle.version_cell.specs.meaning.Cell.{changes_of, room_of}
use Rattle.version_cell.specs.meaning.Changes.{Track}

abbrev pub Tracks : Type 0
Tracks = map.FinMap nat_cmp Track

-- there is a change
abbrev pub is_changed : List Change → Bool
is_changed [] = false
is_changed (change ∷ later) = true

-- the same changes, no less room, and a list at w at most beside those that were there
pub record KeepsTracks (old new : Tracks) (w : ℕ) : Type 0 where
  pub changes : (v : ℕ) → changes_of (map.get new v) ≡ changes_of (map.get old v)
  pub room : (v : ℕ) → room_of (map.get old v) ≤ room_of (map.get new v)
  pub keys : (v : ℕ) → IsTrue (map.contains_key new v) → IsTrue (map.contains_key old v || eqb v w)
