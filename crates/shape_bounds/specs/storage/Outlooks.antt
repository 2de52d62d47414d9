-- What is kept of a condition, so that it is asked once: a row for each number of vertices, with a place for each
-- number of edges.
use Rattle.std.specs.Prelude.{◌≡◌, ◌≤◌, ◌+◌, ◌*◌, ℕ, List, Some, slice_get}
use Rattle.conditions.specs.declared.condition.Cond.{Cond}
use Rattle.shape_bounds.specs.declared.outcome.Outcome.{Outcome}
use Rattle.shape_bounds.specs.meaning.Outcomes.{outcome_of}

-- ten rows of 37
abbrev pub places : ℕ
places = 370

-- the outlook tells what the condition is
abbrev pub Foretells : Cond → List Outcome → Type 0
Foretells c outlook = (vertices edges : ℕ) → vertices ≤ 9 → edges ≤ 36 → slice_get outlook (vertices * 37 + edges) ≡ Some (outcome_of c vertices edges)
