-- Neighbours that are still to come, of which the first is known.
use Rattle.std.specs.Prelude.{ℕ, ◌≤◌, ◌||◌, min, nat_lt, IsTrue, List, [], ◌∷◌, map as mapped, if◌then◌else◌, Option, None, Some}
use Rattle.std.specs.FinMap as map
use Rattle.std.specs.Ordering.{nat_cmp}
use Rattle.graph_types.specs.declared.near.Near.{Near}

abbrev pub ahead : Option (ℕ × ℕ) → List (ℕ × ℕ) → List (ℕ × ℕ)
ahead None rest = []
ahead (Some first) rest = first ∷ rest

-- no vertex of the map is below v
abbrev pub NoneBelow : ℕ → map.FinMap nat_cmp ℕ → Type 0
NoneBelow v m = (w : ℕ) → IsTrue (map.contains_key m w) → v ≤ w

-- the lowest vertex of a map
pub record IsLowestOf (m : map.FinMap nat_cmp ℕ) (v : ℕ) : Type 0 where
  pub there : IsTrue (map.contains_key m v)
  pub lowest : NoneBelow v m

-- the lowest vertex of two maps
pub record IsLowest (m n : map.FinMap nat_cmp ℕ) (v : ℕ) : Type 0 where
  pub there : IsTrue (map.contains_key m v || map.contains_key n v)
  pub first : NoneBelow v m
  pub second : NoneBelow v n

-- the lower of two vertices, where both are there, and else the one that is
abbrev pub lower_of : Option ℕ → Option ℕ → Option ℕ
lower_of None y = y
lower_of (Some x) None = Some x
lower_of (Some x) (Some y) = Some (min x y)

-- where the neighbours are
abbrev pub near_ends : List Near → List ℕ
near_ends near = mapped (λ n. n.to) near

-- the vertices without the first that are below v
abbrev pub above : ℕ → List ℕ → List ℕ
above v [] = []
above v (w ∷ ws) = if nat_lt w v then above v ws else w ∷ ws
