-- Between which numbers a sum lies in a simple graph of which only the numbers of vertices and edges are known.
use Rattle.std.specs.Prelude.{ℕ, ◌-◌, ◌*◌, ◌/◌, min, List, sum_by, None}
use Rattle.conditions.specs.declared.condition.Factor.{Factor}
use Rattle.conditions.specs.declared.condition.Term.{Term}
use Rattle.conditions.specs.declared.condition.Term.TheVariants.{Vertices, Edges, Joins, Kinds, Degree, Missing, Least}

-- the pairs of different vertices that the edges leave without one
abbrev pub missing_count : ℕ → ℕ → ℕ
missing_count vertices edges = vertices * (vertices - 1) / 2 - edges

-- The least that a term counts: all vertices, all edges and the pairs without an edge are known, a vertex has a
-- label, and of all else there may be nothing.
abbrev pub least_count : Term → ℕ → ℕ → ℕ
least_count (Vertices None) vertices edges = vertices
least_count (Edges None) vertices edges = edges
least_count Missing vertices edges = missing_count vertices edges
least_count Kinds vertices edges = min vertices 1
least_count _ vertices edges = 0

-- The most that a term counts: no more vertices or labels than there are vertices, and no more edges, also at one
-- vertex, than there are edges.
abbrev pub most_count : Term → ℕ → ℕ → ℕ
most_count (Vertices asked) vertices edges = vertices
most_count (Edges asked) vertices edges = edges
most_count (Joins l m) vertices edges = edges
most_count Kinds vertices edges = vertices
most_count Degree vertices edges = edges
most_count Missing vertices edges = missing_count vertices edges
most_count Least vertices edges = edges

-- what a sum comes to, where the terms count so
abbrev pub value_by : (Term → ℕ) → List Factor → ℕ
value_by count sum = sum_by (λ f. f.times * count f.term) sum

-- the least and the most that a sum comes to
abbrev pub least_value : List Factor → ℕ → ℕ → ℕ
least_value sum vertices edges = value_by (λ t. least_count t vertices edges) sum

abbrev pub most_value : List Factor → ℕ → ℕ → ℕ
most_value sum vertices edges = value_by (λ t. most_count t vertices edges) sum
