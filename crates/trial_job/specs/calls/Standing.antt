-- Which vertices a graph has.
use Rattle.std.specs.Prelude.{ℕ, ◌≤◌, IsTrue}
use Rattle.graph_types.specs.meaning.Graph.{Graph, has_vertex}

-- The graph has the vertices 1 to n.
abbrev pub HasVertices : ℕ → Graph → Type 0
HasVertices n g = (v : ℕ) → 1 ≤ v → v ≤ n → IsTrue (has_vertex g v)
