-- Simple graphs.
use Rattle.std.specs.Prelude.{ℕ, ◌<◌, IsTrue}
use Rattle.graph_types.specs.meaning.Graph.{EdgesHaveEnds, Graph, has_edge}

-- each edge of the graph has both its ends, the lower one first
pub record IsSimple (g : Graph) : Type 0 where
  pub ends : EdgesHaveEnds g
  pub lower_first : (e : ℕ × ℕ) → IsTrue (has_edge g e) → e.0 < e.1
