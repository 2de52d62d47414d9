-- What is known of a vertex, seen as its neighbourhood.
use Rattle.std.specs.Prelude.{Option, Some, None}
use Rattle.std.specs.Borrow.{Bor}
use Rattle.std.specs.FinMap as map
use Rattle.graph_types.specs.declared.adjacency.Vertex.{Vertex}
use Rattle.graph_types.specs.meaning.Neighbourhood.{Neighbourhood}

abbrev pub seen_at : Option (Bor Vertex) → Neighbourhood
seen_at None = record { label = None; near = map.empty }
seen_at (Some vertex) = record { label = Some vertex.now.label; near = vertex.now.near }
