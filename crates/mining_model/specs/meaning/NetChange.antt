-- The net change of two graphs: what differs between them.
use Rattle.std.specs.Prelude.{ℕ, Bool, not, ◌&&◌, eqb, List, ◌++◌, filter}
use Rattle.std.specs.FinMap as map
use Rattle.std.specs.Option.{option_eq}
use Rattle.std.specs.declared.cmp.Ordering.{Ordering}
use Rattle.graph_types.specs.meaning.Graph.{Graph}
use Rattle.graph_types.specs.declared.net.Net.{Net}

-- the vertex has different labels in the two graphs, or is in one of them alone
abbrev pub vertex_differs : Graph → Graph → ℕ → Bool
vertex_differs before after v = not (option_eq eqb (map.get before.labels v) (map.get after.labels v))

-- the edge has different labels in the two graphs, or is in one of them alone
abbrev pub edge_differs : Graph → Graph → ℕ × ℕ → Bool
edge_differs before after e = not (option_eq eqb (map.get before.edges e) (map.get after.edges e))

-- neither end of the edge differs
abbrev pub ends_are_same : Graph → Graph → ℕ × ℕ → Bool
ends_are_same before after e = not (vertex_differs before after e.0) && not (vertex_differs before after e.1)

-- the keys of either map, in order
abbrev pub keys_of_either : {K X : Type 0} {R : K → K → Ordering} → map.FinMap R X → map.FinMap R X → List K
keys_of_either {R = R} m n = map.keys (map.from_entries {R = R} (map.entries m ++ map.entries n))

-- the vertices that differ, ascending
abbrev pub changed_vertices : Graph → Graph → List ℕ
changed_vertices before after = filter (vertex_differs before after) (keys_of_either before.labels after.labels)

-- the edges that differ although their ends don't, ascending
abbrev pub changed_edges : Graph → Graph → List (ℕ × ℕ)
changed_edges before after = filter (λ e. edge_differs before after e && ends_are_same before after e) (keys_of_either before.edges after.edges)

-- All that differs, told once: an edge that differs together with one of its ends is told by that end.
abbrev pub net_change : Graph → Graph → Net
net_change before after = record { vertices = changed_vertices before after; edges = changed_edges before after }
