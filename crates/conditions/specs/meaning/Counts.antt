-- What the terms of a condition count in a graph.
use Rattle.std.specs.Prelude.{ℕ, Bool, true, false, not, ◌&&◌, ◌||◌, eqb, List, [], ◌∷◌, ◌++◌, map, max, min, count_by, Option, None, Some}
use Rattle.std.specs.FinMap as finite
use Rattle.std.specs.Option.{option_map_or}
use Rattle.std.specs.Set.{distinct_count}
use Rattle.graph_types.specs.meaning.Graph.{Graph, edge_between, edges_of, ends_at, has_edge, vertices_of}
use Rattle.conditions.specs.declared.condition.Term.{Term}
use Rattle.conditions.specs.declared.condition.Term.TheVariants.{Vertices, Edges, Joins, Kinds, Degree, Missing, Least}

-- the label of each vertex, and the label of each edge
abbrev pub vertex_labels : Graph → List ℕ
vertex_labels g = finite.values g.labels

abbrev pub edge_labels : Graph → List ℕ
edge_labels g = finite.values g.edges

-- the label is the one asked for; where none is asked for, each is
abbrev pub is_asked : Option ℕ → ℕ → Bool
is_asked None label = true
is_asked (Some asked) label = eqb asked label

-- a vertex has this label
abbrev pub is_labelled : Graph → ℕ → ℕ → Bool
is_labelled g label v = option_map_or (eqb label) (finite.get g.labels v) false

-- one end of the edge has one label, and the other end the other
abbrev pub edge_joins : Graph → ℕ → ℕ → ℕ × ℕ → Bool
edge_joins g l m e = (is_labelled g l e.0 && is_labelled g m e.1) || (is_labelled g m e.0 && is_labelled g l e.1)

-- how many edges end at a vertex
abbrev pub vertex_degree : Graph → ℕ → ℕ
vertex_degree g v = count_by (ends_at v) (edges_of g)

-- the largest of some numbers, and the least of them; of none, 0
abbrev pub largest_of : List ℕ → ℕ
largest_of [] = 0
largest_of (n ∷ ns) = max n (largest_of ns)

abbrev pub least_of : List ℕ → ℕ
least_of [] = 0
least_of (n ∷ []) = n
least_of (n ∷ k ∷ ns) = min n (least_of (k ∷ ns))

-- all pairs of an item of a list and one after it
abbrev pub item_pairs : List ℕ → List (ℕ × ℕ)
item_pairs [] = []
item_pairs (x ∷ xs) = map (λ y. (x, y)) xs ++ item_pairs xs

-- no edge is between the two
abbrev pub is_apart : Graph → ℕ × ℕ → Bool
is_apart g p = not (has_edge g (edge_between p.0 p.1))

-- what a term counts
abbrev pub term_count : Term → Graph → ℕ
term_count (Vertices asked) g = count_by (is_asked asked) (vertex_labels g)
term_count (Edges asked) g = count_by (is_asked asked) (edge_labels g)
term_count (Joins l m) g = count_by (edge_joins g l m) (edges_of g)
term_count Kinds g = distinct_count eqb (vertex_labels g)
term_count Degree g = largest_of (map (vertex_degree g) (vertices_of g))
term_count Missing g = count_by (is_apart g) (item_pairs (vertices_of g))
term_count Least g = least_of (map (vertex_degree g) (vertices_of g))
