-- A labelled graph, as two finite maps.
use Rattle.std.specs.Prelude.{ℕ, Bool, IsTrue, not, ◌&&◌, ◌||◌, eqb, if◌then◌else◌, List, filter, min, max, Option, None, refl}
use Rattle.std.specs.Coded.{Coded, code_by, coded×, coded_ℕ}
use Rattle.std.specs.FinMap as map
use Rattle.std.specs.Ordering.{nat_cmp, ordering_then}
use Rattle.std.specs.declared.cmp.Ordering.{Ordering}

-- edges are ordered by their lower ends, and then by their higher ones
abbrev pub pair_cmp : ℕ × ℕ → ℕ × ℕ → Ordering
pair_cmp e f = ordering_then (nat_cmp e.0 f.0) (nat_cmp e.1 f.1)

-- the labels of the vertices, and the labels of the edges, each named by its lower end and its higher one
pub record Graph : Type 0 where
  pub labels : map.FinMap nat_cmp ℕ
  pub edges : map.FinMap pair_cmp ℕ

-- the graph that has nothing
abbrev pub empty_graph : Graph
empty_graph = record { labels = map.empty; edges = map.empty }

-- the edge between two vertices, as its lower end and its higher one
abbrev pub edge_between : ℕ → ℕ → ℕ × ℕ
edge_between x y = (min x y, max x y)

-- the vertices, and the edges, ascending
abbrev pub vertices_of : Graph → List ℕ
vertices_of g = map.keys g.labels

abbrev pub edges_of : Graph → List (ℕ × ℕ)
edges_of g = map.keys g.edges

abbrev pub has_vertex : Graph → ℕ → Bool
has_vertex g v = map.contains_key g.labels v

abbrev pub has_edge : Graph → ℕ × ℕ → Bool
has_edge g e = map.contains_key g.edges e

-- both ends of an edge are vertices of the graph
pub record HasEnds (g : Graph) (e : ℕ × ℕ) : Type 0 where
  pub low : IsTrue (has_vertex g e.0)
  pub high : IsTrue (has_vertex g e.1)

-- each edge of the graph has both its ends
abbrev pub EdgesHaveEnds : Graph → Type 0
EdgesHaveEnds g = (e : ℕ × ℕ) → IsTrue (has_edge g e) → HasEnds g e

-- the graph with these labels of vertices and of edges
abbrev pub graph_of : List (ℕ × ℕ) → List ((ℕ × ℕ) × ℕ) → Graph
graph_of labels edges = record { labels = map.from_entries labels; edges = map.from_entries edges }

abbrev pub with_vertex : Graph → ℕ → ℕ → Graph
with_vertex g v label = record { labels = map.insert g.labels v label; edges = g.edges }

abbrev pub with_edge : Graph → ℕ × ℕ → ℕ → Graph
with_edge g e label = record { labels = g.labels; edges = map.insert g.edges e label }

-- the graph without an edge
abbrev pub without_edge : Graph → ℕ × ℕ → Graph
without_edge g e = record { labels = g.labels; edges = map.remove g.edges e }

-- the edge ends at the vertex
abbrev pub ends_at : ℕ → ℕ × ℕ → Bool
ends_at v e = eqb v e.0 || eqb v e.1

-- the graph without a vertex and the edges that end there
abbrev pub without_vertex : Graph → ℕ → Graph
without_vertex g v = record {
  labels = map.remove g.labels v;
  edges = map.retain_keys g.edges (λ e. not (ends_at v e));
}

-- the graph has an edge from one vertex to another
abbrev pub is_joined : Graph → ℕ → ℕ → Bool
is_joined g v w = not (eqb v w) && has_edge g (edge_between v w)

-- the label of the edge between two vertices, if one joins them
abbrev pub label_between : Graph → ℕ → ℕ → Option ℕ
label_between g v w = if eqb v w then None else map.get g.edges (edge_between v w)

-- the vertices that an edge joins with v, ascending
abbrev pub neighbours : Graph → ℕ → List ℕ
neighbours g v = filter (is_joined g v) (map.keys g.labels)

-- a graph is stored as the pair of its maps
abbrev pub graph_code : Coded Graph
graph_code = code_by (map.FinMap nat_cmp ℕ × map.FinMap pair_cmp ℕ)
    (coded× (map.code coded_ℕ coded_ℕ) (map.code (coded× coded_ℕ coded_ℕ) coded_ℕ))
    (λ g. (g.labels, g.edges)) (λ p. record { labels = p.0; edges = p.1 }) (λ _. refl)
