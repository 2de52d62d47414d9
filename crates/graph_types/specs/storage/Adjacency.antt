-- A directed labelled graph, seen as a `Graph` whose edges go from their first vertex to their second, and
-- the rows that store one.
use Rattle.std.specs.Prelude.{◌≡◌, ℕ, Bool, None, IsTrue, not, ◌&&◌, eqb, nat_lt, List, map}
use Rattle.std.specs.FinMap as map
use Rattle.std.specs.List.{flat_map}
use Rattle.std.specs.List.Sorted.{IsStrictlySortedBy}
use Rattle.std.specs.Ordering.{nat_cmp, eq_by_cmp}
use Rattle.std.specs.Set.{is_member}
use Rattle.std.specs.declared.cmp.Ordering.{Ordering}
use Rattle.graph_types.specs.declared.adjacency.Vertex.{Vertex}
use Rattle.graph_types.specs.meaning.Graph.{Graph, has_vertex, has_edge}

-- a row for each vertex
abbrev pub Rows : Type 0
Rows = map.FinMap nat_cmp Vertex

-- the edges from one vertex, with their labels
abbrev pub edges_from : ℕ × Vertex → List ((ℕ × ℕ) × ℕ)
edges_from row = map (λ n. ((row.0, n.0), n.1)) (map.entries row.1.near)

-- the directed graph that the rows store
abbrev pub graph_of_rows : Rows → Graph
graph_of_rows rows = record {
  labels = map.from_entries (map (λ row. (row.0, row.1.label)) (map.entries rows));
  edges = map.from_entries (flat_map edges_from (map.entries rows));
}

-- the list has what passes the test, each once, in the order
pub record Lists {K : Type 0} (cmp : K → K → Ordering) (passes : K → Bool) (ks : List K) : Type 0 where
  pub ascending : IsStrictlySortedBy cmp ks
  pub members : (k : K) → is_member (eq_by_cmp cmp) ks k ≡ passes k

-- the graph without a vertex and the edges from it; those to it stay
abbrev pub without_row : Graph → ℕ → Graph
without_row g v = record {
  labels = map.remove g.labels v;
  edges = map.retain_keys g.edges (λ e. not (eqb e.0 v));
}

-- the graph without the edges to v from the keys of `sources`
abbrev pub without_edges_to : Graph → map.FinMap nat_cmp ℕ → ℕ → Graph
without_edges_to g sources v = record {
  labels = g.labels;
  edges = map.retain_keys g.edges (λ e. not (eqb e.1 v && map.contains_key sources e.0));
}

-- the edge goes to the higher of its ends
abbrev pub goes_up : ℕ × ℕ → Bool
goes_up e = nat_lt e.0 e.1

-- the undirected graph, each of whose edges stands at its lower end
abbrev pub undirected_graph : Graph → Graph
undirected_graph g = record { labels = g.labels; edges = map.retain_keys g.edges goes_up }

-- each edge goes both ways under one label, between two different vertices that are there
pub record IsUndirected (g : Graph) : Type 0 where
  pub symmetric : (x y : ℕ) → map.get g.edges (x, y) ≡ map.get g.edges (y, x)
  pub no_loop : (x : ℕ) → map.get g.edges (x, x) ≡ None
  pub ends : (x y : ℕ) → IsTrue (has_edge g (x, y)) → IsTrue (has_vertex g x)
