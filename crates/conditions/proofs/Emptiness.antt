-- In a graph that has nothing each term counts 0.
use Rattle.std.proofs.Common.{◌≡◌, ℕ, List, [], map, ap, eqb}
use Rattle.std.specs.FinMap as finite
use Rattle.std.specs.List.{count_by}
use Rattle.std.specs.Ordering.{nat_cmp}
use Rattle.std.specs.Set.{distinct_count}
use Rattle.graph_types.specs.meaning.Graph.{empty_graph, pair_cmp}
use Rattle.conditions.specs.declared.condition.Term.{Term}
use Rattle.conditions.specs.declared.condition.Term.TheVariants.{Vertices, Edges, Joins, Kinds, Degree, Missing, Least}
use Rattle.conditions.specs.meaning.Counts.{term_count, vertex_degree, is_apart, is_asked, edge_joins, largest_of, least_of, item_pairs}
use Rattle.shared_lemmas.proofs.FiniteMaps.{entries-empty}

abbrev no_vertices : finite.entries empty_graph.labels ≡ []
no_vertices = entries-empty nat_cmp

abbrev no_edges : finite.entries empty_graph.edges ≡ []
no_edges = entries-empty pair_cmp

pub count-empty : (term : Term) → term_count term empty_graph ≡ 0
count-empty (Vertices asked) = ap (λ (es : List (ℕ × ℕ)). count_by (is_asked asked) (map (λ e. e.1) es)) no_vertices
count-empty (Edges asked) = ap (λ (es : List ((ℕ × ℕ) × ℕ)). count_by (is_asked asked) (map (λ e. e.1) es)) no_edges
count-empty (Joins l m) = ap (λ (es : List ((ℕ × ℕ) × ℕ)). count_by (edge_joins empty_graph l m) (map (λ e. e.0) es)) no_edges
count-empty Kinds = ap (λ (es : List (ℕ × ℕ)). distinct_count eqb (map (λ e. e.1) es)) no_vertices
count-empty Degree = ap (λ (es : List (ℕ × ℕ)). largest_of (map (vertex_degree empty_graph) (map (λ e. e.0) es))) no_vertices
count-empty Missing = ap (λ (es : List (ℕ × ℕ)). count_by (is_apart empty_graph) (item_pairs (map (λ e. e.0) es))) no_vertices
count-empty Least = ap (λ (es : List (ℕ × ℕ)). least_of (map (vertex_degree empty_graph) (map (λ e. e.0) es))) no_vertices
