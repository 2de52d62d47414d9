-- What a term counts lies between its bounds.
use Rattle.std.proofs.Common.{◌≡◌, ◌≤◌, ℕ, true, false, cond, min, List, [], ◌∷◌, length, map, refl, None, Some, eqb, count_by, arith}
use Rattle.std.specs.FinMap as finite
use Rattle.std.specs.Set.{distinct_count, is_member, unique_keys}
use Rattle.std.proofs.lemmas.List.{length-map}
use Rattle.std.proofs.lemmas.List.Sums.{count_by-le-length, sum_by-cons}
use Rattle.std.proofs.lemmas.Map.Made.{distinct_count-le}
use Rattle.graph_types.specs.meaning.Graph.{Graph, edges_of, ends_at, vertices_of}
use Rattle.graph_types.specs.meaning.Simple.{IsSimple}
use Rattle.conditions.specs.declared.condition.Term.{Term}
use Rattle.conditions.specs.declared.condition.Term.TheVariants.{Vertices, Edges, Joins, Kinds, Degree, Missing, Least}
use Rattle.conditions.specs.meaning.Counts.{term_count, edge_joins, edge_labels, is_asked, largest_of, least_of, vertex_degree, vertex_labels}
use Rattle.conditions.proofs.MissingPairs.{missing_and_edges}
use Rattle.shape_bounds.specs.meaning.Bounds.{least_count, most_count}

every : (ns : List ℕ) → count_by (λ _. true) ns ≡ length ns
every [] = refl
every (n ∷ ns) = let rest = every ns in omega (arith, rest, sum_by-cons (λ (k : ℕ). 1) n ns)

-- a list that has a number has at least one different number
some_different : (n : ℕ) (ns : List ℕ) → 1 ≤ distinct_count eqb (n ∷ ns)
some_different n [] = omega arith
some_different n (k ∷ ns) =
    elim (is_member eqb (k ∷ ns) n) as (λ b. 1 ≤ length (cond b (unique_keys eqb (k ∷ ns)) (n ∷ unique_keys eqb (k ∷ ns)))) [
      | true ↦ some_different k ns
      | false ↦ omega arith
    ]

different-le : (ns : List ℕ) → min (length ns) 1 ≤ distinct_count eqb ns
different-le [] = omega arith
different-le (n ∷ ns) = let one = some_different n ns in omega (arith, one)

module _ (f : ℕ → ℕ) (most : ℕ) (within : (n : ℕ) → f n ≤ most) where
  largest-le : (ns : List ℕ) → largest_of (map f ns) ≤ most
  largest-le [] = omega arith
  largest-le (n ∷ ns) = let here = within n in let rest = largest-le ns in omega (arith, here, rest)

  least-le : (ns : List ℕ) → least_of (map f ns) ≤ most
  least-le [] = omega arith
  least-le (n ∷ []) = within n
  least-le (n ∷ k ∷ ns) = let here = within n in omega (arith, here)

module _ (g : Graph) where
  labels_of_vertices : length (vertex_labels g) ≡ length (vertices_of g)
  labels_of_vertices =
      let labels = length-map (finite.entries g.labels) (λ (e : ℕ × ℕ). e.1) in
      let keys = length-map (finite.entries g.labels) (λ (e : ℕ × ℕ). e.0) in
      omega (arith, labels, keys)

  labels_of_edges : length (edge_labels g) ≡ length (edges_of g)
  labels_of_edges =
      let labels = length-map (finite.entries g.edges) (λ (e : (ℕ × ℕ) × ℕ). e.1) in
      let keys = length-map (finite.entries g.edges) (λ (e : (ℕ × ℕ) × ℕ). e.0) in
      omega (arith, labels, keys)

  degree-le : (v : ℕ) → vertex_degree g v ≤ length (edges_of g)
  degree-le v = count_by-le-length (ends_at v) (edges_of g)

  pub all_vertices : term_count (Vertices None) g ≡ length (vertices_of g)
  all_vertices = let all = every (vertex_labels g) in omega (arith, all, labels_of_vertices)

  pub all_edges : term_count (Edges None) g ≡ length (edges_of g)
  all_edges = let all = every (edge_labels g) in omega (arith, all, labels_of_edges)

  pub least_count-le : IsSimple g → (term : Term) → least_count term (length (vertices_of g)) (length (edges_of g)) ≤ term_count term g
  least_count-le simple (Vertices None) = omega (arith, all_vertices)
  least_count-le simple (Vertices (Some label)) = omega arith
  least_count-le simple (Edges None) = omega (arith, all_edges)
  least_count-le simple (Edges (Some label)) = omega arith
  least_count-le simple (Joins l m) = omega arith
  least_count-le simple Kinds = let some = different-le (vertex_labels g) in omega (arith, some, labels_of_vertices)
  least_count-le simple Degree = omega arith
  least_count-le simple Missing = omega (arith, missing_and_edges g simple)
  least_count-le simple Least = omega arith

  pub most_count-le : IsSimple g → (term : Term) → term_count term g ≤ most_count term (length (vertices_of g)) (length (edges_of g))
  most_count-le simple (Vertices asked) = let few = count_by-le-length (is_asked asked) (vertex_labels g) in omega (arith, few, labels_of_vertices)
  most_count-le simple (Edges asked) = let few = count_by-le-length (is_asked asked) (edge_labels g) in omega (arith, few, labels_of_edges)
  most_count-le simple (Joins l m) = count_by-le-length (edge_joins g l m) (edges_of g)
  most_count-le simple Kinds = let few = distinct_count-le eqb (vertex_labels g) in omega (arith, few, labels_of_vertices)
  most_count-le simple Degree = largest-le (vertex_degree g) (length (edges_of g)) degree-le (vertices_of g)
  most_count-le simple Missing = omega (arith, missing_and_edges g simple)
  most_count-le simple Least = least-le (vertex_degree g) (length (edges_of g)) degree-le (vertices_of g)
