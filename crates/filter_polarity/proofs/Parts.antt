-- No rising term counts more in a part of a picture.
use Rattle.std.proofs.Common.{◌≡◌, ℕ, ◌≤◌, Bool, true, false, cond, not, ◌&&◌, ◌⊎◌, IsTrue, List, [], ◌∷◌, map, filter, min, max, Option, None, sym, ap, subst, ◌∙◌, ⊎_elim, arith, eqb}
use Rattle.std.specs.Cmp.{nat_cmp_total}
use Rattle.std.specs.FinMap as finite
use Rattle.std.specs.List.{All, count_by, list_any}
use Rattle.std.specs.Option.{option_map_or}
use Rattle.std.specs.Set.{distinct_count}
use Rattle.std.specs.Ordering.{nat_cmp, is_eq}
use Rattle.std.proofs.lemmas.Bool.{and_parts, and_from, false≢true, or_cases, or_left, or_right}
use Rattle.std.proofs.lemmas.Bool.Decides.{nat_tests}
use Rattle.std.proofs.lemmas.List.Elements.{All-head, All-tail}
use Rattle.graph_types.specs.meaning.Graph.{Graph, edge_between, edges_of, ends_at, has_edge, vertices_of}
use Rattle.graph_types.specs.meaning.Orders.{pair_cmp_total}
use Rattle.graph_types.specs.meaning.Piece.{IsOfMode}
use Rattle.graph_types.specs.declared.ids.Mode.{Mode}
use Rattle.graph_types.specs.declared.ids.Mode.TheVariants as mode
use Rattle.graph_types.specs.declared.member.Member.{Member}
use Rattle.graph_types.specs.declared.member.Member.TheVariants as member
use Rattle.graph_types.proofs.Graph.{pair_cmp-IsAntisymmetric}
use Rattle.mining_model.specs.meaning.Picture.{picture, touches, has_member, is_drawn}
use Rattle.mining_model.proofs.VertexPictures.{has_edge-picture}
use Rattle.conditions.specs.declared.condition.Term.{Term}
use Rattle.conditions.specs.declared.condition.Term.TheVariants.{Vertices, Edges, Joins, Kinds, Degree, Missing, Least}
use Rattle.conditions.specs.meaning.Counts.{term_count, vertex_degree, edge_labels, is_apart, is_asked, is_labelled, edge_joins, largest_of, item_pairs, vertex_labels}
use Rattle.filter_polarity.specs.meaning.Polarity.{is_rising_term}
use Rattle.conditions.proofs.Counting.{count_by-filter_le, count_by-map_filter_le, count_by-pairs_filter_le, distinct_count-map_filter_le, largest-filter_le}
use Rattle.shared_lemmas.proofs.FiniteMaps.{entries-retain_keys, get-kept, keys-retain_keys}

-- what a picture keeps of a graph

module _ (g : Graph) (members : List Member) where
  abbrev part : Graph
  part = picture g members

  abbrev touched : ℕ → Bool
  touched v = list_any (touches v) members

  vertices_of-picture : vertices_of part ≡ filter touched (vertices_of g)
  vertices_of-picture = keys-retain_keys nat_cmp_total finite.nat_cmp-IsAntisymmetric g.labels touched

  edges_of-picture : edges_of part ≡ filter (is_drawn members) (edges_of g)
  edges_of-picture = keys-retain_keys pair_cmp_total pair_cmp-IsAntisymmetric g.edges (is_drawn members)

  vertex_labels-picture : vertex_labels part ≡ map (λ e. e.1) (filter (λ e. touched e.0) (finite.entries g.labels))
  vertex_labels-picture = ap (map (λ e. e.1)) (entries-retain_keys nat_cmp_total finite.nat_cmp-IsAntisymmetric g.labels touched)

  edge_labels-picture : edge_labels part ≡ map (λ e. e.1) (filter (λ e. is_drawn members e.0) (finite.entries g.edges))
  edge_labels-picture = ap (map (λ e. e.1)) (entries-retain_keys pair_cmp_total pair_cmp-IsAntisymmetric g.edges (is_drawn members))

  labelled_before : (kept : Bool) (label : ℕ) (o : Option ℕ) → IsTrue (option_map_or (eqb label) (cond kept o None) false) → IsTrue (option_map_or (eqb label) o false)
  labelled_before true label o h = h
  labelled_before false label o h = absurd (false≢true h)

  is_labelled-picture : (label v : ℕ) → IsTrue (is_labelled part label v) → IsTrue (is_labelled g label v)
  is_labelled-picture label v h =
      let is = get-kept finite.nat_cmp-IsAntisymmetric g.labels touched v in
      labelled_before (touched v) label (finite.get g.labels v) (subst (λ o. IsTrue (option_map_or (eqb label) o false)) is h)

  both : (a b c d : ℕ) → IsTrue (is_labelled part a b && is_labelled part c d) → IsTrue (is_labelled g a b && is_labelled g c d)
  both a b c d h = let parts = and_parts _ _ h in and_from _ _ (is_labelled-picture a b parts.0) (is_labelled-picture c d parts.1)

  joins-picture : (l m : ℕ) (e : ℕ × ℕ) → IsTrue (edge_joins part l m e) → IsTrue (edge_joins g l m e)
  joins-picture l m e h =
      ⊎_elim (λ t. or_left _ _ (both l e.0 m e.1 t)) (λ t. or_right (is_labelled g l e.0 && is_labelled g m e.1) _ (both m e.0 l e.1 t)) (or_cases _ _ h)

  degree-picture : (v : ℕ) → vertex_degree part v ≤ vertex_degree g v
  degree-picture v = subst (λ es. count_by (ends_at v) es ≤ vertex_degree g v) (sym edges_of-picture)
      (count_by-filter_le (ends_at v) (ends_at v) (is_drawn members) (λ _ _ t. t) (edges_of g))

-- all edges between the vertices that a picture of vertices keeps

ties_itself : (v w : ℕ) → IsTrue (eqb v w) → IsTrue (is_eq (nat_cmp v w))
ties_itself v w e = grind (arith, nat_tests)

among_vertices : (members : List Member) (v : ℕ) → All (IsOfMode mode.Vertex) members → IsTrue (list_any (touches v) members) → IsTrue (has_member members (member.Vertex v))
among_vertices [] v all h = h
among_vertices (member.Vertex w ∷ members) v all h =
    ⊎_elim (λ e. or_left _ _ (ties_itself v w e))
    (λ t. or_right (is_eq (nat_cmp v w)) _ (among_vertices members v (All-tail (IsOfMode mode.Vertex) (member.Vertex w) members all) t)) (or_cases (eqb v w) _ h)
among_vertices (member.Edge e ∷ members) v all h = let other = All-head (IsOfMode mode.Vertex) (member.Edge e) members all in absurd (cc)

min_passes : (p : ℕ → Bool) (x y : ℕ) → IsTrue (p x) → IsTrue (p y) → IsTrue (p (min x y))
min_passes p x y at_x at_y =
    let is : (min x y ≡ x) ⊎ (min x y ≡ y) = grind arith in
    ⊎_elim (λ e. ap p e ∙ at_x) (λ e. ap p e ∙ at_y) is

max_passes : (p : ℕ → Bool) (x y : ℕ) → IsTrue (p x) → IsTrue (p y) → IsTrue (p (max x y))
max_passes p x y at_x at_y =
    let is : (max x y ≡ x) ⊎ (max x y ≡ y) = grind arith in
    ⊎_elim (λ e. ap p e ∙ at_x) (λ e. ap p e ∙ at_y) is

module _ (g : Graph) (members : List Member) (all : All (IsOfMode mode.Vertex) members) where
  is_apart-picture : (x y : ℕ) → IsTrue (touched g members x) → IsTrue (touched g members y) → is_apart (picture g members) (x, y) ≡ is_apart g (x, y)
  is_apart-picture x y at_x at_y =
      let among : (v : ℕ) → IsTrue (touched g members v) → IsTrue (has_member members (member.Vertex v)) = λ v. among_vertices members v all in
      let drawn : IsTrue (is_drawn members (edge_between x y)) =
      or_right (has_member members (member.Edge (edge_between x y))) _ (and_from _ _ (among (min x y) (min_passes (touched g members) x y at_x at_y)) (among (max x y) (max_passes (touched g members) x y at_x at_y))) in
      ap not (has_edge-picture g members (edge_between x y) ∙ ap (λ b. b && has_edge g (edge_between x y)) drawn)

  missing-picture : term_count Missing (picture g members) ≤ term_count Missing g
  missing-picture = subst (λ vs. count_by (is_apart (picture g members)) (item_pairs vs) ≤ term_count Missing g) (sym (vertices_of-picture g members))
      (count_by-pairs_filter_le (is_apart (picture g members)) (is_apart g) (touched g members) (λ x y at_x at_y t. sym (is_apart-picture x y at_x at_y) ∙ t) (vertices_of g))

-- each rising term

pub count-picture : (kind : Mode) (term : Term) (g : Graph) (members : List Member) → All (IsOfMode kind) members → IsTrue (is_rising_term kind term) → term_count term (picture g members) ≤ term_count term g
count-picture kind (Vertices asked) g members all rises =
    subst (λ ls. count_by (is_asked asked) ls ≤ term_count (Vertices asked) g) (sym (vertex_labels-picture g members)) (count_by-map_filter_le (λ e. e.1) (is_asked asked) (λ e. touched g members e.0) (finite.entries g.labels))
count-picture kind (Edges asked) g members all rises =
    subst (λ ls. count_by (is_asked asked) ls ≤ term_count (Edges asked) g) (sym (edge_labels-picture g members)) (count_by-map_filter_le (λ e. e.1) (is_asked asked) (λ e. is_drawn members e.0) (finite.entries g.edges))
count-picture kind (Joins l m) g members all rises =
    subst (λ es. count_by (edge_joins (picture g members) l m) es ≤ term_count (Joins l m) g) (sym (edges_of-picture g members))
    (count_by-filter_le (edge_joins (picture g members) l m) (edge_joins g l m) (is_drawn members) (λ e _ t. joins-picture g members l m e t) (edges_of g))
count-picture kind Kinds g members all rises =
    subst (λ ls. distinct_count eqb ls ≤ term_count Kinds g) (sym (vertex_labels-picture g members)) (distinct_count-map_filter_le (λ e. e.1) (λ e. touched g members e.0) (finite.entries g.labels))
count-picture kind Degree g members all rises =
    subst (λ vs. largest_of (map (vertex_degree (picture g members)) vs) ≤ term_count Degree g) (sym (vertices_of-picture g members))
    (largest-filter_le (vertex_degree (picture g members)) (vertex_degree g) (touched g members) (degree-picture g members) (vertices_of g))
count-picture mode.Vertex Missing g members all rises = missing-picture g members all
count-picture mode.Edge Missing g members all rises = absurd (false≢true rises)
count-picture kind Least g members all rises = absurd (false≢true rises)
