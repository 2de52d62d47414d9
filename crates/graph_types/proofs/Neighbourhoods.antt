-- What a graph has at a vertex, by look-ups.
use Rattle.std.proofs.Common.{◌≡◌, ℕ, Bool, true, false, ◌||◌, eqb, cond, IsTrue, List, [], ◌∷◌, refl, sym, ap, subst, ◌∙◌, Option, None, Some, ◌⊎◌, ⊎_elim, min, max, arith}
use Rattle.std.specs.Borrow.{Bor}
use Rattle.std.specs.Cmp.{nat_cmp_total}
use Rattle.std.specs.FinMap as map
use Rattle.std.specs.List.{cons_option, filter_map, list_any}
use Rattle.std.specs.Option.{is_some, option_copied, option_map, option_and_then, option_or}
use Rattle.std.specs.Ordering.{nat_cmp, eq_by_cmp}
use Rattle.std.proofs.lemmas.Bool.{eqb-true}
use Rattle.graph_types.specs.declared.adjacency.Vertex.{Vertex}
use Rattle.graph_types.specs.meaning.Graph.{Graph, edge_between, has_vertex, label_between, vertices_of}
use Rattle.graph_types.specs.meaning.Neighbourhood.{Neighbourhood, neighbourhood_of}
use Rattle.graph_types.specs.meaning.Simple.{IsSimple}
use Rattle.graph_types.specs.storage.Adjacency.{IsUndirected, undirected_graph}
use Rattle.graph_types.specs.storage.Seen.{seen_at}
use Rattle.graph_types.proofs.Rows.{nat-test}
use Rattle.graph_types.proofs.Undirected.{IsSimple-undirected, labels-between}
use Rattle.graph_types.proofs.Views.{none_from}

pub seen-label : (o : Option (Bor Vertex)) → (seen_at o).label ≡ option_map (λ vertex. vertex.label) (option_copied o)
seen-label None = refl
seen-label (Some vertex) = refl

pub seen-near : (o : Option (Bor Vertex)) (w : ℕ) → map.get (seen_at o).near w ≡ option_and_then (λ vertex. map.get vertex.near w) (option_copied o)
seen-near None w = map.get-empty nat_cmp w
seen-near (Some vertex) w = refl

find-next : (w v : ℕ) (o : Option ℕ) (rest : List (ℕ × ℕ)) (b : Bool) → eq_by_cmp nat_cmp w v ≡ b →
    map.find nat_cmp w (cons_option (option_map (λ label. (v, label)) o) rest) ≡ cond b (option_or o (map.find nat_cmp w rest)) (map.find nat_cmp w rest)
find-next w v None rest true e = refl
find-next w v None rest false e = refl
find-next w v (Some label) rest true e = ap (λ b. cond b (Some label) (map.find nat_cmp w rest)) e
find-next w v (Some label) rest false e = ap (λ b. cond b (Some label) (map.find nat_cmp w rest)) e

once_or_twice : {A : Type 0} (o : Option A) (again : Bool) → option_or o (cond again o None) ≡ o
once_or_twice None true = refl
once_or_twice None false = refl
once_or_twice (Some x) again = refl

-- of those that a look-up knows, one that is listed has what it tells
pub find-known : (look : ℕ → Option ℕ) (w : ℕ) (vs : List ℕ) →
    map.find nat_cmp w (filter_map (λ v. option_map (λ label. (v, label)) (look v)) vs) ≡ cond (list_any (eq_by_cmp nat_cmp w) vs) (look w) None
find-known look w [] = refl
find-known look w (v ∷ vs) =
    let known : List ℕ → Option ℕ = λ us. map.find nat_cmp w (filter_map (λ u. option_map (λ label. (u, label)) (look u)) us) in
    find-next w v (look v) _ _ refl
    ∙ elim (eq_by_cmp nat_cmp w v) as (λ b. eq_by_cmp nat_cmp w v ≡ b → cond b (option_or (look v) (known vs)) (known vs) ≡ cond (b || list_any (eq_by_cmp nat_cmp w) vs) (look w) None) [
      | true ↦ λ e.
          (λ i. option_or (look (sym (eqb-true w v (sym (nat-test w v) ∙ e)) i)) (find-known look w vs i))
          ∙ once_or_twice (look w) (list_any (eq_by_cmp nat_cmp w) vs)
      | false ↦ λ _. find-known look w vs
    ] refl

-- where w isn't there, no edge leads to it
absent-unjoined : (g : Graph) → IsSimple g → (v w : ℕ) → has_vertex g w ≡ false → label_between g v w ≡ None
absent-unjoined g simple v w absent =
    elim (eqb v w) as (λ b. cond b None (map.get g.edges (edge_between v w)) ≡ None) [
      | true ↦ refl
      | false ↦ none_from _
          (elim (is_some (map.get g.edges (edge_between v w))) as (λ b. is_some (map.get g.edges (edge_between v w)) ≡ b → b ≡ false) [
            | true ↦ λ has.
                let ends = simple.ends (edge_between v w) has in
                let end : (min v w ≡ w) ⊎ (max v w ≡ w) = grind arith in
                sym (⊎_elim (λ e. subst (λ u. IsTrue (has_vertex g u)) e ends.low) (λ e. subst (λ u. IsTrue (has_vertex g u)) e ends.high) end) ∙ absent
            | false ↦ λ _. refl
          ] refl)
    ]

-- a neighbourhood has the labels of the edges of a simple graph
pub near-neighbourhood_of : (g : Graph) → IsSimple g → (v w : ℕ) → map.get (neighbourhood_of g v).near w ≡ label_between g v w
near-neighbourhood_of g simple v w =
    map.get-from_entries nat_cmp_total _ w
    ∙ find-known (label_between g v) w (vertices_of g)
    ∙ ap (λ b. cond b (label_between g v w) None) (sym (map.contains_key-keys g.labels w))
    ∙ elim (has_vertex g w) as (λ b. has_vertex g w ≡ b → cond b (label_between g v w) None ≡ label_between g v w) [
      | true ↦ λ _. refl
      | false ↦ λ absent. sym (absent-unjoined g simple v w absent)
    ] refl

-- what has the labels of a vertex and of the edges from it is its neighbourhood
pub seen-undirected : (g seen : Graph) → IsUndirected g → undirected_graph g ≡ seen → (v : ℕ) (at : Neighbourhood) →
    at.label ≡ map.get g.labels v → ((w : ℕ) → map.get at.near w ≡ map.get g.edges (v, w)) → at ≡ neighbourhood_of seen v
seen-undirected g seen two same v at label near =
    let alike = map.same_map nat_cmp_total map.nat_cmp-IsAntisymmetric at.near (neighbourhood_of (undirected_graph g) v).near
    (λ w. near w ∙ labels-between g two v w ∙ sym (near-neighbourhood_of (undirected_graph g) (IsSimple-undirected g two) v w)) in
    let there : at ≡ neighbourhood_of (undirected_graph g) v = λ i. record { label = label i; near = alike i } in
    there ∙ ap (λ k. neighbourhood_of k v) same
