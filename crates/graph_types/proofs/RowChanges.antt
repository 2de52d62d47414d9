-- What a change of a row does to the directed graph that the rows store.
use Rattle.std.proofs.Common.{◌≡◌, ℕ, Bool, true, false, not, ◌&&◌, eqb, cond, IsTrue, refl, sym, ap, subst, ◌∙◌, Option, None, Some}
use Rattle.std.specs.Option.{is_some, option_map, option_and_then}
use Rattle.std.specs.Ordering.{nat_cmp}
use Rattle.std.specs.Cmp.{nat_cmp_total}
use Rattle.std.specs.FinMap as map
use Rattle.std.proofs.lemmas.Bool.{eqb-true}
use Rattle.graph_types.specs.declared.adjacency.Vertex.{Vertex}
use Rattle.graph_types.specs.meaning.Graph.{Graph, pair_cmp, with_vertex, with_edge, without_edge}
use Rattle.graph_types.specs.storage.Adjacency.{Rows, graph_of_rows, without_row, without_edges_to}
use Rattle.graph_types.specs.meaning.Orders.{pair_cmp_total}
use Rattle.graph_types.proofs.Graph.{pair_cmp-IsAntisymmetric}
use Rattle.graph_types.proofs.Rows.{nat-test, pair-test, get-labels, get-edges}

-- two graphs with the same look-ups are the same
pub same_graph : (g h : Graph) → ((v : ℕ) → map.get g.labels v ≡ map.get h.labels v) → ((x y : ℕ) → map.get g.edges (x, y) ≡ map.get h.edges (x, y)) → g ≡ h
same_graph g h labels edges =
    let same_labels = map.same_map nat_cmp_total map.nat_cmp-IsAntisymmetric g.labels h.labels labels in
    let same_edges = map.same_map pair_cmp_total pair_cmp-IsAntisymmetric g.edges h.edges (λ e. edges e.0 e.1) in
    λ i. record { labels = same_labels i; edges = same_edges i }

-- what a graph has after a change
pub label-with_vertex : (g : Graph) (v label x : ℕ) → map.get (with_vertex g v label).labels x ≡ cond (eqb x v) (Some label) (map.get g.labels x)
label-with_vertex g v label x = map.get-insert nat_cmp_total g.labels v label x ∙ ap (λ b. cond b (Some label) (map.get g.labels x)) (nat-test x v)

pub edge-with_edge : (g : Graph) (v w label x y : ℕ) → map.get (with_edge g (v, w) label).edges (x, y) ≡ cond (eqb x v && eqb y w) (Some label) (map.get g.edges (x, y))
edge-with_edge g v w label x y = map.get-insert pair_cmp_total g.edges (v, w) label (x, y) ∙ ap (λ b. cond b (Some label) (map.get g.edges (x, y))) (pair-test (x, y) (v, w))

pub edge-without_edge : (g : Graph) (v w x y : ℕ) → map.get (without_edge g (v, w)).edges (x, y) ≡ cond (eqb x v && eqb y w) None (map.get g.edges (x, y))
edge-without_edge g v w x y = map.get-remove pair_cmp_total g.edges (v, w) (x, y) ∙ ap (λ b. cond b None (map.get g.edges (x, y))) (pair-test (x, y) (v, w))

-- the edges that pass a test
pub edge-kept : (m : map.FinMap pair_cmp ℕ) (passes : ℕ × ℕ → Bool) (e : ℕ × ℕ) → map.get (map.retain_keys m passes) e ≡ cond (passes e) (map.get m e) None
edge-kept m passes e = map.get-retain_keys m passes e (λ f tied. ap passes (sym (pair_cmp-IsAntisymmetric e f tied)))

get-row : (rows : Rows) (v : ℕ) (row : Vertex) (x : ℕ) → map.get (map.insert rows v row) x ≡ cond (eqb x v) (Some row) (map.get rows x)
get-row rows v row x = map.get-insert nat_cmp_total rows v row x ∙ ap (λ b. cond b (Some row) (map.get rows x)) (nat-test x v)

module _ (rows : Rows) (v : ℕ) (row : Vertex) where
  labels-new : (x : ℕ) → map.get (graph_of_rows (map.insert rows v row)).labels x ≡ cond (eqb x v) (Some row.label) (map.get (graph_of_rows rows).labels x)
  labels-new x =
      get-labels (map.insert rows v row) x
      ∙ ap (option_map (λ r. r.label)) (get-row rows v row x)
      ∙ elim (eqb x v) as (λ b. option_map (λ r. r.label) (cond b (Some row) (map.get rows x)) ≡ cond b (Some row.label) (option_map (λ r. r.label) (map.get rows x))) [ true ↦ refl | false ↦ refl ]
      ∙ ap (cond (eqb x v) (Some row.label)) (sym (get-labels rows x))

  edges-new : (x y : ℕ) → map.get (graph_of_rows (map.insert rows v row)).edges (x, y) ≡ cond (eqb x v) (map.get row.near y) (map.get (graph_of_rows rows).edges (x, y))
  edges-new x y =
      get-edges (map.insert rows v row) x y
      ∙ ap (option_and_then (λ r. map.get r.near y)) (get-row rows v row x)
      ∙ elim (eqb x v) as (λ b. option_and_then (λ r. map.get r.near y) (cond b (Some row) (map.get rows x)) ≡ cond b (map.get row.near y) (option_and_then (λ r. map.get r.near y) (map.get rows x))) [ true ↦ refl | false ↦ refl ]
      ∙ ap (cond (eqb x v) (map.get row.near y)) (sym (get-edges rows x y))

-- what a test at v gives at x is of no matter where both answers are the same at v
as_before : {X : Type 0} (f : ℕ → X) (x v : ℕ) (at : X) → at ≡ f v → cond (eqb x v) at (f x) ≡ f x
as_before f x v at same =
    elim (eqb x v) as (λ b. eqb x v ≡ b → cond b at (f x) ≡ f x) [
      | true ↦ λ e. same ∙ ap f (sym (eqb-true x v e))
      | false ↦ λ _. refl
    ] refl

-- a row that leaves the edges as they were sets the label
pub graph-with_label : (rows : Rows) (v : ℕ) (row : Vertex) → ((y : ℕ) → map.get row.near y ≡ option_and_then (λ r. map.get r.near y) (map.get rows v)) → graph_of_rows (map.insert rows v row) ≡ with_vertex (graph_of_rows rows) v row.label
graph-with_label rows v row near =
    same_graph _ _ (λ x. labels-new rows v row x ∙ sym (label-with_vertex (graph_of_rows rows) v row.label x))
    (λ x y. edges-new rows v row x y ∙ as_before (λ u. map.get (graph_of_rows rows).edges (u, y)) x v _ (near y ∙ sym (get-edges rows v y)))

-- where the label stays, a row changes the edges from its vertex alone
module _ (rows : Rows) (v : ℕ) (row : Vertex) (was : map.get rows v ≡ Some row) (near : map.FinMap nat_cmp ℕ) where
  labels-kept : (x : ℕ) → map.get (graph_of_rows (map.insert rows v (record { label = row.label; near = near }))).labels x ≡ map.get (graph_of_rows rows).labels x
  labels-kept x =
      labels-new rows v (record { label = row.label; near = near }) x
      ∙ as_before (map.get (graph_of_rows rows).labels) x v (Some row.label) (ap (option_map (λ r. r.label)) (sym was) ∙ sym (get-labels rows v))

  row_has : (y : ℕ) → map.get row.near y ≡ map.get (graph_of_rows rows).edges (v, y)
  row_has y = ap (option_and_then (λ r. map.get r.near y)) (sym was) ∙ sym (get-edges rows v y)

  edges-kept : (x y : ℕ) (b : Bool) (z : Option ℕ) → map.get near y ≡ cond b z (map.get row.near y) → map.get (graph_of_rows (map.insert rows v (record { label = row.label; near = near }))).edges (x, y) ≡ cond (eqb x v && b) z (map.get (graph_of_rows rows).edges (x, y))
  edges-kept x y b z is =
      edges-new rows v (record { label = row.label; near = near }) x y
      ∙ elim (eqb x v) as (λ t. eqb x v ≡ t → cond t (map.get near y) (map.get (graph_of_rows rows).edges (x, y)) ≡ cond (t && b) z (map.get (graph_of_rows rows).edges (x, y))) [
        | true ↦ λ e. is ∙ ap (cond b z) (row_has y ∙ ap (λ u. map.get (graph_of_rows rows).edges (u, y)) (sym (eqb-true x v e)))
        | false ↦ λ _. refl
      ] refl

-- to put a row where it stands changes nothing
pub row-again : (rows : Rows) (v : ℕ) (row : Vertex) → map.get rows v ≡ Some row → map.insert rows v row ≡ rows
row-again rows v row was = map.same_map nat_cmp_total map.nat_cmp-IsAntisymmetric _ _ (λ x. get-row rows v row x ∙ as_before (map.get rows) x v (Some row) (sym was))

pub graph-with_edge : (rows : Rows) (v : ℕ) (row : Vertex) → map.get rows v ≡ Some row → (w label : ℕ) → graph_of_rows (map.insert rows v (record { label = row.label; near = map.insert row.near w label })) ≡ with_edge (graph_of_rows rows) (v, w) label
graph-with_edge rows v row was w label =
    let near = map.insert row.near w label in
    same_graph _ _ (labels-kept rows v row was near)
    (λ x y. edges-kept rows v row was near x y (eqb y w) (Some label) (map.get-insert nat_cmp_total row.near w label y ∙ ap (λ b. cond b (Some label) (map.get row.near y)) (nat-test y w))
    ∙ sym (edge-with_edge (graph_of_rows rows) v w label x y))

pub graph-without_edge : (rows : Rows) (v : ℕ) (row : Vertex) → map.get rows v ≡ Some row → (w : ℕ) → graph_of_rows (map.insert rows v (record { label = row.label; near = map.remove row.near w })) ≡ without_edge (graph_of_rows rows) (v, w)
graph-without_edge rows v row was w =
    let near = map.remove row.near w in
    same_graph _ _ (labels-kept rows v row was near)
    (λ x y. edges-kept rows v row was near x y (eqb y w) None (map.get-remove nat_cmp_total row.near w y ∙ ap (λ b. cond b None (map.get row.near y)) (nat-test y w))
    ∙ sym (edge-without_edge (graph_of_rows rows) v w x y))

-- an edge that isn't there is out already
pub without_no_edge : (g : Graph) (v w : ℕ) → map.get g.edges (v, w) ≡ None → without_edge g (v, w) ≡ g
without_no_edge g v w none =
    same_graph _ _ (λ _. refl)
    (λ x y. edge-without_edge g v w x y
    ∙ elim (eqb x v) as (λ b. eqb x v ≡ b → cond (b && eqb y w) None (map.get g.edges (x, y)) ≡ map.get g.edges (x, y)) [
      | true ↦ λ e. as_before (λ u. map.get g.edges (x, u)) y w None (sym none ∙ ap (λ u. map.get g.edges (u, w)) (sym (eqb-true x v e)))
      | false ↦ λ _. refl
    ] refl)

pub without_no_row : (rows : Rows) (v w : ℕ) → map.get rows v ≡ None → without_edge (graph_of_rows rows) (v, w) ≡ graph_of_rows rows
without_no_row rows v w none = without_no_edge (graph_of_rows rows) v w (get-edges rows v w ∙ ap (option_and_then (λ r. map.get r.near w)) none)

-- a row that goes takes its vertex and the edges from it
pub graph-without_row : (rows : Rows) (v : ℕ) → graph_of_rows (map.remove rows v) ≡ without_row (graph_of_rows rows) v
graph-without_row rows v =
    let left : (x : ℕ) → map.get (map.remove rows v) x ≡ cond (eqb x v) None (map.get rows x) = λ x. map.get-remove nat_cmp_total rows v x ∙ ap (λ b. cond b None (map.get rows x)) (nat-test x v) in
    same_graph _ _
    (λ x. get-labels (map.remove rows v) x
    ∙ ap (option_map (λ r. r.label)) (left x)
    ∙ elim (eqb x v) as (λ b. option_map (λ r. r.label) (cond b None (map.get rows x)) ≡ cond b None (option_map (λ r. r.label) (map.get rows x))) [ true ↦ refl | false ↦ refl ]
    ∙ ap (cond (eqb x v) None) (sym (get-labels rows x))
    ∙ sym (map.get-remove nat_cmp_total (graph_of_rows rows).labels v x ∙ ap (λ b. cond b None (map.get (graph_of_rows rows).labels x)) (nat-test x v)))
    (λ x y. get-edges (map.remove rows v) x y
    ∙ ap (option_and_then (λ r. map.get r.near y)) (left x)
    ∙ elim (eqb x v) as (λ b. option_and_then (λ r. map.get r.near y) (cond b None (map.get rows x)) ≡ cond (not b) (option_and_then (λ r. map.get r.near y) (map.get rows x)) None) [ true ↦ refl | false ↦ refl ]
    ∙ ap (λ o. cond (not (eqb x v)) o None) (sym (get-edges rows x y))
    ∙ sym (edge-kept (graph_of_rows rows).edges (λ e. not (eqb e.0 v)) (x, y)))

-- the edges to v may be taken out one by one
pub without_edges_to-next : (g : Graph) (sources : map.FinMap nat_cmp ℕ) (v u : ℕ) → IsTrue (map.contains_key sources u) → without_edges_to (without_edge g (u, v)) (map.remove sources u) v ≡ without_edges_to g sources v
without_edges_to-next g sources v u has =
    let rest : (x : ℕ) → map.contains_key (map.remove sources u) x ≡ is_some (cond (eqb x u) None (map.get sources x)) = λ x. ap is_some (map.get-remove nat_cmp_total sources u x ∙ ap (λ b. cond b None (map.get sources x)) (nat-test x u)) in
    same_graph _ _ (λ _. refl)
    (λ x y. edge-kept (without_edge g (u, v)).edges (λ e. not (eqb e.1 v && map.contains_key (map.remove sources u) e.0)) (x, y)
    ∙ (λ i. cond (not (eqb y v && rest x i)) (edge-without_edge g u v x y i) None)
    ∙ elim (eqb x u) as (λ b. eqb x u ≡ b → cond (not (eqb y v && is_some (cond b None (map.get sources x)))) (cond (b && eqb y v) None (map.get g.edges (x, y))) None ≡ cond (not (eqb y v && map.contains_key sources x)) (map.get g.edges (x, y)) None) [
      | true ↦ λ e.
          let there : map.contains_key sources x ≡ true = subst (λ w. IsTrue (map.contains_key sources w)) (sym (eqb-true x u e)) has in
          elim (eqb y v) as (λ t. cond (not (t && false)) (cond t None (map.get g.edges (x, y))) None ≡ cond (not (t && map.contains_key sources x)) (map.get g.edges (x, y)) None) [
            | true ↦ ap (λ b. cond (not b) (map.get g.edges (x, y)) None) (sym there)
            | false ↦ refl
          ]
      | false ↦ λ _. refl
    ] refl
    ∙ sym (edge-kept g.edges (λ e. not (eqb e.1 v && map.contains_key sources e.0)) (x, y)))

pub without_edges_to-none : (g : Graph) (v : ℕ) → without_edges_to g map.empty v ≡ g
without_edges_to-none g v =
    same_graph _ _ (λ _. refl)
    (λ x y. edge-kept g.edges (λ e. not (eqb e.1 v && map.contains_key (map.empty {X = ℕ} {R = nat_cmp}) e.0)) (x, y)
    ∙ ap (λ o. cond (not (eqb y v && is_some o)) (map.get g.edges (x, y)) None) (map.get-empty nat_cmp x)
    ∙ elim (eqb y v) as (λ b. cond (not (b && false)) (map.get g.edges (x, y)) None ≡ map.get g.edges (x, y)) [ true ↦ refl | false ↦ refl ])
