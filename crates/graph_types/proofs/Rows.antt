-- What the directed graph that rows store has at a vertex and at an edge, and its edges in order.
use Rattle.std.proofs.Common.{◌≡◌, ℕ, Bool, true, false, ◌&&◌, eqb, cond, List, [], ◌∷◌, map, refl, sym, ap, subst, ◌∙◌, Option, None, Some}
use Rattle.std.specs.List.{AllByRecursion, flat_map}
use Rattle.std.specs.List.Sorted.{IsStrictlySortedBy}
use Rattle.std.specs.Map.{keys_of}
use Rattle.std.specs.Option.{option_or, option_map, option_and_then}
use Rattle.std.specs.Ordering.{nat_cmp, eq_by_cmp}
use Rattle.std.specs.Cmp.{nat_cmp_total, tied_then}
use Rattle.std.specs.declared.cmp.Ordering.TheVariants.{Less}
use Rattle.std.specs.FinMap as map
use Rattle.std.proofs.lemmas.Bool.{eqb-true}
use Rattle.std.proofs.lemmas.Map.Keys.{sorted_head, sorted_tail}
use Rattle.std.proofs.lemmas.Map.Made.{keys_of-map_values}
use Rattle.graph_types.specs.declared.adjacency.Vertex.{Vertex}
use Rattle.graph_types.specs.meaning.Graph.{pair_cmp, empty_graph}
use Rattle.graph_types.specs.storage.Adjacency.{Rows, edges_from, graph_of_rows}
use Rattle.graph_types.specs.meaning.Orders.{pair_cmp_total}
use Rattle.graph_types.proofs.Views.{entries-seen, keys-seen}
use Rattle.shared_lemmas.proofs.FiniteMaps.{keys_rise}
pub use Rattle.shared_lemmas.proofs.OrderedMaps.{find-append, find-below}
pub use Rattle.shared_lemmas.proofs.Orderings.{nat-test}

-- two pairs of numbers tie where they are equal
pub pair-test : (e f : ℕ × ℕ) → eq_by_cmp pair_cmp e f ≡ (eqb e.0 f.0 && eqb e.1 f.1)
pair-test e f = sym (tied_then _ _) ∙ (λ i. nat-test e.0 f.0 i && nat-test e.1 f.1 i)

either : {A : Type 0} (b : Bool) (x : A) → x ≡ cond b x x
either true x = refl
either false x = refl

find-edges_from : (x y v : ℕ) (ns : List (ℕ × ℕ)) → map.find pair_cmp (x, y) (map (λ n. ((v, n.0), n.1)) ns) ≡ cond (eqb x v) (map.find nat_cmp y ns) None
find-edges_from x y v [] = either (eqb x v) _
find-edges_from x y v (n ∷ ns) =
    ap (λ b. cond b (Some n.1) (map.find pair_cmp (x, y) (map (λ n. ((v, n.0), n.1)) ns))) (pair-test (x, y) (v, n.0))
    ∙ ap (cond (eqb x v && eqb y n.0) (Some n.1)) (find-edges_from x y v ns)
    ∙ elim (eqb x v) as (λ b. cond (b && eqb y n.0) (Some n.1) (cond b (map.find nat_cmp y ns) None) ≡ cond b (map.find nat_cmp y (n ∷ ns)) None) [
      | true ↦ ap (λ b. cond b (Some n.1) (map.find nat_cmp y ns)) (sym (nat-test y n.0))
      | false ↦ refl
    ]

or_none : {X : Type 0} (o : Option X) → option_or o None ≡ o
or_none None = refl
or_none (Some x) = refl

find-edges : (x y : ℕ) (rows : List (ℕ × Vertex)) → IsStrictlySortedBy nat_cmp (keys_of rows) → map.find pair_cmp (x, y) (flat_map edges_from rows) ≡ option_and_then (λ row. map.get row.near y) (map.find nat_cmp x rows)
find-edges x y [] sorted = refl
find-edges x y (row ∷ rows) sorted =
    let rest = find-edges x y rows (sorted_tail nat_cmp _ _ sorted) in
    let others : x ≡ row.0 → map.find nat_cmp x rows ≡ None = λ e. find-below nat_cmp x rows (subst (λ v. AllByRecursion (λ w. nat_cmp v w ≡ Less) (keys_of rows)) (sym e) (sorted_head nat_cmp _ _ sorted)) in
    find-append pair_cmp (x, y) (edges_from row) (flat_map edges_from rows)
    ∙ (λ i. option_or (find-edges_from x y row.0 (map.entries row.1.near) i) (rest i))
    ∙ elim (eqb x row.0) as (λ b. eqb x row.0 ≡ b → option_or (cond b (map.find nat_cmp y (map.entries row.1.near)) None) (option_and_then (λ row. map.get row.near y) (map.find nat_cmp x rows)) ≡ option_and_then (λ row. map.get row.near y) (cond b (Some row.1) (map.find nat_cmp x rows))) [
      | true ↦ λ e.
          ap (λ o. option_or (map.find nat_cmp y (map.entries row.1.near)) (option_and_then (λ row. map.get row.near y) o)) (others (eqb-true _ _ e))
          ∙ or_none _
          ∙ sym (map.get-entries row.1.near y)
      | false ↦ λ _. refl
    ] refl
    ∙ ap (λ b. option_and_then (λ row. map.get row.near y) (cond b (Some row.1) (map.find nat_cmp x rows))) (sym (nat-test x row.0))

find-labels : (x : ℕ) (rows : List (ℕ × Vertex)) → map.find nat_cmp x (map (λ row. (row.0, row.1.label)) rows) ≡ option_map (λ row. row.label) (map.find nat_cmp x rows)
find-labels x [] = refl
find-labels x (row ∷ rows) =
    elim (eq_by_cmp nat_cmp x row.0) as (λ b. cond b (Some row.1.label) (map.find nat_cmp x (map (λ row. (row.0, row.1.label)) rows)) ≡ option_map (λ row. row.label) (cond b (Some row.1) (map.find nat_cmp x rows))) [ true ↦ refl | false ↦ find-labels x rows ]

-- the label of a vertex stands in its row
pub get-labels : (rows : Rows) (x : ℕ) → map.get (graph_of_rows rows).labels x ≡ option_map (λ row. row.label) (map.get rows x)
get-labels rows x =
    map.get-from_entries nat_cmp_total _ x
    ∙ find-labels x (map.entries rows)
    ∙ ap (option_map (λ row. row.label)) (sym (map.get-entries rows x))

-- the label of an edge stands in the row of the vertex that it comes from
pub get-edges : (rows : Rows) (x y : ℕ) → map.get (graph_of_rows rows).edges (x, y) ≡ option_and_then (λ row. map.get row.near y) (map.get rows x)
get-edges rows x y =
    map.get-from_entries pair_cmp_total _ (x, y)
    ∙ find-edges x y (map.entries rows) (keys_rise rows)
    ∙ ap (option_and_then (λ row. map.get row.near y)) (sym (map.get-entries rows x))

-- no rows store the graph that has nothing
pub graph-no_rows : graph_of_rows map.empty ≡ empty_graph
unfolding IsStrictlySortedBy
graph-no_rows = ap (λ (rows : List (ℕ × Vertex)). record { labels = map.from_entries (map (λ row. (row.0, row.1.label)) rows); edges = map.from_entries (flat_map edges_from rows) }) (entries-seen nat_cmp_total [] tt)

-- the vertices, in order
pub keys-labels : (rows : Rows) → map.keys (graph_of_rows rows).labels ≡ map.keys rows
keys-labels rows =
    let same = keys_of-map_values (λ row. row.label) (map.entries rows) in
    keys-seen nat_cmp_total _ (subst (IsStrictlySortedBy nat_cmp) (sym same) (keys_rise rows)) ∙ same
