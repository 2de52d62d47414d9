-- The edges that rows store, in order.
use Rattle.std.proofs.Common.{◌≡◌, ℕ, List, [], ◌∷◌, ◌++◌, map, filter, refl, sym, ap, subst, ◌∙◌}
use Rattle.std.specs.List.{AllByRecursion, flat_map}
use Rattle.std.specs.List.Sorted.{IsStrictlySortedBy}
use Rattle.std.specs.Map.{keys_of}
use Rattle.std.specs.Ordering.{nat_cmp, ordering_then}
use Rattle.std.specs.Cmp.{nat_cmp_total, tied_itself}
use Rattle.std.specs.declared.cmp.Ordering.TheVariants.{Less}
use Rattle.std.specs.FinMap as map
use Rattle.std.proofs.lemmas.List.{map-append}
use Rattle.std.proofs.lemmas.List.Elements.{filter-append}
use Rattle.graph_types.specs.declared.adjacency.Vertex.{Vertex}
use Rattle.graph_types.specs.meaning.Graph.{pair_cmp}
use Rattle.graph_types.specs.storage.Adjacency.{Rows, edges_from, graph_of_rows, goes_up}
use Rattle.graph_types.specs.meaning.Orders.{pair_cmp_total}
use Rattle.graph_types.proofs.Views.{keys-seen}
use Rattle.shared_lemmas.proofs.Ascending.{IsStrictlySortedBy-append}
use Rattle.shared_lemmas.proofs.Claims.{all-append}
use Rattle.shared_lemmas.proofs.FiniteMaps.{keys_rise}

-- the edges from v to each of ws
abbrev pairs : ℕ → List ℕ → List (ℕ × ℕ)
pairs v ws = map (λ w. (v, w)) ws

keys-edges : (v : ℕ) (ns : List (ℕ × ℕ)) → keys_of (map (λ n. ((v, n.0), n.1)) ns) ≡ pairs v (keys_of ns)
keys-edges v [] = refl
keys-edges v (n ∷ ns) = ap (λ es. (v, n.0) ∷ es) (keys-edges v ns)

above_first : (v w : ℕ) (us : List ℕ) → AllByRecursion (λ u. nat_cmp w u ≡ Less) us → AllByRecursion (λ e. pair_cmp (v, w) e ≡ Less) (pairs v us)
above_first v w [] h = tt
above_first v w (u ∷ us) h = (ap (λ r. ordering_then r (nat_cmp w u)) (tied_itself nat_cmp_total v) ∙ h.0, above_first v w us h.1)

pairs_rise : (v : ℕ) (ws : List ℕ) → IsStrictlySortedBy nat_cmp ws → IsStrictlySortedBy pair_cmp (pairs v ws)
unfolding IsStrictlySortedBy
pairs_rise v [] h = tt
pairs_rise v (w ∷ ws) h = (above_first v w ws h.0, pairs_rise v ws h.1)

above_pairs : (v w u : ℕ) → nat_cmp v u ≡ Less → (us : List ℕ) → AllByRecursion (λ e. pair_cmp (v, w) e ≡ Less) (pairs u us)
above_pairs v w u below [] = tt
above_pairs v w u below (x ∷ us) = (ap (λ r. ordering_then r (nat_cmp w x)) below, above_pairs v w u below us)

-- the edges from each vertex of the rows, in turn
edges_of : List (ℕ × Vertex) → List (ℕ × ℕ)
edges_of [] = []
edges_of (row ∷ rows) = pairs row.0 (map.keys row.1.near) ++ edges_of rows

keys-edges_of : (rows : List (ℕ × Vertex)) → keys_of (flat_map edges_from rows) ≡ edges_of rows
unfolding edges_of
keys-edges_of [] = refl
keys-edges_of (row ∷ rows) =
    map-append (λ e. e.0) (edges_from row) (flat_map edges_from rows)
    ∙ (λ i. keys-edges row.0 (map.entries row.1.near) i ++ keys-edges_of rows i)

above_edges_of : (v w : ℕ) (rows : List (ℕ × Vertex)) → AllByRecursion (λ u. nat_cmp v u ≡ Less) (keys_of rows) → AllByRecursion (λ e. pair_cmp (v, w) e ≡ Less) (edges_of rows)
unfolding edges_of
above_edges_of v w [] h = tt
above_edges_of v w (row ∷ rows) h = all-append _ (pairs row.0 (map.keys row.1.near)) (edges_of rows) (above_pairs v w row.0 h.0 (map.keys row.1.near)) (above_edges_of v w rows h.1)

each_below : (v : ℕ) (ws : List ℕ) (rows : List (ℕ × Vertex)) → AllByRecursion (λ u. nat_cmp v u ≡ Less) (keys_of rows) → AllByRecursion (λ d. AllByRecursion (λ e. pair_cmp d e ≡ Less) (edges_of rows)) (pairs v ws)
each_below v [] rows h = tt
each_below v (w ∷ ws) rows h = (above_edges_of v w rows h, each_below v ws rows h)

edges_rise : (rows : List (ℕ × Vertex)) → IsStrictlySortedBy nat_cmp (keys_of rows) → IsStrictlySortedBy pair_cmp (edges_of rows)
unfolding edges_of IsStrictlySortedBy
edges_rise [] sorted = tt
edges_rise (row ∷ rows) sorted =
    IsStrictlySortedBy-append pair_cmp (pairs row.0 (map.keys row.1.near)) (edges_of rows) (pairs_rise row.0 (map.keys row.1.near) (keys_rise row.1.near)) (edges_rise rows sorted.1) (each_below row.0 (map.keys row.1.near) rows sorted.0)

up_edges_of : (rows : List (ℕ × Vertex)) → flat_map (λ row. filter goes_up (map (λ w. (row.0, w)) (map.keys row.1.near))) rows ≡ filter goes_up (edges_of rows)
unfolding edges_of
up_edges_of [] = refl
up_edges_of (row ∷ rows) =
    ap (λ es. filter goes_up (pairs row.0 (map.keys row.1.near)) ++ es) (up_edges_of rows)
    ∙ sym (filter-append goes_up (pairs row.0 (map.keys row.1.near)) (edges_of rows))

-- the edges to a higher vertex, from each row in turn
pub keys-up : (rows : Rows) → flat_map (λ row. filter goes_up (map (λ w. (row.0, w)) (map.keys row.1.near))) (map.entries rows) ≡ filter goes_up (map.keys (graph_of_rows rows).edges)
keys-up rows =
    let stored = keys-edges_of (map.entries rows) in
    up_edges_of (map.entries rows)
    ∙ ap (filter goes_up) (sym stored ∙ sym (keys-seen pair_cmp_total _ (subst (IsStrictlySortedBy pair_cmp) (sym stored) (edges_rise (map.entries rows) (keys_rise rows)))))
