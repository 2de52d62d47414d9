-- What a change at both ends of an edge does to the undirected graph, and that each edge goes on to stand
-- at both its ends.
use Rattle.std.proofs.Common.{◌≡◌, ◌<◌, ℕ, Bool, true, false, not, ◌&&◌, ◌||◌, eqb, nat_lt, min, max, cond, IsTrue, List, filter, refl, sym, ap, subst, ◌∙◌, Option, None, Some, arith}
use Rattle.std.specs.Option.{is_some}
use Rattle.std.specs.Ordering.{nat_cmp}
use Rattle.std.specs.Cmp.{nat_cmp_total}
use Rattle.std.specs.FinMap as map
use Rattle.std.proofs.lemmas.Bool.{false≢true, eqb-true, ltb-true, lt-ltb, not-true, or_parts}
use Rattle.std.proofs.lemmas.Bool.Decides.{nat_tests}
use Rattle.graph_types.specs.meaning.Graph.{Graph, HasEnds, empty_graph, edge_between, has_vertex, has_edge, is_joined, ends_at, label_between, neighbours, pair_cmp, with_vertex, with_edge, without_vertex, without_edge}
use Rattle.graph_types.specs.storage.Adjacency.{IsUndirected, Lists, goes_up, undirected_graph, without_row, without_edges_to}
use Rattle.graph_types.specs.meaning.Simple.{IsSimple}
use Rattle.graph_types.specs.meaning.Orders.{pair_cmp_total}
use Rattle.graph_types.proofs.Graph.{has_vertex-kept, has_vertex-without_vertex, label-at, pair_cmp-IsAntisymmetric}
use Rattle.graph_types.proofs.Listing.{Lists-keys, Lists-alike, Lists-filter, same_list}
use Rattle.graph_types.proofs.Views.{none_from}
use Rattle.graph_types.proofs.RowChanges.{same_graph, edge-kept, edge-with_edge, edge-without_edge, without_no_edge}

-- an edge that is there may be had at its lower end
pub edge-up : (g : Graph) (x y : ℕ) → map.get (undirected_graph g).edges (x, y) ≡ cond (nat_lt x y) (map.get g.edges (x, y)) None
edge-up g x y = edge-kept g.edges goes_up (x, y)

pub edge-below : (g : Graph) (x y : ℕ) → x < y → map.get (undirected_graph g).edges (x, y) ≡ map.get g.edges (x, y)
edge-below g x y below = edge-up g x y ∙ ap (λ b. cond b (map.get g.edges (x, y)) None) (lt-ltb x y below)

-- only an edge that goes up is looked for, and it is none of those that go down
once : {A : Type 0} (up down this : Bool) (new old : Option A) → (this ≡ true → up ≡ true) → (up ≡ true → down ≡ false) → cond up (cond down new (cond this new old)) None ≡ cond this new (cond up old None)
once true down this new old is_up apart = ap (λ b. cond b new (cond this new old)) (apart refl)
once false down true new old is_up apart = absurd (false≢true (is_up refl))
once false down false new old is_up apart = refl

module _ (g : Graph) (x y : ℕ) (below : x < y) where
  this_up : (a b : ℕ) → (eqb a x && eqb b y) ≡ true → nat_lt a b ≡ true
  this_up a b e = grind (arith, nat_tests)

  not_down : (a b : ℕ) → nat_lt a b ≡ true → (eqb a y && eqb b x) ≡ false
  not_down a b e = grind (arith, nat_tests)

  pub put_both : (label : ℕ) → undirected_graph (with_edge (with_edge g (x, y) label) (y, x) label) ≡ with_edge (undirected_graph g) (x, y) label
  put_both label =
      same_graph _ _ (λ _. refl)
      (λ a b. edge-up (with_edge (with_edge g (x, y) label) (y, x) label) a b
      ∙ ap (λ o. cond (nat_lt a b) o None) (edge-with_edge (with_edge g (x, y) label) y x label a b ∙ ap (cond (eqb a y && eqb b x) (Some label)) (edge-with_edge g x y label a b))
      ∙ once (nat_lt a b) (eqb a y && eqb b x) (eqb a x && eqb b y) (Some label) (map.get g.edges (a, b)) (this_up a b) (not_down a b)
      ∙ sym (edge-with_edge (undirected_graph g) x y label a b ∙ ap (cond (eqb a x && eqb b y) (Some label)) (edge-up g a b)))

  pub take_both : undirected_graph (without_edge (without_edge g (x, y)) (y, x)) ≡ without_edge (undirected_graph g) (x, y)
  take_both =
      same_graph _ _ (λ _. refl)
      (λ a b. edge-up (without_edge (without_edge g (x, y)) (y, x)) a b
      ∙ ap (λ o. cond (nat_lt a b) o None) (edge-without_edge (without_edge g (x, y)) y x a b ∙ ap (cond (eqb a y && eqb b x) None) (edge-without_edge g x y a b))
      ∙ once (nat_lt a b) (eqb a y && eqb b x) (eqb a x && eqb b y) None (map.get g.edges (a, b)) (this_up a b) (not_down a b)
      ∙ sym (edge-without_edge (undirected_graph g) x y a b ∙ ap (cond (eqb a x && eqb b y) None) (edge-up g a b)))

either : {A : Type 0} (b : Bool) (x : A) → x ≡ cond b x x
either true x = refl
either false x = refl

and_turned : (a b : Bool) → (a && b) ≡ (b && a)
and_turned true true = refl
and_turned true false = refl
and_turned false true = refl
and_turned false false = refl

or_turned : (a b : Bool) → (a || b) ≡ (b || a)
or_turned true true = refl
or_turned true false = refl
or_turned false true = refl
or_turned false false = refl

in_turn : {A : Type 0} (a b : Bool) (new old : A) → cond a new (cond b new old) ≡ cond b new (cond a new old)
in_turn true b new old = either b new
in_turn false b new old = refl

-- h has `new` between x and y both ways, and what g has elsewhere
module _ (g h : Graph) (x y : ℕ) (new : Option ℕ) (is : (a b : ℕ) → map.get h.edges (a, b) ≡ cond (eqb a y && eqb b x) new (cond (eqb a x && eqb b y) new (map.get g.edges (a, b)))) where
  both_symmetric : ((a b : ℕ) → map.get g.edges (a, b) ≡ map.get g.edges (b, a)) → (a b : ℕ) → map.get h.edges (a, b) ≡ map.get h.edges (b, a)
  both_symmetric symmetric a b =
      is a b
      ∙ in_turn (eqb a y && eqb b x) (eqb a x && eqb b y) new _
      ∙ (λ i. cond (and_turned (eqb a x) (eqb b y) i) new (cond (and_turned (eqb a y) (eqb b x) i) new (symmetric a b i)))
      ∙ sym (is b a)

  both_no_loop : x < y → ((a : ℕ) → map.get g.edges (a, a) ≡ None) → (a : ℕ) → map.get h.edges (a, a) ≡ None
  both_no_loop below no_loop a =
      let first : (eqb a y && eqb a x) ≡ false = grind (arith, nat_tests) in
      let second : (eqb a x && eqb a y) ≡ false = grind (arith, nat_tests) in
      is a a ∙ (λ i. cond (first i) new (cond (second i) new (no_loop a i)))

  at_lower : (P : ℕ → Type 0) (a b : ℕ) → (IsTrue (is_some new) → P x × P y) → (IsTrue (is_some (map.get g.edges (a, b))) → P a) → IsTrue (is_some (cond (eqb a x && eqb b y) new (map.get g.edges (a, b)))) → P a
  at_lower P a b ends others =
      elim (eqb a x) as (λ s. eqb a x ≡ s → IsTrue (is_some (cond (s && eqb b y) new (map.get g.edges (a, b)))) → P a) [
        | true ↦ λ e. elim (eqb b y) as (λ t. IsTrue (is_some (cond t new (map.get g.edges (a, b)))) → P a) [
          | true ↦ λ there. subst P (sym (eqb-true a x e)) (ends there).0
          | false ↦ others
        ]
        | false ↦ λ _. others
      ] refl

  at_either : (P : ℕ → Type 0) (a b : ℕ) → (IsTrue (is_some new) → P x × P y) → (IsTrue (is_some (map.get g.edges (a, b))) → P a) → IsTrue (is_some (map.get h.edges (a, b))) → P a
  at_either P a b ends others has =
      elim (eqb a y) as (λ s. eqb a y ≡ s → IsTrue (is_some (cond (s && eqb b x) new (cond (eqb a x && eqb b y) new (map.get g.edges (a, b))))) → P a) [
        | true ↦ λ e. elim (eqb b x) as (λ t. IsTrue (is_some (cond t new (cond (eqb a x && eqb b y) new (map.get g.edges (a, b))))) → P a) [
          | true ↦ λ there. subst P (sym (eqb-true a y e)) (ends there).1
          | false ↦ at_lower P a b ends others
        ]
        | false ↦ λ _. at_lower P a b ends others
      ] refl (subst (λ o. IsTrue (is_some o)) (is a b) has)

pub IsUndirected-empty_graph : IsUndirected empty_graph
IsUndirected-empty_graph = record {
  symmetric = λ x y. map.get-empty pair_cmp (x, y) ∙ sym (map.get-empty pair_cmp (y, x));
  no_loop = λ x. map.get-empty pair_cmp (x, x);
  ends = λ x y has. absurd (false≢true (sym (ap is_some (map.get-empty pair_cmp (x, y))) ∙ has));
}

pub undirected-empty_graph : undirected_graph empty_graph ≡ empty_graph
undirected-empty_graph =
    same_graph _ _ (λ _. refl)
    (λ x y. edge-up empty_graph x y
    ∙ ap (λ o. cond (nat_lt x y) o None) (map.get-empty pair_cmp (x, y))
    ∙ sym (either (nat_lt x y) None)
    ∙ sym (map.get-empty pair_cmp (x, y)))

pub IsUndirected-with_vertex : (g : Graph) (v label : ℕ) → IsUndirected g → IsUndirected (with_vertex g v label)
IsUndirected-with_vertex g v label two = record {
  symmetric = two.symmetric;
  no_loop = two.no_loop;
  ends = λ x y has. has_vertex-kept g v label x (two.ends x y has);
}

shadowed : {A : Type 0} (b : Bool) (x y z : A) → cond b x (cond b y z) ≡ cond b x z
shadowed true x y z = refl
shadowed false x y z = refl

module _ (g : Graph) (x y : ℕ) (below : x < y) (two : IsUndirected g) where
  pub IsUndirected-put_both : (label : ℕ) → IsTrue (has_vertex g x) → IsTrue (has_vertex g y) → IsUndirected (with_edge (with_edge g (x, y) label) (y, x) label)
  IsUndirected-put_both label has_x has_y =
      let h = with_edge (with_edge g (x, y) label) (y, x) label in
      let is : (a b : ℕ) → map.get h.edges (a, b) ≡ cond (eqb a y && eqb b x) (Some label) (cond (eqb a x && eqb b y) (Some label) (map.get g.edges (a, b))) = λ a b.
      edge-with_edge (with_edge g (x, y) label) y x label a b ∙ ap (cond (eqb a y && eqb b x) (Some label)) (edge-with_edge g x y label a b) in
      record {
        symmetric = both_symmetric g h x y (Some label) is two.symmetric;
        no_loop = both_no_loop g h x y (Some label) is below two.no_loop;
        ends = λ a b. at_either g h x y (Some label) is (λ v. IsTrue (has_vertex g v)) a b (λ _. (has_x, has_y)) (two.ends a b);
      }

  pub IsUndirected-take_both : IsUndirected (without_edge (without_edge g (x, y)) (y, x))
  IsUndirected-take_both =
      let h = without_edge (without_edge g (x, y)) (y, x) in
      let is : (a b : ℕ) → map.get h.edges (a, b) ≡ cond (eqb a y && eqb b x) None (cond (eqb a x && eqb b y) None (map.get g.edges (a, b))) = λ a b.
      edge-without_edge (without_edge g (x, y)) y x a b ∙ ap (cond (eqb a y && eqb b x) None) (edge-without_edge g x y a b) in
      record {
        symmetric = both_symmetric g h x y None is two.symmetric;
        no_loop = both_no_loop g h x y None is below two.no_loop;
        ends = λ a b. at_either g h x y None is (λ v. IsTrue (has_vertex g v)) a b (λ none. absurd (false≢true none)) (two.ends a b);
      }

  -- the first half of an edge may be taken out again where the second half was new
  pub put_undone : (label : ℕ) → has_edge (with_edge g (x, y) label) (y, x) ≡ false → without_edge (with_edge g (x, y) label) (x, y) ≡ g
  put_undone label new =
      let apart : (eqb y x && eqb x y) ≡ false = grind (arith, nat_tests) in
      let none : map.get g.edges (x, y) ≡ None = none_from _ (ap is_some (two.symmetric x y ∙ sym (edge-with_edge g x y label y x ∙ ap (λ b. cond b (Some label) (map.get g.edges (y, x))) apart)) ∙ new) in
      same_graph _ _ (λ _. refl)
      (λ a b. edge-without_edge (with_edge g (x, y) label) x y a b
      ∙ ap (cond (eqb a x && eqb b y) None) (edge-with_edge g x y label a b)
      ∙ shadowed (eqb a x && eqb b y) None (Some label) (map.get g.edges (a, b))
      ∙ sym (edge-without_edge g x y a b)
      ∙ ap (λ k. map.get k.edges (a, b)) (without_no_edge g x y none))

none_left : {A : Type 0} (b : Bool) (o : Option A) → cond (not (is_some o)) (cond (not b) o None) None ≡ cond (not (b || true)) o None
none_left true None = refl
none_left true (Some x) = refl
none_left false None = refl
none_left false (Some x) = refl

either_order : {A : Type 0} (a b : Bool) (o : Option A) → cond a (cond b o None) None ≡ cond b (cond a o None) None
either_order true true o = refl
either_order true false o = refl
either_order false true o = refl
either_order false false o = refl

some_of_kept : {A : Type 0} (b : Bool) (o : Option A) → IsTrue (is_some (cond b o None)) → IsTrue b × IsTrue (is_some o)
some_of_kept true o h = (refl, h)
some_of_kept false o h = absurd (false≢true h)

some_and_kept : {A : Type 0} (b : Bool) (o : Option A) → (is_some o && b) ≡ is_some (cond b o None)
some_and_kept true None = refl
some_and_kept true (Some x) = refl
some_and_kept false None = refl
some_and_kept false (Some x) = refl

implied : (a b : Bool) → (b ≡ true → a ≡ true) → (a && b) ≡ b
implied true b h = refl
implied false true h = absurd (false≢true (h refl))
implied false false h = refl

ends_in_order : (v w : ℕ) → v < w → ◌≡◌ {A = ℕ × ℕ} (v, w) (edge_between v w)
ends_in_order v w below =
    let low : v ≡ min v w = grind arith in
    let high : w ≡ max v w = grind arith in
    λ i. (low i, high i)

ends_turned : (v w : ℕ) → w < v → ◌≡◌ {A = ℕ × ℕ} (w, v) (edge_between v w)
ends_turned v w below =
    let low : w ≡ min v w = grind arith in
    let high : v ≡ max v w = grind arith in
    λ i. (low i, high i)

-- a vertex goes with the edges from it and the edges to it
module _ (g : Graph) (v : ℕ) (near : map.FinMap nat_cmp ℕ) (two : IsUndirected g) (leads : (w : ℕ) → map.get near w ≡ map.get g.edges (v, w)) where
  edge_gone : (a b : ℕ) → map.get (without_edges_to (without_row g v) near v).edges (a, b) ≡ cond (not (ends_at v (a, b))) (map.get g.edges (a, b)) None
  edge_gone a b =
      let flipped : (u w : ℕ) → eqb u w ≡ eqb w u = λ u w. grind (arith, nat_tests) in
      edge-kept (without_row g v).edges (λ e. not (eqb e.1 v && map.contains_key near e.0)) (a, b)
      ∙ ap (λ o. cond (not (eqb b v && map.contains_key near a)) o None) (edge-kept g.edges (λ e. not (eqb e.0 v)) (a, b))
      ∙ elim (eqb b v) as (λ t. eqb b v ≡ t → cond (not (t && map.contains_key near a)) (cond (not (eqb a v)) (map.get g.edges (a, b)) None) None ≡ cond (not (eqb a v || t)) (map.get g.edges (a, b)) None) [
        | true ↦ λ e. ap (λ o. cond (not (is_some o)) (cond (not (eqb a v)) (map.get g.edges (a, b)) None) None) (leads a ∙ two.symmetric v a ∙ ap (λ w. map.get g.edges (a, w)) (sym (eqb-true b v e)))
            ∙ none_left (eqb a v) (map.get g.edges (a, b))
        | false ↦ λ _. ap (λ t. cond (not t) (map.get g.edges (a, b)) None) (sym (or_turned (eqb a v) false))
      ] refl
      ∙ (λ i. cond (not (flipped a v i || flipped b v i)) (map.get g.edges (a, b)) None)

  pub undirected-without_vertex : undirected_graph (without_edges_to (without_row g v) near v) ≡ without_vertex (undirected_graph g) v
  undirected-without_vertex =
      same_graph _ _ (λ _. refl)
      (λ a b. edge-up (without_edges_to (without_row g v) near v) a b
      ∙ ap (λ o. cond (nat_lt a b) o None) (edge_gone a b)
      ∙ either_order (nat_lt a b) (not (ends_at v (a, b))) (map.get g.edges (a, b))
      ∙ ap (λ o. cond (not (ends_at v (a, b))) o None) (sym (edge-up g a b))
      ∙ sym (edge-kept (undirected_graph g).edges (λ e. not (ends_at v e)) (a, b)))

  pub IsUndirected-without_vertex : IsUndirected (without_edges_to (without_row g v) near v)
  IsUndirected-without_vertex = record {
    symmetric = λ a b. edge_gone a b ∙ (λ i. cond (not (or_turned (eqb v a) (eqb v b) i)) (two.symmetric a b i) None) ∙ sym (edge_gone b a);
    no_loop = λ a. edge_gone a a ∙ ap (λ o. cond (not (ends_at v (a, a))) o None) (two.no_loop a) ∙ sym (either (not (ends_at v (a, a))) None);
    ends = λ a b has.
        let left = some_of_kept (not (ends_at v (a, b))) (map.get g.edges (a, b)) (sym (ap is_some (edge_gone a b)) ∙ has) in
        has_vertex-without_vertex g v a (or_parts (eqb v a) (eqb v b) (not-true _ left.0)).0 (two.ends a b left.1);
  }

-- both ends of an edge are there
pub HasEnds-undirected : (g : Graph) → IsUndirected g → (x y : ℕ) → IsTrue (has_edge g (x, y)) → HasEnds (undirected_graph g) (x, y)
HasEnds-undirected g two x y has = record { low = two.ends x y has; high = two.ends y x (sym (ap is_some (two.symmetric x y)) ∙ has) }

some_between : {A : Type 0} (b : Bool) (o : Option A) → is_some (cond b None o) ≡ (not b && is_some o)
some_between true o = refl
some_between false o = refl

-- the vertices to which the edges from v lead are its neighbours
module _ (g : Graph) (two : IsUndirected g) (v : ℕ) where
  pub labels-between : (w : ℕ) → map.get g.edges (v, w) ≡ label_between (undirected_graph g) v w
  labels-between w =
      elim (nat_lt v w) as (λ b. nat_lt v w ≡ b → map.get g.edges (v, w) ≡ label_between (undirected_graph g) v w) [
        | true ↦ λ e.
            let below : v < w = ltb-true v w e in
            sym (edge-below g v w below) ∙ label-at (undirected_graph g) v w (v, w) (λ same. omega arith) (ends_in_order v w below)
        | false ↦ λ e. elim (eqb v w) as (λ b. eqb v w ≡ b → map.get g.edges (v, w) ≡ label_between (undirected_graph g) v w) [
          | true ↦ λ same.
              ap (λ u. map.get g.edges (v, u)) (sym (eqb-true v w same))
              ∙ two.no_loop v
              ∙ ap (λ b. cond b None (map.get (undirected_graph g).edges (edge_between v w))) (sym same)
          | false ↦ λ apart.
              let below : w < v = grind (arith, nat_tests) in
              two.symmetric v w ∙ sym (edge-below g w v below) ∙ label-at (undirected_graph g) v w (w, v) (λ same. omega arith) (ends_turned v w below)
        ] refl
      ] refl

  joined : (w : ℕ) → has_edge g (v, w) ≡ is_joined (undirected_graph g) v w
  joined w = ap is_some (labels-between w) ∙ some_between (eqb v w) (map.get (undirected_graph g).edges (edge_between v w))

  pub Lists-neighbours : (ws : List ℕ) → Lists nat_cmp (λ w. has_edge g (v, w)) ws → ws ≡ neighbours (undirected_graph g) v
  Lists-neighbours ws lists =
      same_list nat_cmp_total map.nat_cmp-IsAntisymmetric (is_joined (undirected_graph g) v) _ _ (Lists-alike _ _ ws joined lists)
      (Lists-alike _ _ (neighbours (undirected_graph g) v) (λ w. implied _ _ (λ e. two.ends w v (sym (ap is_some (two.symmetric v w)) ∙ joined w ∙ e)))
      (Lists-filter nat_cmp_total map.nat_cmp-IsAntisymmetric g.labels (is_joined (undirected_graph g) v)))

-- the edges that go up are the edges, in order
pub keys-undirected : (g : Graph) → filter goes_up (map.keys g.edges) ≡ map.keys (undirected_graph g).edges
keys-undirected g =
    same_list pair_cmp_total pair_cmp-IsAntisymmetric (map.contains_key (undirected_graph g).edges) _ _
    (Lists-alike _ _ (filter goes_up (map.keys g.edges)) (λ e. some_and_kept (goes_up e) (map.get g.edges e) ∙ ap is_some (sym (edge-kept g.edges goes_up e)))
    (Lists-filter pair_cmp_total pair_cmp-IsAntisymmetric g.edges goes_up))
    (Lists-keys (undirected_graph g).edges)

-- an end that the undirected graph has is there
pub end_is_there : (g seen : Graph) (v end : ℕ) → undirected_graph g ≡ seen → v ≡ end → IsTrue (has_vertex seen end) → IsTrue (has_vertex g v)
end_is_there g seen v end is same has = subst (λ w. IsTrue (has_vertex g w)) (sym same) (subst (λ k. IsTrue (has_vertex k end)) (sym is) has)

pub IsSimple-undirected : (g : Graph) → IsUndirected g → IsSimple (undirected_graph g)
IsSimple-undirected g two =
    let kept = λ (e : ℕ × ℕ) (has : IsTrue (has_edge (undirected_graph g) e)). some_of_kept (nat_lt e.0 e.1) (map.get g.edges e) (ap is_some (sym (edge-up g e.0 e.1)) ∙ has) in
    record {
      ends = λ e has. HasEnds-undirected g two e.0 e.1 (kept e has).1;
      lower_first = λ e has. ltb-true e.0 e.1 (kept e has).0;
    }
