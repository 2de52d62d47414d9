-- The order of edges, what a new entry does to a graph, and that both ends of each edge stay in it.
use Rattle.std.proofs.Common.{◌≡◌, ◌≢◌, ℕ, Bool, true, false, not, eqb, IsTrue, refl, sym, ap, subst, ◌∙◌, cond, Option, None, Some, ◌⊎◌, ⊎_elim, min, max, arith}
use Rattle.std.specs.Option.{is_some}
use Rattle.std.specs.Ordering.{nat_cmp, eq_by_cmp, is_eq, ordering_then}
use Rattle.std.specs.Cmp.{nat_cmp_total}
use Rattle.std.specs.declared.cmp.Ordering.TheVariants.{Less, Equal, Greater}
use Rattle.std.specs.FinMap as map
use Rattle.std.proofs.lemmas.Bool.{and_parts, false≢true, not-true, or_parts}
use Rattle.std.proofs.lemmas.Bool.Decides.{nat_tests}
use Rattle.graph_types.specs.meaning.Graph.{Graph, has_vertex, edge_between, label_between, EdgesHaveEnds, HasEnds, empty_graph, with_vertex, with_edge, without_vertex, without_edge, ends_at, pair_cmp}
use Rattle.graph_types.specs.meaning.Orders.{pair_cmp_total}
use Rattle.shared_lemmas.proofs.FiniteMaps.{contains_key-insert, contains_key-inserted, contains_key-kept}

pub pair_cmp-IsAntisymmetric : map.IsAntisymmetric pair_cmp
pair_cmp-IsAntisymmetric e f tied =
    elim (nat_cmp e.0 f.0) as (λ r. nat_cmp e.0 f.0 ≡ r → ordering_then r (nat_cmp e.1 f.1) ≡ Equal → e ≡ f) [
      | Less ↦ λ _ t. cc
      | Equal ↦ λ low high i. (map.nat_cmp-IsAntisymmetric e.0 f.0 low i, map.nat_cmp-IsAntisymmetric e.1 f.1 high i)
      | Greater ↦ λ _ t. cc
    ] refl tied

-- a vertex that was put is there, and those that were there stay
pub has_vertex-with_vertex : (g : Graph) (v label : ℕ) → IsTrue (has_vertex (with_vertex g v label) v)
has_vertex-with_vertex g v label = contains_key-inserted nat_cmp_total g.labels v label

pub has_vertex-kept : (g : Graph) (v label w : ℕ) → IsTrue (has_vertex g w) → IsTrue (has_vertex (with_vertex g v label) w)
has_vertex-kept g v label w = contains_key-insert nat_cmp_total g.labels v label w

-- the edge between two vertices of the graph has both its ends
pub HasEnds-between : (g : Graph) (x y : ℕ) → IsTrue (has_vertex g x) → IsTrue (has_vertex g y) → HasEnds g (edge_between x y)
HasEnds-between g x y has_x has_y =
    let There : ℕ → Type 0 = λ v. IsTrue (has_vertex g v) in
    let low : (min x y ≡ x) ⊎ (min x y ≡ y) = grind arith in
    let high : (max x y ≡ x) ⊎ (max x y ≡ y) = grind arith in
    record {
      low = ⊎_elim (λ e. subst There (sym e) has_x) (λ e. subst There (sym e) has_y) low;
      high = ⊎_elim (λ e. subst There (sym e) has_x) (λ e. subst There (sym e) has_y) high;
    }

pub EdgesHaveEnds-empty_graph : EdgesHaveEnds empty_graph
EdgesHaveEnds-empty_graph e has =
    let none : is_some (map.get (map.empty {X = ℕ} {R = pair_cmp}) e) ≡ false = ap is_some (map.get-empty pair_cmp e) in
    absurd (cc)

pub EdgesHaveEnds-with_vertex : (g : Graph) (v label : ℕ) → EdgesHaveEnds g → EdgesHaveEnds (with_vertex g v label)
EdgesHaveEnds-with_vertex g v label ends e has = record {
  low = has_vertex-kept g v label e.0 (ends e has).low;
  high = has_vertex-kept g v label e.1 (ends e has).high;
}

HasEnds-with_edge : (g : Graph) (e : ℕ × ℕ) (label : ℕ) (f : ℕ × ℕ) → HasEnds g f → HasEnds (with_edge g e label) f
HasEnds-with_edge g e label f ends = record { low = ends.low; high = ends.high }

pub EdgesHaveEnds-with_edge : (g : Graph) (e : ℕ × ℕ) (label : ℕ) → HasEnds g e → EdgesHaveEnds g → EdgesHaveEnds (with_edge g e label)
EdgesHaveEnds-with_edge g e label own ends f has =
    elim (pair_cmp f e) as (λ r. pair_cmp f e ≡ r → IsTrue (is_some (cond (is_eq r) (Some label) (map.get g.edges f))) → HasEnds (with_edge g e label) f) [
      | Less ↦ λ _ h. HasEnds-with_edge g e label f (ends f h)
      | Equal ↦ λ tied _. HasEnds-with_edge g e label f (subst (HasEnds g) (sym (pair_cmp-IsAntisymmetric f e tied)) own)
      | Greater ↦ λ _ h. HasEnds-with_edge g e label f (ends f h)
    ] refl (subst (λ found. IsTrue (is_some found)) (map.get-insert pair_cmp_total g.edges e label f) has)

some_of_others : {X : Type 0} (b : Bool) (found : Option X) → IsTrue (is_some (cond b None found)) → (b ≡ false) × IsTrue (is_some found)
some_of_others true found h = absurd (false≢true h)
some_of_others false found h = (refl, h)

pub EdgesHaveEnds-without_edge : (g : Graph) (e : ℕ × ℕ) → EdgesHaveEnds g → EdgesHaveEnds (without_edge g e)
EdgesHaveEnds-without_edge g e ends f has =
    let had = some_of_others (eq_by_cmp pair_cmp f e) (map.get g.edges f) (ap is_some (sym (map.get-remove pair_cmp_total g.edges e f)) ∙ has) in
    record { low = (ends f had.1).low; high = (ends f had.1).high }

-- between two different vertices is the label of their edge
pub label-at : (g : Graph) (v w : ℕ) (e : ℕ × ℕ) → v ≢ w → e ≡ edge_between v w → map.get g.edges e ≡ label_between g v w
label-at g v w e apart is =
    let differ : eqb v w ≡ false = grind (arith, nat_tests) in
    ap (map.get g.edges) is ∙ ap (λ b. cond b None (map.get g.edges (edge_between v w))) (sym differ)

-- a vertex other than the one taken out stays
pub has_vertex-without_vertex : (g : Graph) (v w : ℕ) → eqb v w ≡ false → IsTrue (has_vertex g w) → IsTrue (has_vertex (without_vertex g v) w)
has_vertex-without_vertex g v w apart has =
    let other : eq_by_cmp nat_cmp w v ≡ false = grind (arith, nat_tests) in
    ap is_some (map.get-remove nat_cmp_total g.labels v w) ∙ ap (λ b. is_some (cond b None (map.get g.labels w))) other ∙ has

pub EdgesHaveEnds-without_vertex : (g : Graph) (v : ℕ) → EdgesHaveEnds g → EdgesHaveEnds (without_vertex g v)
EdgesHaveEnds-without_vertex g v ends e has =
    let stays : ℕ × ℕ → Bool = λ f. not (ends_at v f) in
    let had = and_parts (stays e) _ (sym (contains_key-kept pair_cmp-IsAntisymmetric g.edges stays e) ∙ has) in
    let apart = or_parts (eqb v e.0) (eqb v e.1) (not-true _ had.0) in
    record {
      low = has_vertex-without_vertex g v e.0 apart.0 (ends e had.1).low;
      high = has_vertex-without_vertex g v e.1 apart.1 (ends e had.1).high;
    }
