-- A step keeps a graph simple.
use Rattle.std.proofs.Common.{◌≡◌, ◌≢◌, ◌<◌, ℕ, Bool, true, false, not, cond, if◌then◌else◌, eqb, IsTrue, min, max, Option, None, Some, Result, Ok, Err, refl, sym, subst, ◌∙◌, arith}
use Rattle.std.specs.FinMap as finite
use Rattle.std.specs.Option.{is_some}
use Rattle.std.specs.Ordering.{eq_by_cmp, is_eq}
use Rattle.std.specs.declared.cmp.Ordering.TheVariants.{Less, Equal, Greater}
use Rattle.std.proofs.lemmas.Bool.{false≢true, and_parts}
use Rattle.std.proofs.lemmas.Bool.Decides.{nat_tests}
use Rattle.graph_types.specs.declared.update.Update.{Update}
use Rattle.graph_types.specs.declared.update.Update.TheVariants.{AddVertex, RemoveVertex, LabelVertex, AddEdge, RemoveEdge, LabelEdge}
use Rattle.graph_types.specs.meaning.Graph.{Graph, HasEnds, edge_between, ends_at, has_edge, has_vertex, pair_cmp, with_vertex, with_edge, without_edge, without_vertex}
use Rattle.graph_types.specs.meaning.Orders.{pair_cmp_total}
use Rattle.graph_types.specs.meaning.Simple.{IsSimple}
use Rattle.graph_types.proofs.Graph.{EdgesHaveEnds-with_edge, EdgesHaveEnds-without_edge, EdgesHaveEnds-without_vertex, HasEnds-between, has_vertex-kept, pair_cmp-IsAntisymmetric}
use Rattle.graph_types.specs.declared.refusal.Refusal.{Refusal}
use Rattle.graph_types.specs.declared.refusal.Refusal.TheVariants as refusal
use Rattle.mining_model.specs.meaning.Step.{add_edge, remove_edge, label_edge, at_edge, graph_after, graph_left_by}
use Rattle.shared_lemmas.proofs.FiniteMaps.{contains_key-kept}

IsSimple-with_vertex : (g : Graph) (v label : ℕ) → IsSimple g → IsSimple (with_vertex g v label)
IsSimple-with_vertex g v label simple = record {
  ends = λ e has. record { low = has_vertex-kept g v label e.0 (simple.ends e has).low; high = has_vertex-kept g v label e.1 (simple.ends e has).high };
  lower_first = simple.lower_first;
}

IsSimple-with_edge : (g : Graph) (e : ℕ × ℕ) (label : ℕ) → HasEnds g e → e.0 < e.1 → IsSimple g → IsSimple (with_edge g e label)
IsSimple-with_edge g e label own below simple = record {
  ends = EdgesHaveEnds-with_edge g e label own simple.ends;
  lower_first = λ f has.
      elim (pair_cmp f e) as (λ r. pair_cmp f e ≡ r → IsTrue (is_some (cond (is_eq r) (Some label) (finite.get g.edges f))) → f.0 < f.1) [
        | Less ↦ λ _ h. simple.lower_first f h
        | Equal ↦ λ tied _. let same = pair_cmp-IsAntisymmetric f e tied in subst (λ (x : ℕ × ℕ). x.0 < x.1) (sym same) below
        | Greater ↦ λ _ h. simple.lower_first f h
      ] refl (subst (λ found. IsTrue (is_some found)) (finite.get-insert pair_cmp_total g.edges e label f) has);
}

left : (b : Bool) (o : Option ℕ) → IsTrue (is_some (cond b None o)) → IsTrue (is_some o)
left true o h = absurd (false≢true h)
left false o h = h

IsSimple-without_edge : (g : Graph) (e : ℕ × ℕ) → IsSimple g → IsSimple (without_edge g e)
IsSimple-without_edge g e simple = record {
  ends = EdgesHaveEnds-without_edge g e simple.ends;
  lower_first = λ f has. simple.lower_first f (left (eq_by_cmp pair_cmp f e) (finite.get g.edges f) (subst (λ found. IsTrue (is_some found)) (finite.get-remove pair_cmp_total g.edges e f) has));
}

IsSimple-without_vertex : (g : Graph) (v : ℕ) → IsSimple g → IsSimple (without_vertex g v)
IsSimple-without_vertex g v simple = record {
  ends = EdgesHaveEnds-without_vertex g v simple.ends;
  lower_first = λ f has. simple.lower_first f (and_parts (not (ends_at v f)) _ (sym (contains_key-kept pair_cmp-IsAntisymmetric g.edges (λ e. not (ends_at v e)) f) ∙ has)).1;
}

module _ (g : Graph) (simple : IsSimple g) where
  if_refused : (b : Bool) (why : Refusal) (h : Graph) → IsSimple h → IsSimple (graph_left_by g (if b then Err why else Ok h))
  if_refused true why h new = simple
  if_refused false why h new = new

  if_accepted : (b : Bool) (why : Refusal) (h : Graph) → IsSimple h → IsSimple (graph_left_by g (if b then Ok h else Err why))
  if_accepted true why h new = new
  if_accepted false why h new = simple

  between_rises : (x y : ℕ) → eqb x y ≡ false → min x y < max x y
  between_rises x y apart = let ne : x ≢ y = grind (arith, nat_tests) in omega arith

  IsSimple-at_edge : (from to : ℕ) (update : ℕ × ℕ → Result Graph Refusal) → ((e : ℕ × ℕ) → HasEnds g e → e.0 < e.1 → IsSimple (graph_left_by g (update e))) → IsSimple (graph_left_by g (at_edge g from to update))
  IsSimple-at_edge from to update each =
      elim (eqb from to) as (λ b. eqb from to ≡ b → IsSimple (graph_left_by g (if b then Err refusal.Loop else (if not (has_vertex g from) then Err (refusal.NoVertex from) else (if not (has_vertex g to) then Err (refusal.NoVertex to) else update (edge_between from to)))))) [
        | true ↦ λ _. simple
        | false ↦ λ apart. elim (has_vertex g from) as (λ b. has_vertex g from ≡ b → IsSimple (graph_left_by g (if not b then Err (refusal.NoVertex from) else (if not (has_vertex g to) then Err (refusal.NoVertex to) else update (edge_between from to))))) [
          | false ↦ λ _. simple
          | true ↦ λ first. elim (has_vertex g to) as (λ b. has_vertex g to ≡ b → IsSimple (graph_left_by g (if not b then Err (refusal.NoVertex to) else update (edge_between from to)))) [
            | false ↦ λ _. simple
            | true ↦ λ second. each (edge_between from to) (HasEnds-between g from to first second) (between_rises from to apart)
          ] refl
        ] refl
      ] refl

  pub IsSimple-graph_after : (u : Update) → IsSimple (graph_after g u)
  IsSimple-graph_after (AddVertex id label) = if_refused (has_vertex g id) _ (with_vertex g id label) (IsSimple-with_vertex g id label simple)
  IsSimple-graph_after (RemoveVertex id) = if_accepted (has_vertex g id) _ (without_vertex g id) (IsSimple-without_vertex g id simple)
  IsSimple-graph_after (LabelVertex id label) = if_accepted (has_vertex g id) _ (with_vertex g id label) (IsSimple-with_vertex g id label simple)
  IsSimple-graph_after (AddEdge from to label) = IsSimple-at_edge from to (add_edge g label) (λ e own below. if_refused (has_edge g e) refusal.EdgeExists (with_edge g e label) (IsSimple-with_edge g e label own below simple))
  IsSimple-graph_after (RemoveEdge from to) = IsSimple-at_edge from to (remove_edge g) (λ e own below. if_accepted (has_edge g e) refusal.NoEdge (without_edge g e) (IsSimple-without_edge g e simple))
  IsSimple-graph_after (LabelEdge from to label) = IsSimple-at_edge from to (label_edge g label) (λ e own below. if_accepted (has_edge g e) refusal.NoEdge (with_edge g e label) (IsSimple-with_edge g e label own below simple))
