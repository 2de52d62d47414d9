-- The graphs that updates lead to.
use Rattle.std.proofs.Common.{◌≡◌, ◌≢◌, ℕ, ◌^◌, ◌<◌, Bool, true, false, cond, not, eqb, IsTrue, List, [], ◌∷◌, Option, None, Some, All, refl, sym, ap, subst, ◌∙◌, arith, if◌then◌else◌}
use Rattle.std.specs.FinMap as finite
use Rattle.std.specs.List.{AllByRecursion}
use Rattle.std.specs.Option.{is_some}
use Rattle.std.specs.Ordering.{nat_cmp, eq_by_cmp}
use Rattle.std.specs.Cmp.{nat_cmp_total}
use Rattle.std.specs.Prelude.{Result, Ok, Err}
use Rattle.std.proofs.lemmas.Bool.{and_parts, true≢false, false≢true, eqb-false}
use Rattle.std.proofs.lemmas.List.Elements.{All-cons, All-head, All-nil, All-tail, recursion_from_All}
use Rattle.graph_types.specs.meaning.Graph.{Graph, HasEnds, edge_between, empty_graph, ends_at, has_edge, has_vertex, pair_cmp, with_edge, with_vertex, without_edge, without_vertex}
use Rattle.graph_types.specs.meaning.Orders.{pair_cmp_total}
use Rattle.graph_types.specs.declared.update.Update.{Update}
use Rattle.graph_types.specs.declared.update.Update.TheVariants.{AddVertex, RemoveVertex, LabelVertex, AddEdge, RemoveEdge, LabelEdge}
use Rattle.graph_types.proofs.Graph.{pair_cmp-IsAntisymmetric, EdgesHaveEnds-empty_graph, EdgesHaveEnds-with_vertex, EdgesHaveEnds-with_edge, EdgesHaveEnds-without_edge, EdgesHaveEnds-without_vertex, HasEnds-between}
use Rattle.graph_types.specs.declared.refusal.Refusal.{Refusal}
use Rattle.graph_types.specs.declared.refusal.Refusal.TheVariants as refusal
use Rattle.mining_model.specs.meaning.Step.{add_edge, graph_after, graph_after_all, at_edge, label_edge, graph_left_by, remove_edge}
use Rattle.mining_model.specs.meaning.History.{AddsShortId, Group, history}
use Rattle.snapshot_fold.specs.meaning.Records.{IsRecordable}
use Rattle.shared_lemmas.proofs.FiniteMaps.{contains_key-kept}
use Rattle.shared_lemmas.proofs.Orderings.{same_item}

pub IsRecordable-empty_graph : IsRecordable empty_graph
IsRecordable-empty_graph = record {
  simple = record {
    ends = EdgesHaveEnds-empty_graph;
    lower_first = λ e has. absurd (true≢false (sym has ∙ ap is_some (finite.get-empty {X = ℕ} pair_cmp e)));
  };
  short_ids = λ v has. absurd (true≢false (sym has ∙ ap is_some (finite.get-empty {X = ℕ} nat_cmp v)));
}

-- what was found is what was put, or was there before
put_or_there : {X : Type 0} (P : Type 0) (b : Bool) (x : X) (found : Option X) → (b ≡ true → P) → (is_some found ≡ true → P) → is_some (cond b (Some x) found) ≡ true → P
put_or_there P true x found put there has = put refl
put_or_there P false x found put there has = there has

not_taken : {X : Type 0} (b : Bool) (found : Option X) → is_some (cond b None found) ≡ true → is_some found ≡ true
not_taken true found has = absurd (false≢true has)
not_taken false found has = has

module _ (g : Graph) (can : IsRecordable g) where
  IsRecordable-with_vertex : (v label : ℕ) → v < 2 ^ 32 → IsRecordable (with_vertex g v label)
  IsRecordable-with_vertex v label fits = record {
    simple = record { ends = EdgesHaveEnds-with_vertex g v label can.simple.ends; lower_first = can.simple.lower_first };
    short_ids = λ w has.
        put_or_there (w < 2 ^ 32) (eq_by_cmp nat_cmp w v) label (finite.get g.labels w)
        (λ tied. subst (λ x. x < 2 ^ 32) (sym (same_item finite.nat_cmp-IsAntisymmetric w v tied)) fits)
        (can.short_ids w) (ap is_some (sym (finite.get-insert nat_cmp_total g.labels v label w)) ∙ has);
  }

  IsRecordable-with_edge : (e : ℕ × ℕ) (label : ℕ) → HasEnds g e → e.0 < e.1 → IsRecordable (with_edge g e label)
  IsRecordable-with_edge e label has_ends lower = record {
    simple = record {
      ends = EdgesHaveEnds-with_edge g e label has_ends can.simple.ends;
      lower_first = λ f has.
          put_or_there (f.0 < f.1) (eq_by_cmp pair_cmp f e) label (finite.get g.edges f)
          (λ tied. subst (λ (x : ℕ × ℕ). x.0 < x.1) (sym (same_item pair_cmp-IsAntisymmetric f e tied)) lower)
          (can.simple.lower_first f) (ap is_some (sym (finite.get-insert pair_cmp_total g.edges e label f)) ∙ has);
    };
    short_ids = can.short_ids;
  }

  IsRecordable-without_edge : (e : ℕ × ℕ) → IsRecordable (without_edge g e)
  IsRecordable-without_edge e = record {
    simple = record {
      ends = EdgesHaveEnds-without_edge g e can.simple.ends;
      lower_first = λ f has. can.simple.lower_first f (not_taken (eq_by_cmp pair_cmp f e) (finite.get g.edges f) (ap is_some (sym (finite.get-remove pair_cmp_total g.edges e f)) ∙ has));
    };
    short_ids = can.short_ids;
  }

  IsRecordable-without_vertex : (v : ℕ) → IsRecordable (without_vertex g v)
  IsRecordable-without_vertex v =
      let stays : ℕ × ℕ → Bool = λ f. not (ends_at v f) in
      record {
        simple = record {
          ends = EdgesHaveEnds-without_vertex g v can.simple.ends;
          lower_first = λ f has. can.simple.lower_first f (and_parts (stays f) _ (sym (contains_key-kept pair_cmp-IsAntisymmetric g.edges stays f) ∙ has)).1;
        };
        short_ids = λ w has. can.short_ids w (not_taken (eq_by_cmp nat_cmp w v) (finite.get g.labels w) (ap is_some (sym (finite.get-remove nat_cmp_total g.labels v w)) ∙ has));
      }

  -- an update of an edge, whatever comes of it where both ends are there
  at_ends : (from to : ℕ) (update : ℕ × ℕ → Result Graph Refusal) → ((from ≢ to) → IsTrue (has_vertex g from) → IsTrue (has_vertex g to) → IsRecordable (graph_left_by g (update (edge_between from to))))
      → IsRecordable (graph_left_by g (at_edge g from to update))
  at_ends from to update gives =
      elim (eqb from to) as (λ b. eqb from to ≡ b → IsRecordable (graph_left_by g (if b then Err refusal.Loop else if not (has_vertex g from) then Err (refusal.NoVertex from) else if not (has_vertex g to) then Err (refusal.NoVertex to) else update (edge_between from to)))) [
        | true ↦ λ _. can
        | false ↦ λ apart.
            elim (has_vertex g from) as (λ b. has_vertex g from ≡ b → IsRecordable (graph_left_by g (if not b then Err (refusal.NoVertex from) else if not (has_vertex g to) then Err (refusal.NoVertex to) else update (edge_between from to)))) [
              | false ↦ λ _. can
              | true ↦ λ has_from.
                  elim (has_vertex g to) as (λ b. has_vertex g to ≡ b → IsRecordable (graph_left_by g (if not b then Err (refusal.NoVertex to) else update (edge_between from to)))) [
                    | false ↦ λ _. can
                    | true ↦ λ has_to. gives (eqb-false from to apart) has_from has_to
                  ] refl
            ] refl
      ] refl

  IsRecordable-after : (u : Update) → AddsShortId u → IsRecordable (graph_after g u)
  IsRecordable-after (AddVertex id label) fits =
      elim (has_vertex g id) as (λ b. IsRecordable (graph_left_by g (if b then Err refusal.VertexExists else Ok (with_vertex g id label)))) [ true ↦ can | false ↦ IsRecordable-with_vertex id label fits ]
  IsRecordable-after (RemoveVertex id) _ =
      elim (has_vertex g id) as (λ b. IsRecordable (graph_left_by g (if b then Ok (without_vertex g id) else Err (refusal.NoVertex id)))) [ true ↦ IsRecordable-without_vertex id | false ↦ can ]
  IsRecordable-after (LabelVertex id label) _ =
      elim (has_vertex g id) as (λ b. has_vertex g id ≡ b → IsRecordable (graph_left_by g (if b then Ok (with_vertex g id label) else Err (refusal.NoVertex id)))) [
        | true ↦ λ has. IsRecordable-with_vertex id label (can.short_ids id has)
        | false ↦ λ _. can
      ] refl
  IsRecordable-after (AddEdge from to label) _ =
      at_ends from to (add_edge g label) (λ apart has_from has_to.
      let e = edge_between from to in
      let lower : e.0 < e.1 = grind arith in
      elim (has_edge g e) as (λ b. IsRecordable (graph_left_by g (if b then Err refusal.EdgeExists else Ok (with_edge g e label)))) [ true ↦ can | false ↦ IsRecordable-with_edge e label (HasEnds-between g from to has_from has_to) lower ])
  IsRecordable-after (RemoveEdge from to) _ =
      at_ends from to (remove_edge g) (λ _ _ _.
      let e = edge_between from to in
      elim (has_edge g e) as (λ b. IsRecordable (graph_left_by g (if b then Ok (without_edge g e) else Err refusal.NoEdge))) [ true ↦ IsRecordable-without_edge e | false ↦ can ])
  IsRecordable-after (LabelEdge from to label) _ =
      at_ends from to (label_edge g label) (λ _ _ _.
      let e = edge_between from to in
      elim (has_edge g e) as (λ b. has_edge g e ≡ b → IsRecordable (graph_left_by g (if b then Ok (with_edge g e label) else Err refusal.NoEdge))) [
        | true ↦ λ has. IsRecordable-with_edge e label (can.simple.ends e has) (can.simple.lower_first e has)
        | false ↦ λ _. can
      ] refl)

IsRecordable-after_all : (g : Graph) (us : List Update) → IsRecordable g → AllByRecursion AddsShortId us → IsRecordable (graph_after_all g us)
IsRecordable-after_all g [] can short = can
IsRecordable-after_all g (u ∷ us) can short = IsRecordable-after_all (graph_after g u) us (IsRecordable-after g can u short.0) short.1

-- groups of such updates lead to graphs whose pieces can be carried
pub IsRecordable-history : (g : Graph) (groups : List Group) → IsRecordable g → All (All AddsShortId) groups → All IsRecordable (history g groups)
IsRecordable-history g [] can short = All-nil IsRecordable
IsRecordable-history g (us ∷ groups) can short =
    let next = IsRecordable-after_all g us can (recursion_from_All AddsShortId us (All-head (All AddsShortId) us groups short)) in
    All-cons IsRecordable (graph_after_all g us) (history (graph_after_all g us) groups) next
    (IsRecordable-history (graph_after_all g us) groups next (All-tail (All AddsShortId) us groups short))
