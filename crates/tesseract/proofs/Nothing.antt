-- What a graph that has nothing has to be mined.
use Rattle.std.proofs.Common.{◌≡◌, ℕ, zero, suc, List, [], ◌∷◌, length, map, filter, refl, sym, ap, ◌∙◌, arith}
use Rattle.std.specs.FinMap as finite
use Rattle.std.specs.Ordering.{nat_cmp}
use Rattle.std.specs.declared.cmp.Ordering.{Ordering}
use Rattle.graph_types.specs.meaning.Graph.{empty_graph, pair_cmp}
use Rattle.graph_types.specs.declared.ids.Mode.{Mode}
use Rattle.graph_types.specs.declared.ids.Mode.TheVariants as mode
use Rattle.graph_types.specs.declared.member.Member.TheVariants as member
use Rattle.mining_model.specs.meaning.Embeddings.{Pattern, embeddings, members_of, short_lists, is_embedding}

no_items : {A : Type 0} (xs : List A) → length xs ≡ 0 → xs ≡ []
no_items [] none = refl
no_items (x ∷ xs) none = absurd (omega arith)

no_keys : {K : Type 0} (R : K → K → Ordering) → finite.keys (finite.empty {X = ℕ} {R = R}) ≡ []
no_keys R =
    ap (map (λ e. e.0)) (no_items (finite.entries finite.empty)
    (sym (finite.len-entries finite.empty) ∙ finite.len-empty R ℕ))

no_members : (kind : Mode) → members_of kind empty_graph ≡ []
no_members mode.Vertex = ap (map member.Vertex) (no_keys nat_cmp)
no_members mode.Edge = ap (map member.Edge) (no_keys pair_cmp)

short_lists-nil : {A : Type 0} (n : ℕ) → short_lists {A = A} n [] ≡ []
short_lists-nil zero = refl
short_lists-nil (suc n) = refl

-- nothing has no pieces
pub embeddings-empty : (pattern : Pattern) → embeddings pattern empty_graph ≡ []
embeddings-empty pattern =
    ap (λ members. filter (is_embedding pattern empty_graph) (short_lists pattern.size members))
    (no_members pattern.mode)
    ∙ ap (filter (is_embedding pattern empty_graph)) (short_lists-nil pattern.size)
