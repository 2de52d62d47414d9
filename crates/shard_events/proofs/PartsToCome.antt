-- The parts of the group after the stamped timestamp.
use Rattle.std.proofs.Common.{◌≡◌, ◌≢◌, ◌+◌, ◌-◌, ◌<◌, ◌≤◌, ◌⊎◌, ⊎_elim, inl, inr, ℕ, zero, suc, true, eqb, eq-eqb, not, List, [], ◌∷◌, length, Option, None, Some, refl, sym, ap, ◌∙◌, arith}
use Rattle.std.specs.Option.{option_eq}
use Rattle.std.proofs.lemmas.Bool.{cases_lt, false≢true}
use Rattle.graph_types.specs.meaning.Graph.{Graph}
use Rattle.mining_model.specs.meaning.History.{graph_at}
use Rattle.shared_lemmas.specs.meaning.Membership.{IsIn}
use Rattle.update_rules.specs.meaning.Parts.{changes_between, part_of}
use Rattle.update_rules.specs.meaning.Places.{entry_at}
use Rattle.shard_state.specs.meaning.Shards.{place_of}
use Rattle.shard_state.specs.meaning.Telling.{Graphs, graph_of, last_of, part_at}
use Rattle.shard_state.proofs.GroupChanges.{part-differs}

-- a list has nothing, or it has something
pub none-or_some : {A : Type 0} (xs : List A) → (xs ≡ []) ⊎ (xs ≢ [])
none-or_some [] = inl refl
none-or_some (x ∷ xs) = inr (λ none. cc)

-- a list that no item is in has nothing
nothing-listed : {A : Type 0} (xs : List A) → ((x : A) → IsIn x xs → ⊥) → xs ≡ []
nothing-listed [] none = refl
nothing-listed (x ∷ xs) none = absurd (none x (inl refl))

-- a label is the same as itself
same-itself : (label : Option ℕ) → option_eq eqb label label ≡ true
same-itself None = refl
same-itself (Some label) = eq-eqb label label refl

-- between a graph and itself nothing changes
same-graph : (g : Graph) (shards number : ℕ) → (part_of shards (changes_between g g) number).changes ≡ []
same-graph g shards number =
    nothing-listed (part_of shards (changes_between g g) number).changes
    (λ change among. absurd (false≢true (sym (ap not (same-itself (entry_at g (place_of change)))) ∙ part-differs g g shards number change among)))

-- after the last graph it stays the same
graph-stays : (g : Graph) (later : List Graph) (k : ℕ) → length later ≤ k → graph_at g later (suc k) ≡ graph_at g later k
graph-stays g [] zero beyond = refl
graph-stays g [] (suc k) beyond = refl
graph-stays g (next ∷ later) zero beyond = absurd (omega (arith, beyond))
graph-stays g (next ∷ later) (suc k) beyond = graph-stays next later k (omega (arith, beyond))

-- so no shard has a part of a group after the last timestamp
pub part-after_last : (graphs : Graphs) (shards number n : ℕ) → last_of graphs ≤ n → (part_at graphs shards number (n + 1)).changes ≡ []
part-after_last graphs shards number n beyond =
    let next : n + 1 - graphs.first ≡ suc (n + 1 - 1 - graphs.first) = omega arith in
    let past : length graphs.later ≤ n + 1 - 1 - graphs.first = omega arith in
    let same : graph_of graphs (n + 1) ≡ graph_of graphs (n + 1 - 1) = ap (graph_at graphs.base graphs.later) next ∙ graph-stays graphs.base graphs.later (n + 1 - 1 - graphs.first) past in
    ap (λ g. (part_of shards (changes_between (graph_of graphs (n + 1 - 1)) g) number).changes) same
    ∙ same-graph (graph_of graphs (n + 1 - 1)) shards number

-- where a shard has a part of the next group, there is a next timestamp
pub part-to_come : (graphs : Graphs) (shards number n : ℕ) → (part_at graphs shards number (n + 1)).changes ≢ [] → n < last_of graphs
part-to_come graphs shards number n some = ⊎_elim (λ more. more) (λ beyond. absurd (some (part-after_last graphs shards number n beyond))) (cases_lt n (last_of graphs))
