-- That shards go on keeping a graph through the groups of one window after another.
use Rattle.std.proofs.Common.{◌≡◌, ◌<◌, ◌≤◌, ◌+◌, ◌-◌, ℕ, List, [], ◌∷◌, length, Option, Some, unwrap_or, refl, sym, ap, subst, ◌∙◌, arith}
use Rattle.graph_types.specs.meaning.Graph.{Graph, empty_graph}
use Rattle.graph_types.specs.meaning.Simple.{IsSimple}
use Rattle.mining_model.specs.meaning.History.{graph_at}
use Rattle.group_window.specs.meaning.Windows.{WindowValue, last_or}
use Rattle.shard_state.specs.calls.Sharing.{KeepGraph, TellGroups, TellUpTo, all_pruned}
use Rattle.shard_state.specs.meaning.Shards.{ShardValue}
use Rattle.shard_state.specs.meaning.Telling.{AreSimple, graph_of, graphs_of, last_of}
use Rattle.shard_state.proofs.TellingOn.{KeepGraph-pruned, KeepGraph-told, TellUpTo-begun}
use Rattle.store_bench.specs.calls.Filling.{IsFilled, base_of}

base-is : (before : Graph) (later : List Graph) → 0 < length later → unwrap_or (base_of before later) empty_graph ≡ before
base-is before [] some = absurd (omega (arith, some))
base-is before (next ∷ later) some = refl

last-at : (g : Graph) (later : List Graph) → graph_at g later (length later) ≡ last_or g later
last-at g [] = refl
last-at g (next ∷ later) = last-at next later

last-none : (before : Graph) (later : List Graph) → length later ≡ 0 → last_or before later ≡ before
last-none before [] none = refl
last-none before (next ∷ later) none = absurd (omega (arith, none))

module _ (count at most : ℕ) (before after : Graph) (w : WindowValue) (filled : IsFilled w at count most before after) where
  -- a window without a group leaves the graph
  pub same-none : length w.later ≡ 0 → after ≡ before
  same-none none = filled.last ∙ last-none before w.later none

  module _ (some : 0 < length w.later) where
    base-before : unwrap_or w.base empty_graph ≡ before
    base-before = ap (λ (o : Option Graph). unwrap_or o empty_graph) filled.base ∙ base-is before w.later some

    -- the shards tell its graphs, of which they took in none
    pub TellGroups-none : (shards : List ShardValue) → length shards ≡ count → KeepGraph shards at before → TellGroups w 0 0 shards
    TellGroups-none shards all keep = record {
      parted = filled.parted ∙ sym all;
      tell = TellUpTo-begun (graphs_of w) shards (subst (λ t. KeepGraph shards t (unwrap_or w.base empty_graph)) (sym filled.first) (subst (KeepGraph shards at) (sym base-before) keep))
          (record { base = subst IsSimple (sym base-before) filled.begins_simple; later = filled.simple });
    }

    graph-last : graph_of (graphs_of w) (last_of (graphs_of w)) ≡ after
    graph-last =
        let at_end : w.first + length w.later - w.first ≡ length w.later = omega arith in
        ap (graph_at (unwrap_or w.base empty_graph) w.later) at_end
        ∙ last-at (unwrap_or w.base empty_graph) w.later
        ∙ ap (λ (g : Graph). last_or g w.later) base-before
        ∙ sym filled.last

    -- with all its groups, and pruned to the last, they keep the graph after it
    pub KeepGraph-last : (shards new : List ShardValue) (t : ℕ) → TellGroups w (length w.later) 0 shards → t ≡ w.first + length w.later → new ≡ all_pruned t shards → KeepGraph new t after
    KeepGraph-last shards new t told at-is is =
        subst (λ ss. KeepGraph ss t after) (sym is)
        (KeepGraph-pruned shards t after
        (subst (λ k. KeepGraph shards k after) (sym at-is) (subst (KeepGraph shards (w.first + length w.later)) graph-last (KeepGraph-told (graphs_of w) (length w.later) 0 shards told.tell refl))))
