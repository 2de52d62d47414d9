-- That shards go on telling the groups of a window.
use Rattle.std.proofs.Common.{◌≡◌, ℕ, List, Option, IfSome, unwrap_or, sym, ap, subst}
use Rattle.graph_types.specs.meaning.Graph.{Graph, empty_graph}
use Rattle.graph_types.specs.meaning.Simple.{IsSimple}
use Rattle.group_window.specs.meaning.Windows.{IsSound, WindowValue}
use Rattle.shard_state.specs.calls.Sharing.{KeepGraph, TellUpTo}
use Rattle.shard_state.specs.meaning.Shards.{ShardValue}
use Rattle.shard_state.specs.meaning.Telling.{graphs_of}
use Rattle.shard_state.proofs.TellingOn.{TellUpTo-begun}
use Rattle.view_tables.specs.calls.Making.{IsBegun}

-- shards without a vertex tell the groups, of which they took in none
pub TellUpTo-empty : (w : WindowValue) (shards : List ShardValue) → IsSound w → IsBegun w → ((at : ℕ) → KeepGraph shards at empty_graph) → TellUpTo (graphs_of w) 0 0 shards
TellUpTo-empty w shards sound begun keep =
    let base : unwrap_or w.base empty_graph ≡ empty_graph = ap (λ o. unwrap_or o empty_graph) begun in
    let simple : IsSimple empty_graph = subst (λ (o : Option Graph). IfSome o IsSimple) begun sound.base in
    TellUpTo-begun (graphs_of w) shards (subst (KeepGraph shards w.first) (sym base) (keep w.first)) (record { base = subst IsSimple (sym base) simple; later = sound.later })
