-- Windows that go on from the graph that shards keep.
use Rattle.std.proofs.Common.{◌≡◌, ℕ, List, length, Option, None, Some, IfSome, refl, sym, subst, ◌∙◌}
use Rattle.graph_types.specs.meaning.Graph.{Graph}
use Rattle.group_window.specs.meaning.Windows.{RunValue, StandsOn, WindowValue, closed_graph, graph_after_current, last_or}
use Rattle.shard_state.specs.calls.Sharing.{KeepGraph}
use Rattle.shard_state.specs.meaning.Shards.{ShardValue}
use Rattle.window_miner.specs.calls.Mining.{FollowsShards}
use Rattle.delta_tables.specs.calls.Filling.{GoesOn, IsClosed}

-- it can be mined over them
pub FollowsShards-goes : (w : WindowValue) (at count : ℕ) (g : Graph) (shards : List ShardValue) → GoesOn w at count g → length shards ≡ count → KeepGraph shards at g → FollowsShards w shards g
FollowsShards-goes w at count g shards goes all keep = record {
  base = subst (λ (b : Option Graph). IfSome b (λ before. before ≡ g)) (sym goes.base) refl;
  parted = goes.parted ∙ sym all;
  keep = subst (λ t. KeepGraph shards t g) (sym goes.first) keep;
}

last-stands : (base : Option Graph) (later : List Graph) (current : Option (Option RunValue)) (before g : Graph) → base ≡ Some before → current ≡ None → IfSome (graph_after_current (closed_graph base later) current) (λ h. g ≡ h) → g ≡ last_or before later
last-stands None later current before g is closed stands = cc
last-stands (Some b) later None before g is closed stands = let same : b ≡ before = cc in subst (λ h. g ≡ last_or h later) same stands
last-stands (Some b) later (Some run) before g is closed stands = cc

-- and the last of its graphs is the one that it stands on
pub KeepGraph-after : (w : WindowValue) (at count t : ℕ) (before g : Graph) (shards : List ShardValue) → GoesOn w at count before → IsClosed w g → KeepGraph shards t (last_or before w.later) → KeepGraph shards t g
KeepGraph-after w at count t before g shards goes closed keep = subst (KeepGraph shards t) (sym (last-stands w.base w.later w.current before g goes.base closed.closed closed.stands)) keep
