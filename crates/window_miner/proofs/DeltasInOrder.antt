-- Groups of a window that are mined one after another.
use Rattle.std.proofs.Common.{◌≡◌, ◌<◌, ◌≤◌, ◌+◌, ◌-◌, ◌++◌, ℕ, zero, suc, List, [], ◌∷◌, length, take, Option, None, Some, IfSome, IsSome, unwrap_or, refl, sym, ap, subst, ◌∙◌, arith, add-one}
use Rattle.std.specs.List.{AllByRecursion}
use Rattle.std.proofs.lemmas.List.{length-map, take_all}
use Rattle.delta_task.specs.calls.Deltas.{IsDelta}
use Rattle.delta_task.specs.declared.delta.Delta.{Delta}
use Rattle.graph_types.specs.meaning.Graph.{Graph, empty_graph}
use Rattle.graph_types.specs.meaning.Simple.{IsSimple}
use Rattle.group_window.specs.meaning.Windows.{IsSound, WindowValue, last_or, graph_of as window_graph}
use Rattle.mining_model.specs.meaning.Embeddings.{Pattern}
use Rattle.mining_model.specs.meaning.History.{graph_at}
use Rattle.shared_lemmas.proofs.Claims.{all-weaker}
use Rattle.shard_state.specs.calls.Sharing.{KeepGraph, TellGroups, TellUpTo, all_pruned}
use Rattle.shard_state.specs.calls.Viewing.{CanBeViewed}
use Rattle.shard_state.specs.meaning.Joining.{joined_graph}
use Rattle.shard_state.specs.meaning.Shards.{ShardValue, pruned}
use Rattle.shard_state.specs.meaning.Telling.{Graphs, graph_of, graphs_of}
use Rattle.shard_state.proofs.Joined.{joined-is}
use Rattle.shard_state.proofs.TellingOn.{CanBeViewed-taken, KeepGraph-pruned, KeepGraph-told, TellGroups-lower, TellUpTo-begun, floors-pruned}
use Rattle.shard_state.proofs.Told.{Hold-told, simple-at}
use Rattle.window_miner.specs.calls.Mining.{AreDeltas, FollowsShards, IsMined}
use Rattle.window_miner.specs.declared.mining.Mined.{Mined}

-- what shards hold around a group

module _ (w : WindowValue) (group : ℕ) (shards : List ShardValue) (told : TellGroups w (group + 1) group shards) where
  joined-at : (t : ℕ) → group ≤ t → t ≤ group + 1 → joined_graph shards (w.first + t) ≡ window_graph w t
  joined-at t from to =
      let place : w.first + t - w.first ≡ t = omega arith in
      joined-is shards (w.first + t) (graph_of (graphs_of w) (w.first + t))
      (Hold-told (graphs_of w) (w.first + (group + 1)) shards told.tell.some told.tell.numbered told.tell.told told.tell.simple (w.first + t) (omega arith) (omega (arith, to))
      (all-weaker (λ shard. shard.floor ≤ w.first + group) (λ shard. shard.floor ≤ w.first + t) (λ shard is. omega (arith, is, from)) shards told.tell.floors))
      ∙ ap (λ k. graph_at (unwrap_or w.base empty_graph) w.later k) place

  simple-of : (t : ℕ) → IsSimple (window_graph w t)
  simple-of t =
      let place : w.first + t - w.first ≡ t = omega arith in
      subst (λ k. IsSimple (graph_at (unwrap_or w.base empty_graph) w.later k)) place (simple-at (graphs_of w) told.tell.simple (w.first + t))

  module _ (at : ℕ) (at-is : at ≡ w.first + (group + 1)) where
    pub viewed-group : CanBeViewed shards at
    viewed-group = subst (CanBeViewed shards) (sym at-is) (CanBeViewed-taken (graphs_of w) (group + 1) group shards told.tell group (omega arith) (omega arith))

    pub joined-before : joined_graph shards (at - 1) ≡ window_graph w group
    joined-before = let place : at - 1 ≡ w.first + group = omega (arith, at-is) in ap (joined_graph shards) place ∙ joined-at group (omega arith) (omega arith)

    pub joined-after : joined_graph shards at ≡ window_graph w (group + 1)
    joined-after = ap (joined_graph shards) at-is ∙ joined-at (group + 1) (omega arith) (omega arith)

    pub simple-before : IsSimple (joined_graph shards (at - 1))
    simple-before = subst IsSimple (sym joined-before) (simple-of group)

    pub simple-after : IsSimple (joined_graph shards at)
    simple-after = subst IsSimple (sym joined-after) (simple-of (group + 1))

-- one delta more

deltas-next : (pattern : Pattern) (most : ℕ) (g : Graph) (later : List Graph) (n : ℕ) (deltas : List Delta) (delta : Delta) → n < length later → AreDeltas pattern most g (take n later) deltas
    → IsDelta pattern (graph_at g later n) (graph_at g later (suc n)) most delta → AreDeltas pattern most g (take (suc n) later) (deltas ++ delta ∷ [])
deltas-next pattern most g [] n deltas delta within are is = absurd (omega (arith, within))
deltas-next pattern most g (x ∷ later) zero [] delta within are is = (is, tt)
deltas-next pattern most g (x ∷ later) zero (d ∷ deltas) delta within are is = absurd are
deltas-next pattern most g (x ∷ later) (suc n) [] delta within are is = absurd are
deltas-next pattern most g (x ∷ later) (suc n) (d ∷ deltas) delta within are is = (are.0, deltas-next pattern most x later n deltas delta (omega (arith, within)) are.1 is)

-- the graphs of a window, from one on

abbrev pub graphs_from : WindowValue → Graph → Graphs
graphs_from w g = record { first = w.first; base = g; later = w.later }

base-from : (base : Option Graph) (g : Graph) → IsSome base → IfSome base (λ before. before ≡ g) → unwrap_or base empty_graph ≡ g
base-from None g some is = cc
base-from (Some before) g some is = is

-- The window was mined so far as its first groups: the shards tell its graphs, and there is a delta for each of these.
pub record IsMinedUpTo (pattern : Pattern) (most : ℕ) (w : WindowValue) (g : Graph) (taken : ℕ) (shards : List ShardValue) (deltas : List Delta) : Type 0 where
  pub parted : w.shards ≡ length shards
  pub told : TellUpTo (graphs_from w g) taken 0 shards
  pub are : AreDeltas pattern most g (take taken w.later) deltas

module _ (pattern : Pattern) (most : ℕ) (w : WindowValue) (g : Graph) (sound : IsSound w) where
  pub mined-none : (shards : List ShardValue) (deltas : List Delta) → FollowsShards w shards g → deltas ≡ [] → IsMinedUpTo pattern most w g 0 shards deltas
  mined-none shards deltas follows none = record {
    parted = follows.parted;
    told = TellUpTo-begun (graphs_from w g) shards follows.keep (record { base = follows.keep.hold.simple; later = sound.later });
    are = subst (AreDeltas pattern most g (take 0 w.later)) (sym none) (none-yet w.later);
  }
    where
      none-yet : (later : List Graph) → AreDeltas pattern most g (take 0 later) []
      none-yet [] = tt
      none-yet (x ∷ later) = tt

  module _ (taken : ℕ) (old shards : List ShardValue) (deltas : List Delta) (base : IfSome w.base (λ before. before ≡ g)) (mined : IsMinedUpTo pattern most w g taken old deltas) (lent : shards ≡ old) where
    module _ (more : taken < length w.later) where
      same-base : unwrap_or w.base empty_graph ≡ g
      same-base = base-from w.base g (sound.begun (omega (arith, more))) base

      same-graphs : graphs_from w g ≡ graphs_of w
      same-graphs = ap (λ h. graphs_from w h) (sym same-base)

      pub told-lent : TellGroups w taken 0 shards
      told-lent = record {
        parted = mined.parted ∙ sym (ap length lent);
        tell = subst (λ graphs. TellUpTo graphs taken 0 shards) same-graphs (subst (TellUpTo (graphs_from w g) taken 0) (sym lent) mined.told);
      }

      -- what taking in the next group asks for
      pub told-lower : TellGroups w taken taken shards
      told-lower = TellGroups-lower w taken 0 shards told-lent

      pub mined-next : (new now : List ShardValue) (delta : Delta) (next : List Delta) → now ≡ new → TellGroups w (taken + 1) 0 new
          → IsDelta pattern (window_graph w taken) (window_graph w (taken + 1)) most delta → next ≡ deltas ++ delta ∷ [] → IsMinedUpTo pattern most w g (taken + 1) now next
      mined-next new now delta next now-is told is grown = record {
        parted = told.parted ∙ sym (ap length now-is);
        told = subst (TellUpTo (graphs_from w g) (taken + 1) 0) (sym now-is) (subst (λ graphs. TellUpTo graphs (taken + 1) 0 new) (sym same-graphs) told.tell);
        are =
            subst (AreDeltas pattern most g (take (taken + 1) w.later)) (sym grown)
            (subst (λ n. AreDeltas pattern most g (take n w.later) (deltas ++ delta ∷ [])) (sym (add-one taken)) (deltas-next pattern most g w.later taken deltas delta more mined.are
            (subst (λ n. IsDelta pattern (graph_at g w.later taken) (graph_at g w.later n) most delta) (add-one taken)
            (subst (λ h. IsDelta pattern (graph_at h w.later taken) (graph_at h w.later (taken + 1)) most delta) same-base is))));
      }

    last-at : (h : Graph) (later : List Graph) → graph_at h later (length later) ≡ last_or h later
    last-at h [] = refl
    last-at h (next ∷ later) = last-at next later

    keep-last : taken ≡ length w.later → KeepGraph old (w.first + length w.later) (last_or g w.later)
    keep-last all =
        let place : w.first + length w.later - w.first ≡ length w.later = omega arith in
        subst (KeepGraph old (w.first + length w.later)) (ap (graph_at g w.later) place ∙ last-at g w.later)
        (KeepGraph-told (graphs_from w g) taken 0 old mined.told all)

    -- all of it is mined, and the shards are pruned
    pub mined-all : (at : ℕ) (new now : List ShardValue) (result : Mined) → taken ≡ length w.later → at ≡ w.first + length w.later → new ≡ all_pruned at shards → now ≡ new → result.shards.items ≡ now → result.deltas.items ≡ deltas →
        IsMined pattern most w g result
    mined-all at new now result all at-is new-is now-is shards-are deltas-are =
        let kept = keep-last all in
        let is = shards-are ∙ now-is ∙ new-is ∙ ap (all_pruned at) lent ∙ ap (λ t. all_pruned t old) at-is in
        record {
          deltas = subst (AreDeltas pattern most g w.later) (sym deltas-are) (subst (λ later. AreDeltas pattern most g later deltas) (ap (λ n. take n w.later) all ∙ take_all (length w.later) w.later (omega arith)) mined.are);
          count = ap length is ∙ length-map old (λ shard. pruned shard (w.first + length w.later)) ∙ sym mined.parted;
          keep = subst (λ ss. KeepGraph ss (w.first + length w.later) (last_or g w.later)) (sym is) (KeepGraph-pruned old (w.first + length w.later) (last_or g w.later) kept);
          floors = subst (AllByRecursion (λ shard. shard.floor ≡ w.first + length w.later)) (sym is) (floors-pruned old (w.first + length w.later) (last_or g w.later) kept);
        }
