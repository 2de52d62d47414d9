-- Windows that lead from one graph to another.
use Rattle.std.proofs.Common.{◌≡◌, ℕ, List, [], ◌∷◌, ◌++◌, length, Option, None, Some, IfSome, IsSome, unwrap_or, refl, sym, ap, subst, ◌∙◌}
use Rattle.graph_types.specs.meaning.Graph.{Graph}
use Rattle.group_window.specs.meaning.Windows.{RunValue, WindowValue, ended, graph_after_current, graph_after_run, graph_before, last_or, pushed}
use Rattle.shard_state.specs.calls.Sharing.{KeepGraph}
use Rattle.shard_state.specs.meaning.Shards.{ShardValue}
use Rattle.window_miner.specs.calls.Mining.{FollowsShards}
use Rattle.rehearsal_tables.specs.calls.Leading.{BeginWith, Leads, RunsFrom}

last_or-push : (g : Graph) (later : List Graph) (after : Graph) → last_or g (later ++ after ∷ []) ≡ after
last_or-push g [] after = refl
last_or-push g (x ∷ later) after = last_or-push x later after

-- the graph before an open group is the last one of the groups
before-is : (start now : Graph) (run : Option RunValue) → RunsFrom start (Some run) → graph_after_run (Some start) run ≡ Some now → graph_before run now ≡ start
before-is start now None runs came = let same : start ≡ now = cc in sym same
before-is start now (Some run) runs came = runs

begins-more : (before start : Graph) (base : Option Graph) (later : List Graph) → BeginWith before base later → start ≡ last_or before later → unwrap_or base start ≡ before
begins-more before start None later begins is = is ∙ ap (last_or before) begins
begins-more before start (Some b) later begins is = begins

-- one update more in the open group
pub Leads-pushed : (at count : ℕ) (before : Graph) (w next : WindowValue) (current : Option (Option RunValue)) (now then : Graph) → w.current ≡ current → IsSome current → next ≡ pushed w current now then →
    Leads at count before w now → Leads at count before next then
Leads-pushed at count before w next None now then current opened is leads = cc
Leads-pushed at count before w next (Some run) now then current opened is leads =
    let start = last_or before w.later in
    subst (λ v. Leads at count before v then) (sym is)
    (record {
      first = leads.first;
      parted = leads.parted;
      begins = leads.begins;
      runs = before-is start now run (subst (RunsFrom start) current leads.runs) (subst (λ o. graph_after_current (Some start) o ≡ Some now) current leads.came);
      came = refl;
    })

-- the open group is ended
pub Leads-ended : (at count : ℕ) (before : Graph) (w next : WindowValue) (current : Option (Option RunValue)) (now : Graph) → w.current ≡ current → IsSome current → next ≡ ended w current now →
    Leads at count before w now → Leads at count before next now
Leads-ended at count before w next None now current opened is leads = cc
Leads-ended at count before w next (Some run) now current opened is leads =
    let start = last_or before w.later in
    let from = before-is start now run (subst (RunsFrom start) current leads.runs) (subst (λ o. graph_after_current (Some start) o ≡ Some now) current leads.came) in
    subst (λ v. Leads at count before v now) (sym is)
    (record {
      first = leads.first;
      parted = leads.parted;
      begins = begins-more before (graph_before run now) w.base w.later leads.begins from;
      runs = tt;
      came = ap Some (last_or-push before w.later now);
    })

begins-with : (before : Graph) (base : Option Graph) (later : List Graph) → BeginWith before base later → IfSome base (λ g. g ≡ before)
begins-with before None later begins = tt
begins-with before (Some g) later begins = begins

-- shards that keep the graph that it begins with can mine it
pub FollowsShards-led : (at count : ℕ) (before now : Graph) (w : WindowValue) (shards : List ShardValue) → Leads at count before w now → length shards ≡ count → KeepGraph shards at before → FollowsShards w shards before
FollowsShards-led at count before now w shards leads all keep = record {
  base = begins-with before w.base w.later leads.begins;
  parted = leads.parted ∙ sym all;
  keep = subst (λ t. KeepGraph shards t before) (sym leads.first) keep;
}

-- the last graph of its groups is the one that it led to, where no group is open
pub last-led : (at count : ℕ) (before now : Graph) (w : WindowValue) → Leads at count before w now → w.current ≡ None → last_or before w.later ≡ now
last-led at count before now w leads closed =
    let came : graph_after_current (Some (last_or before w.later)) None ≡ Some now = subst (λ current. graph_after_current (Some (last_or before w.later)) current ≡ Some now) closed leads.came in
    cc
