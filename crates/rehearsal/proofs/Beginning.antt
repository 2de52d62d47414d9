-- That what a machine begins with is sound.
use Rattle.std.proofs.Common.{◌≡◌, ℕ, zero, suc, false, List, ◌∷◌, map as mapped, length, get_or, replicate, Option, None, Some, refl, sym, ap, subst, ◌∙◌, arith}
use Rattle.std.proofs.lemmas.List.{get_or-replicate}
use Rattle.graph_types.specs.meaning.Graph.{Graph}
use Rattle.group_window.specs.meaning.Windows.{IsSound, WindowValue}
use Rattle.mining_model.specs.meaning.Embeddings.{Pattern}
use Rattle.shard_events.specs.meaning.Events.{Begins}
use Rattle.shard_events.specs.meaning.Machine.{State}
use Rattle.shard_events.specs.meaning.Rule.{Rule}
use Rattle.shard_state.specs.meaning.Shards.{ShardValue}
use Rattle.shard_state.specs.meaning.Telling.{Graphs}
use Rattle.window_miner.specs.calls.Mining.{FollowsShards}
use Rattle.rehearsal.specs.declared.machine.Machine.{Machine}
use Rattle.rehearsal.specs.declared.task.Task.{Task}
use Rattle.rehearsal.specs.declared.task.Task.TheVariants as task
use Rattle.rehearsal.specs.meaning.MachineState.{MachineState, Waiting, first_state, state_of}
use Rattle.rehearsal.specs.meaning.Shown.{holder_of, shown, shown_stage, took_in}
use Rattle.rehearsal.specs.meaning.Soundness.{HasFound, IsSoundMachine, IsSoundState, graphs_from}
use Rattle.rehearsal.proofs.Rows.{row-of_one}

pub mapped-replicate : {A B : Type 0} (f : A → B) (n : ℕ) (x : A) → mapped f (replicate n x) ≡ replicate n (f x)
mapped-replicate f zero x = refl
mapped-replicate f (suc n) x = ap (λ xs. f x ∷ xs) (mapped-replicate f n x)

abbrev pub BeginsRule : Type 0
BeginsRule = (graphs : Graphs) (state : State) → Begins graphs state → Rule graphs state

module _ (law : BeginsRule) (w : WindowValue) (g : Graph) (window : IsSound w) (shards : List ShardValue) (follows : FollowsShards w shards g) where
  abbrev first : MachineState
  first = first_state w shards

  nobody : (s : ℕ) → ◌≡◌ {A = Option ℕ} None (Some s) → ⊥
  nobody s is = cc

  begins : Begins (graphs_from w g) (shown w first)
  begins = record {
    keep = follows.keep;
    simple = record { base = follows.keep.hold.simple; later = window.later };
    holders = row-of_one (holder_of first) (length shards) None (λ r. refl);
    puts = row-of_one (took_in w first) (length shards) false (λ r. refl);
    stamped = omega arith;
    stages = mapped-replicate shown_stage (length w.later) Waiting;
    known = omega arith;
    front = omega arith;
    seen = omega arith;
  }

  pub sound-first : IsSoundState w g first
  sound-first = record {
    base = follows.base;
    parted = follows.parted;
    ruled = law (graphs_from w g) (shown w first) begins;
    parts = omega arith;
    next = λ s none. absurd (nobody s none);
    behind = λ s none. absurd (nobody s none);
    apart = λ s none _. nobody s none;
  }

  pub sound-begun : (pattern : Pattern) (most : ℕ) (m : Machine) → state_of m ≡ first → m.tasks.items ≡ replicate (length w.later) task.Waiting → IsSoundMachine pattern most w g m
  sound-begun pattern most m is tasks = record {
    state = subst (IsSoundState w g) (sym is) sound-first;
    found = λ i within. subst (HasFound pattern most w i) (sym (ap (λ (ts : List Task). get_or ts i task.Waiting) tasks ∙ get_or-replicate (length w.later) i task.Waiting task.Waiting within)) tt;
  }
