-- That the rule holds where a machine begins.
use Rattle.std.proofs.Common.{◌≡◌, ◌+◌, ◌-◌, ◌<◌, ◌≤◌, ℕ, false, cond, length, get_or, None, sym, ap, subst, ◌∙◌, arith}
use Rattle.std.proofs.lemmas.Bool.{false≢true}
use Rattle.std.proofs.lemmas.List.{get_or-replicate, length-replicate}
use Rattle.shared_lemmas.proofs.Membership.{IsIn-get_or, all-at}
use Rattle.shard_state.specs.calls.Sharing.{TellUpTo}
use Rattle.shard_state.specs.meaning.Joining.{shard_at}
use Rattle.shard_state.specs.meaning.Shards.{ShardValue, empty_shard}
use Rattle.shard_state.specs.meaning.Telling.{Graphs, Tells, last_of}
use Rattle.shard_state.proofs.TellingOn.{TellUpTo-begun}
use Rattle.shard_events.specs.meaning.Events.{Begins}
use Rattle.shard_events.specs.meaning.Machine.{State, holder_of, stage_of, was_put, Waiting, Finished}
use Rattle.shard_events.specs.meaning.Rule.{Rule}
use Rattle.shard_events.proofs.SetItems.{replicate-item}
use Rattle.shard_events.proofs.Stages.{stage-after_first, stage-up_to_first}

module _ (graphs : Graphs) (state : State) (begins : Begins graphs state) where
  -- nobody holds a shard
  none-held : (s : ℕ) → holder_of state s ≡ None
  none-held s = ap (λ holders. get_or holders s None) begins.holders ∙ replicate-item (length state.shards) s None

  -- none was put
  none-put : (s : ℕ) → was_put state s ≡ false
  none-put s = ap (λ puts. get_or puts s false) begins.puts ∙ replicate-item (length state.shards) s false

  -- each task waits
  all-wait : (t : ℕ) → t ≤ last_of graphs → state.stamped < t → stage_of graphs state t ≡ Waiting
  all-wait t within later =
      let first = begins.stamped in
      let from : graphs.first < t = omega (arith, first, later) in
      let few : t - (graphs.first + 1) < length graphs.later = omega (arith, from, within) in
      stage-after_first graphs state t from
      ∙ ap (λ stages. get_or stages (t - (graphs.first + 1)) Finished) begins.stages
      ∙ get_or-replicate (length graphs.later) (t - (graphs.first + 1)) Waiting Finished few

  -- the shards tell the graphs up to the first one
  tell : TellUpTo graphs 0 0 state.shards
  tell = TellUpTo-begun graphs state.shards begins.keep begins.simple

  module _ (s : ℕ) (within : s < length state.shards) where
    -- so does each of them
    tells-first : Tells graphs state.stamped (shard_at state.shards s)
    tells-first =
        let first : graphs.first + 0 ≡ state.stamped = let stamped = begins.stamped in omega (arith, stamped) in
        subst (λ n. Tells graphs n (shard_at state.shards s)) first
        (all-at (Tells graphs (graphs.first + 0)) (shard_at state.shards s) state.shards tell.told (IsIn-get_or state.shards s (empty_shard 0 1) within))

    -- and none was pruned beyond the first
    floor-first : (shard_at state.shards s).floor ≤ state.front
    floor-first =
        let front = begins.front in
        let low = all-at (λ (shard : ShardValue). shard.floor ≤ graphs.first + 0) (shard_at state.shards s) state.shards tell.floors (IsIn-get_or state.shards s (empty_shard 0 1) within) in
        omega (arith, front, low)

  -- the rule holds
  pub Rule-begun : Rule graphs state
  Rule-begun = record {
    machine = record {
      some = begins.keep.some;
      numbered = begins.keep.numbered;
      holders = ap length begins.holders ∙ length-replicate (length state.shards) None;
      puts = ap length begins.puts ∙ length-replicate (length state.shards) false;
      stages = ap length begins.stages ∙ length-replicate (length graphs.later) Waiting;
    };
    simple = begins.simple;
    ordered =
        let stamped = begins.stamped in
        let known = begins.known in
        let front = begins.front in
        let seen = begins.seen in
        record { seen = omega (arith, seen); front = omega (arith, seen, front); known = omega (arith, front, known); stamped = omega (arith, known, stamped); last = omega (arith, stamped) };
    done = λ t known. let first = begins.known in stage-up_to_first graphs state t (omega (arith, first, known));
    begun = all-wait;
    floors = floor-first;
    told = λ s within. subst (λ b. Tells graphs (cond b (state.stamped + 1) state.stamped) (shard_at state.shards s)) (sym (none-put s)) (tells-first s within);
    parts = λ s within put. absurd (false≢true (sym (none-put s) ∙ put));
    one = λ x s r holds _. let none = none-held s in absurd cc;
    live = λ t s holds. let none = none-held s in absurd cc;
  }
