-- That an event that may happen keeps what is sound.
use Rattle.std.proofs.Common.{◌≡◌, ◌≢◌, ◌<◌, ◌+◌, ℕ, true, eq-eqb, List, length, Option, None, Some, sym, ap, subst, ◌∙◌, arith}
use Rattle.std.proofs.lemmas.Bool.{false≢true, ltb-true}
use Rattle.std.proofs.lemmas.List.{get_or-set_other, length-set}
use Rattle.graph_types.specs.meaning.Graph.{Graph}
use Rattle.group_window.specs.meaning.Windows.{IsSound, WindowValue}
use Rattle.shard_events.specs.meaning.Events as move
use Rattle.shard_events.specs.meaning.Events.{Event as Move, LeadTo, Leads}
use Rattle.shard_events.specs.meaning.Machine.{State}
use Rattle.shard_events.specs.meaning.Rule.{Rule}
use Rattle.shard_state.specs.meaning.Joining.{shard_at}
use Rattle.shard_state.specs.meaning.Shards.{ShardValue, empty_shard, pruned}
use Rattle.shard_state.specs.meaning.Telling.{Graphs}
use Rattle.rehearsal.specs.declared.event.Event.{Event}
use Rattle.rehearsal.specs.declared.event.Event.TheVariants as event
use Rattle.rehearsal.specs.meaning.MachineState.{MachineState}
use Rattle.rehearsal.specs.meaning.Shown.{moves_of, shown}
use Rattle.rehearsal.specs.meaning.Soundness.{IsSoundState, graphs_from}
use Rattle.rehearsal.specs.meaning.Table.{after, are_for, group_parts, holds, may, next_parts, with_first_part}
use Rattle.rehearsal.proofs.Leading.{moves-lead, prune-is, stamp-is, take-is}
use Rattle.rehearsal.proofs.Moving.{first-for, some-left}
use Rattle.rehearsal.proofs.Showing.{at-home, holds-it, holds-none}

abbrev pub KeepsRule : Type 0
KeepsRule = (graphs : Graphs) (state : State) (what : Move) (next : State) → Rule graphs state → Leads graphs state what next → Rule graphs next

-- one move after another keeps the rule
rule-after : KeepsRule → (graphs : Graphs) (first : State) → Rule graphs first → (moves : List Move) (last : State) → LeadTo graphs first moves last → Rule graphs last
rule-after law graphs first rule _ _ move.none = rule
rule-after law graphs first rule _ _ (move.more moves mid what last before leads) = law graphs mid what last (rule-after law graphs first rule moves mid before) leads

module _ (law : KeepsRule) (w : WindowValue) (g : Graph) (window : IsSound w) (m : MachineState) (sound : IsSoundState w g m) where
  rule-kept : (what : Event) → may w m what ≡ true → Rule (graphs_from w g) (shown w (after w m what))
  rule-kept what is = rule-after law (graphs_from w g) (shown w m) sound.ruled (moves_of w m what) (shown w (after w m what)) (moves-lead w g window m sound what is)

  nobody : (s : ℕ) → None ≡ Some s → ⊥
  nobody s is = cc

  sound-ingest_put : (s : ℕ) → may w m (event.IngestPut s) ≡ true → IsSoundState w g (after w m (event.IngestPut s))
  sound-ingest_put s is =
      let held = holds-it m.ingest s is in
      let first = first-for (next_parts w m) s (sound.next s held) in
      let left = some-left m.parts (group_parts w m) first.0 first.1 first.2 in
      let put = with_first_part (next_parts w m) (w.first + (m.stamped + 1)) (shard_at m.shards s) in
      let len = length-set m.shards s put in
      record {
        base = sound.base;
        parted = sound.parted ∙ sym len;
        ruled = rule-kept (event.IngestPut s) is;
        parts = omega (arith, left);
        next = λ r none. absurd (nobody r none);
        behind = λ r watched.
            let other : r ≢ s = λ same. sound.apart s held (watched ∙ ap Some same) in
            let before = sound.behind r watched in
            (subst (λ n. r < n) (sym len) before.0, subst (λ (x : ShardValue). x.floor < w.first + m.seen) (sym (get_or-set_other m.shards s r put (empty_shard 0 1) other)) before.1);
        apart = λ r none _. nobody r none;
      }

  sound-ingest_take : (s : ℕ) → may w m (event.IngestTake s) ≡ true → IsSoundState w g (after w m (event.IngestTake s))
  sound-ingest_take s is =
      let test = take-is w g window m sound s is in
      let home = at-home m s test.2 in
      record {
        base = sound.base;
        parted = sound.parted;
        ruled = rule-kept (event.IngestTake s) is;
        parts = sound.parts;
        next = λ r held. let same : s ≡ r = cc in subst (λ k. are_for (next_parts w m) k ≡ true) same test.1;
        behind = sound.behind;
        apart = λ r held watched. let same : s ≡ r = cc in absurd (false≢true (sym home.1 ∙ ap (λ (o : Option ℕ). holds o s) watched ∙ eq-eqb r s (sym same)));
      }

  sound-stamp : may w m event.Stamp ≡ true → IsSoundState w g (after w m event.Stamp)
  sound-stamp is =
      let none = holds-none m.ingest (stamp-is w g window m sound is).0 in
      record {
        base = sound.base;
        parted = sound.parted;
        ruled = rule-kept event.Stamp is;
        parts = omega arith;
        next = λ s held. absurd (nobody s (sym none ∙ held));
        behind = sound.behind;
        apart = sound.apart;
      }

  sound-see_front : may w m event.SeeFront ≡ true → IsSoundState w g (after w m event.SeeFront)
  sound-see_front is =
      let more = ltb-true m.seen m.front is in
      record {
        base = sound.base;
        parted = sound.parted;
        ruled = rule-kept event.SeeFront is;
        parts = sound.parts;
        next = sound.next;
        behind = λ s held. let before = sound.behind s held in let low = before.1 in (before.0, omega (arith, low, more));
        apart = sound.apart;
      }

  sound-prune_put : (s : ℕ) → may w m (event.PrunePut s) ≡ true → IsSoundState w g (after w m (event.PrunePut s))
  sound-prune_put s is = record {
    base = sound.base;
    parted = sound.parted ∙ sym (length-set m.shards s (pruned (shard_at m.shards s) (w.first + m.seen)));
    ruled = rule-kept (event.PrunePut s) is;
    parts = sound.parts;
    next = sound.next;
    behind = λ r none. absurd (nobody r none);
    apart = λ r _ none. nobody r none;
  }

  sound-prune_take : (s : ℕ) → may w m (event.PruneTake s) ≡ true → IsSoundState w g (after w m (event.PruneTake s))
  sound-prune_take s is =
      let test = prune-is w g window m sound s is in
      let home = at-home m s test.1 in
      record {
        base = sound.base;
        parted = sound.parted;
        ruled = rule-kept (event.PruneTake s) is;
        parts = sound.parts;
        next = sound.next;
        behind = λ r held.
            let same : s ≡ r = cc in
            subst (λ k. (k < length m.shards) × ((shard_at m.shards k).floor < w.first + m.seen)) same (ltb-true s (length m.shards) test.2, ltb-true (shard_at m.shards s).floor (w.first + m.seen) test.3);
        apart = λ r taken held. let same : s ≡ r = cc in absurd (false≢true (sym home.0 ∙ ap (λ (o : Option ℕ). holds o s) taken ∙ eq-eqb r s (sym same)));
      }

  pub sound-after : (what : Event) → may w m what ≡ true → IsSoundState w g (after w m what)
  sound-after (event.IngestPut s) is = sound-ingest_put s is
  sound-after (event.IngestTake s) is = sound-ingest_take s is
  sound-after event.Stamp is = sound-stamp is
  sound-after (event.Begin t) is = record { base = sound.base; parted = sound.parted; ruled = rule-kept (event.Begin t) is; parts = sound.parts; next = sound.next; behind = sound.behind; apart = sound.apart }
  sound-after (event.Explore t) is = record { base = sound.base; parted = sound.parted; ruled = rule-kept (event.Explore t) is; parts = sound.parts; next = sound.next; behind = sound.behind; apart = sound.apart }
  sound-after (event.Finish t) is = record { base = sound.base; parted = sound.parted; ruled = rule-kept (event.Finish t) is; parts = sound.parts; next = sound.next; behind = sound.behind; apart = sound.apart }
  sound-after (event.SeeDone t) is = record { base = sound.base; parted = sound.parted; ruled = rule-kept (event.SeeDone t) is; parts = sound.parts; next = sound.next; behind = sound.behind; apart = sound.apart }
  sound-after event.Raise is = record { base = sound.base; parted = sound.parted; ruled = rule-kept (event.Raise) is; parts = sound.parts; next = sound.next; behind = sound.behind; apart = sound.apart }
  sound-after event.SeeFront is = sound-see_front is
  sound-after (event.PrunePut s) is = sound-prune_put s is
  sound-after (event.PruneTake s) is = sound-prune_take s is
