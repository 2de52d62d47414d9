-- That shards are taken and put back under the rule.
use Rattle.std.proofs.Common.{◌≡◌, ◌<◌, ◌⊎◌, ⊎_elim, inl, inr, ℕ, length, Option, None, Some, sym, subst, ◌∙◌}
use Rattle.std.proofs.lemmas.List.{length-set}
use Rattle.shard_state.specs.meaning.Telling.{Graphs}
use Rattle.shard_events.specs.meaning.Events.{MayTake, with_holder}
use Rattle.shard_events.specs.meaning.Machine.{Actor, HoldsNone, State, holder_of, stage_of, Task, Live}
use Rattle.shard_events.specs.meaning.Rule.{Rule}
use Rattle.shard_events.proofs.SetItems.{set-holds, some-within}

module _ (graphs : Graphs) (state : State) (rule : Rule graphs state) where
  -- there is a shard where there is a holder
  pub held-within : (x : Actor) (s : ℕ) → holder_of state s ≡ Some x → s < length state.shards
  held-within x s holds = subst (λ n. s < n) rule.machine.holders (some-within state.holders s x holds)

  -- a shard gets another holder, or none
  module _ (s : ℕ) (within : s < length state.shards) (holder : Option Actor) where
    -- what holds of the new holder, and of those before, holds of each
    holder-holds : (P : Option Actor → Type 0) (r : ℕ) → (r ≡ s → P holder) → P (holder_of state r) → P (holder_of (with_holder state s holder) r)
    holder-holds P r here there = set-holds P state.holders s r holder None (subst (λ n. s < n) (sym rule.machine.holders) within) here (λ _. there)

    -- the rule holds if what it says of holders does
    Rule-with_holder : ((x : Actor) (r q : ℕ) → holder_of (with_holder state s holder) r ≡ Some x → holder_of (with_holder state s holder) q ≡ Some x → r ≡ q) →
        ((t r : ℕ) → holder_of (with_holder state s holder) r ≡ Some (Task t) → stage_of graphs state t ≡ Live) → Rule graphs (with_holder state s holder)
    Rule-with_holder one live =
        let order = rule.ordered in
        record {
          machine = record {
            some = rule.machine.some;
            numbered = rule.machine.numbered;
            holders = length-set state.holders s holder ∙ rule.machine.holders;
            puts = rule.machine.puts;
            stages = rule.machine.stages;
          };
          simple = rule.simple;
          ordered = record { seen = order.seen; front = order.front; known = order.known; stamped = order.stamped; last = order.last };
          done = rule.done;
          begun = rule.begun;
          floors = rule.floors;
          told = rule.told;
          parts = rule.parts;
          one = one;
          live = live;
        }

  -- a shard is put back
  module _ (x : Actor) (s : ℕ) (holds : holder_of state s ≡ Some x) where
    -- whoever holds a shard then held it before
    held-before : (y : Actor) (r : ℕ) → holder_of (with_holder state s None) r ≡ Some y → holder_of state r ≡ Some y
    held-before y r = holder-holds s (held-within x s holds) None (λ h. h ≡ Some y → holder_of state r ≡ Some y) r (λ _ none. absurd cc) (λ held. held)

    -- the rule holds
    pub Rule-put_back : Rule graphs (with_holder state s None)
    Rule-put_back =
        Rule-with_holder s (held-within x s holds) None (λ y r q first second. rule.one y r q (held-before y r first) (held-before y q second))
        (λ t r held. rule.live t r (held-before (Task t) r held))

  -- a shard is taken by an actor that holds none
  module _ (x : Actor) (s : ℕ) (within : s < length state.shards) (none : HoldsNone state x) (may : MayTake graphs state x) where
    -- whoever holds a shard then took it now, or held it before
    taken-or_before : (y : Actor) (r : ℕ) → holder_of (with_holder state s (Some x)) r ≡ Some y → ((x ≡ y) × (r ≡ s)) ⊎ (holder_of state r ≡ Some y)
    taken-or_before y r = holder-holds s within (Some x) (λ h. h ≡ Some y → ((x ≡ y) × (r ≡ s)) ⊎ (holder_of state r ≡ Some y)) r (λ here same. inl (cc, here)) inr

    -- the actor itself held none before
    holds-none : (y : Actor) (r : ℕ) → x ≡ y → holder_of state r ≡ Some y → ⊥
    holds-none y r same held = none r (subst (λ z. holder_of state r ≡ Some z) (sym same) held)

    -- so nobody holds two
    one-taken : (y : Actor) (r q : ℕ) → ((x ≡ y) × (r ≡ s)) ⊎ (holder_of state r ≡ Some y) → ((x ≡ y) × (q ≡ s)) ⊎ (holder_of state q ≡ Some y) → r ≡ q
    one-taken y r q (inl first) (inl second) = first.1 ∙ sym second.1
    one-taken y r q (inl first) (inr held) = absurd (holds-none y q first.0 held)
    one-taken y r q (inr held) (inl second) = absurd (holds-none y r second.0 held)
    one-taken y r q (inr first) (inr second) = rule.one y r q first second

    -- the rule holds
    pub Rule-taken : Rule graphs (with_holder state s (Some x))
    Rule-taken =
        Rule-with_holder s within (Some x) (λ y r q first second. one-taken y r q (taken-or_before y r first) (taken-or_before y q second))
        (λ t r held. ⊎_elim (λ taken. subst (MayTake graphs state) taken.0 may) (rule.live t r) (taken-or_before (Task t) r held))
