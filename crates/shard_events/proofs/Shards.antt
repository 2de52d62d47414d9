-- That shards are put with their part of the next group, and pruned, under the rule.
use Rattle.std.proofs.Common.{◌≡◌, ◌≢◌, ◌+◌, ◌<◌, ◌≤◌, ℕ, Bool, true, false, cond, List, [], length, set, refl, sym, subst, ◌∙◌, arith}
use Rattle.std.proofs.lemmas.List.{length-set}
use Rattle.shard_state.specs.meaning.Joining.{AreNumbered, shard_at}
use Rattle.shard_state.specs.meaning.Shards.{ShardValue, applied, empty_shard, pruned}
use Rattle.shard_state.specs.meaning.Telling.{Graphs, Tells, part_at}
use Rattle.shard_state.proofs.Told.{Tells-applied, Tells-pruned}
use Rattle.shard_events.specs.meaning.Events.{with_next_part, with_put, with_shard}
use Rattle.shard_events.specs.meaning.Machine.{HasPart, State, was_put}
use Rattle.shard_events.specs.meaning.Rule.{Rule, taken_up_to}
use Rattle.shard_events.proofs.PartsToCome.{part-to_come}
use Rattle.shard_events.proofs.SetItems.{set-holds}

module _ (graphs : Graphs) (state : State) (rule : Rule graphs state) (s : ℕ) (within : s < length state.shards) where
  abbrev old : ShardValue
  old = shard_at state.shards s

  -- another shard comes in the place of one
  module _ (shard : ShardValue) where
    abbrev among : List ShardValue
    among = set state.shards s shard

    -- what holds of it, and of the others as they were, holds of each
    shard-holds : (P : ShardValue → Type 0) (r : ℕ) → (r ≡ s → P shard) → (r ≢ s → P (shard_at state.shards r)) → P (shard_at among r)
    shard-holds P r here there = set-holds P state.shards s r shard (empty_shard 0 1) within here there

    -- there are as many
    many : length among ≡ length state.shards
    many = length-set state.shards s shard

    -- at the same places
    within-before : (r : ℕ) → r < length among → r < length state.shards
    within-before r is = subst (λ n. r < n) many is

    -- numbered as before, if it has the number of the old one
    AreNumbered-set : shard.number ≡ old.number → shard.shards ≡ old.shards → AreNumbered among
    AreNumbered-set number shards = λ r is.
        let before = rule.machine.numbered s within in
        subst (λ n. ((shard_at among r).number ≡ r) × ((shard_at among r).shards ≡ n)) (sym many)
        (shard-holds (λ x. (x.number ≡ r) × (x.shards ≡ length state.shards)) r (λ here. (number ∙ before.0 ∙ sym here, shards ∙ before.1)) (λ _. rule.machine.numbered r (within-before r is)))

    some-left : 0 < length among
    some-left = subst (λ n. 0 < n) (sym many) rule.machine.some

    -- none is pruned beyond the front, if it isn't
    low-left : shard.floor ≤ state.front → (r : ℕ) → r < length among → (shard_at among r).floor ≤ state.front
    low-left low r is = shard-holds (λ x. x.floor ≤ state.front) r (λ _. low) (λ _. rule.floors r (within-before r is))

    -- and their parts stay
    part-left : (r : ℕ) → HasPart graphs state r (state.stamped + 1) → HasPart graphs (with_shard state s shard) r (state.stamped + 1)
    part-left r has = subst (λ n. (part_at graphs n r (state.stamped + 1)).changes ≢ []) (sym many) has

  -- one is pruned at most to the front that the watch saw: the rule holds
  module _ (f : ℕ) (seen : f ≤ state.seen) where
    pub Rule-pruned : Rule graphs (with_shard state s (pruned old f))
    Rule-pruned =
        let shard = pruned old f in
        let order = rule.ordered in
        record {
          machine = record {
            some = some-left shard;
            numbered = AreNumbered-set shard refl refl;
            holders = rule.machine.holders ∙ sym (many shard);
            puts = rule.machine.puts ∙ sym (many shard);
            stages = rule.machine.stages;
          };
          simple = rule.simple;
          ordered = record { seen = order.seen; front = order.front; known = order.known; stamped = order.stamped; last = order.last };
          done = rule.done;
          begun = rule.begun;
          floors = low-left shard (let low = rule.floors s within in let front = order.front in omega (arith, seen, low, front));
          told = λ r is. shard-holds shard (Tells graphs (taken_up_to state r)) r
              (λ here. subst (λ k. Tells graphs (taken_up_to state k) shard) (sym here) (Tells-pruned graphs (taken_up_to state s) old (rule.told s within) f))
              (λ _. rule.told r (within-before shard r is));
          parts = λ r is put. part-left shard r (rule.parts r (within-before shard r is) put);
          one = rule.one;
          live = rule.live;
        }

  -- one is put with its part of the next group
  module _ (unput : was_put state s ≡ false) (has : HasPart graphs state s (state.stamped + 1)) where
    abbrev next : ShardValue
    next = with_next_part graphs state s

    abbrev after : State
    after = with_put (with_shard state s next) s

    -- what holds where a shard was put, and of the other notes as they were, holds of each note
    put-holds : (P : Bool → Type 0) (r : ℕ) → (r ≡ s → P true) → (r ≢ s → P (was_put state r)) → P (was_put after r)
    put-holds P r here there = set-holds P state.puts s r true false (subst (λ n. s < n) (sym rule.machine.puts) within) here there

    -- the shard tells the next graph
    tells-next : Tells graphs (state.stamped + 1) next
    tells-next =
        let is = rule.machine.numbered s within in
        let order = rule.ordered in
        let low = rule.floors s within in
        let before = subst (λ b. Tells graphs (cond b (state.stamped + 1) state.stamped) old) unput (rule.told s within) in
        subst (λ n. Tells graphs (state.stamped + 1) (applied old (part_at graphs n s (state.stamped + 1)).changes (state.stamped + 1))) is.1
        (subst (λ m. Tells graphs (state.stamped + 1) (applied old (part_at graphs old.shards m (state.stamped + 1)).changes (state.stamped + 1))) is.0
        (Tells-applied graphs state.stamped old before rule.simple (part-to_come graphs (length state.shards) s state.stamped has)
        (let front = order.known in let known = order.stamped in omega (arith, low, front, known))))

    -- so each tells the graphs as far as it took in their changes
    told-next : (r : ℕ) → r < length (among next) → Tells graphs (taken_up_to after r) (shard_at (among next) r)
    told-next r is =
        put-holds (λ b. Tells graphs (cond b (state.stamped + 1) state.stamped) (shard_at (among next) r)) r
        (λ here. shard-holds next (Tells graphs (state.stamped + 1)) r (λ _. tells-next) (λ apart. absurd (apart here)))
        (λ apart. shard-holds next (Tells graphs (taken_up_to state r)) r (λ here. absurd (apart here)) (λ _. rule.told r (within-before next r is)))

    -- the rule holds
    pub Rule-next_part : Rule graphs after
    Rule-next_part =
        let order = rule.ordered in
        record {
          machine = record {
            some = some-left next;
            numbered = AreNumbered-set next refl refl;
            holders = rule.machine.holders ∙ sym (many next);
            puts = length-set state.puts s true ∙ rule.machine.puts ∙ sym (many next);
            stages = rule.machine.stages;
          };
          simple = rule.simple;
          ordered = record { seen = order.seen; front = order.front; known = order.known; stamped = order.stamped; last = order.last };
          done = rule.done;
          begun = rule.begun;
          floors = low-left next (rule.floors s within);
          told = told-next;
          parts = λ r is put.
              part-left next r
              (put-holds (λ b. b ≡ true → HasPart graphs state r (state.stamped + 1)) r (λ here _. subst (λ k. HasPart graphs state k (state.stamped + 1)) (sym here) has)
              (λ _. rule.parts r (within-before next r is)) put);
          one = rule.one;
          live = rule.live;
        }
