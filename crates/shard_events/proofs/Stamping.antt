-- That the next timestamp is stamped under the rule.
use Rattle.std.proofs.Common.{◌≡◌, ◌+◌, ◌<◌, ⊎_elim, ℕ, true, false, cond, [], length, sym, subst, ◌∙◌, refl, arith}
use Rattle.std.proofs.lemmas.Bool.{false≢true}
use Rattle.std.proofs.lemmas.List.{length-replicate}
use Rattle.shard_state.specs.meaning.Joining.{shard_at}
use Rattle.shard_state.specs.meaning.Telling.{Graphs, Tells, last_of, part_at}
use Rattle.shard_state.proofs.Told.{Tells-passed}
use Rattle.shard_events.specs.meaning.Events.{with_stamp}
use Rattle.shard_events.specs.meaning.Machine.{HasPart, State, part_of_shard, was_put}
use Rattle.shard_events.specs.meaning.Rule.{Rule}
use Rattle.shard_events.proofs.PartsToCome.{none-or_some}
use Rattle.shard_events.proofs.SetItems.{replicate-item}

module _ (graphs : Graphs) (state : State) (rule : Rule graphs state) (more : state.stamped < last_of graphs)
    (all : (s : ℕ) → s < length state.shards → HasPart graphs state s (state.stamped + 1) → was_put state s ≡ true) where
  module _ (s : ℕ) (within : s < length state.shards) where
    -- a shard that was put tells the next graph, since it has its part
    tells-put : was_put state s ≡ true → Tells graphs (state.stamped + 1) (shard_at state.shards s)
    tells-put put = subst (λ b. Tells graphs (cond b (state.stamped + 1) state.stamped) (shard_at state.shards s)) put (rule.told s within)

    -- and another does, since it has none
    tells-unput : was_put state s ≡ false → Tells graphs (state.stamped + 1) (shard_at state.shards s)
    tells-unput unput =
        let is = rule.machine.numbered s within in
        let before = subst (λ b. Tells graphs (cond b (state.stamped + 1) state.stamped) (shard_at state.shards s)) unput (rule.told s within) in
        ⊎_elim
        (λ none.
        Tells-passed graphs state.stamped (shard_at state.shards s) before rule.simple more
        (subst (λ n. (part_at graphs n (shard_at state.shards s).number (state.stamped + 1)).changes ≡ []) (sym is.1)
        (subst (λ m. (part_at graphs (length state.shards) m (state.stamped + 1)).changes ≡ []) (sym is.0) none)))
        (λ some. absurd (false≢true (sym unput ∙ all s within some)))
        (none-or_some (part_of_shard graphs state s (state.stamped + 1)).changes)

    -- so each does
    tells-stamped : Tells graphs (state.stamped + 1) (shard_at state.shards s)
    tells-stamped = elim (was_put state s) as (λ b. was_put state s ≡ b → Tells graphs (state.stamped + 1) (shard_at state.shards s)) [ true ↦ tells-put | false ↦ tells-unput ] refl

  -- afterwards none was put
  none-put : (s : ℕ) → was_put (with_stamp state) s ≡ false
  none-put s = replicate-item (length state.shards) s false

  -- the rule holds
  pub Rule-stamped : Rule graphs (with_stamp state)
  Rule-stamped =
      let order = rule.ordered in
      record {
        machine = record {
          some = rule.machine.some;
          numbered = rule.machine.numbered;
          holders = rule.machine.holders;
          puts = length-replicate (length state.shards) false;
          stages = rule.machine.stages;
        };
        simple = rule.simple;
        ordered = record { seen = order.seen; front = order.front; known = order.known; stamped = let known = order.stamped in omega (arith, known); last = omega (arith, more) };
        done = rule.done;
        begun = λ t within later. rule.begun t within (omega (arith, later));
        floors = rule.floors;
        told = λ s within.
            subst (λ b. Tells graphs (cond b (state.stamped + 1 + 1) (state.stamped + 1)) (shard_at state.shards s)) (sym (none-put s)) (tells-stamped s within);
        parts = λ s within put. absurd (false≢true (sym (none-put s) ∙ put));
        one = rule.one;
        live = rule.live;
      }
