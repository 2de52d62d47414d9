-- That tasks begin, and are finished, under the rule.
use Rattle.std.proofs.Common.{◌≡◌, ◌≢◌, ◌≤◌, ℕ, Some, refl, subst, ◌∙◌, arith}
use Rattle.std.proofs.lemmas.List.{length-set}
use Rattle.shard_state.specs.meaning.Telling.{Graphs}
use Rattle.shard_events.specs.meaning.Events.{with_stage}
use Rattle.shard_events.specs.meaning.Machine.{HoldsNone, Stage, State, holder_of, stage_of, Task, Waiting, Live, Finished}
use Rattle.shard_events.specs.meaning.Rule.{Rule}
use Rattle.shard_events.proofs.Stages.{live-stamped, live-unfinished, with_stage-holds}

module _ (graphs : Graphs) (state : State) (rule : Rule graphs state) (t : ℕ) where
  -- a task that isn't finished goes on
  module _ (unfinished : stage_of graphs state t ≢ Finished) (stamped : t ≤ state.stamped) (stage : Stage) where
    -- what holds of its new stage, and of the others' as they were, holds of each
    stage-holds : (P : Stage → Type 0) (r : ℕ) → (r ≡ t → P stage) → (r ≢ t → P (stage_of graphs state r)) → P (stage_of graphs (with_stage graphs state t stage) r)
    stage-holds P r here there = with_stage-holds graphs state rule.machine.stages t unfinished P stage r here there

    -- the rule holds if what it says of this task does
    Rule-with_stage : (t ≤ state.known → stage ≡ Finished) → ((s : ℕ) → holder_of state s ≡ Some (Task t) → stage ≡ Live) → Rule graphs (with_stage graphs state t stage)
    Rule-with_stage done live =
        let order = rule.ordered in
        record {
          machine = record {
            some = rule.machine.some;
            numbered = rule.machine.numbered;
            holders = rule.machine.holders;
            puts = rule.machine.puts;
            stages = length-set state.stages _ stage ∙ rule.machine.stages;
          };
          simple = rule.simple;
          ordered = record { seen = order.seen; front = order.front; known = order.known; stamped = order.stamped; last = order.last };
          done = λ r known. stage-holds (λ x. x ≡ Finished) r (λ here. done (omega (arith, here, known))) (λ _. rule.done r known);
          begun = λ r within later. stage-holds (λ x. x ≡ Waiting) r (λ here. absurd (omega (arith, here, later, stamped))) (λ _. rule.begun r within later);
          floors = rule.floors;
          told = rule.told;
          parts = rule.parts;
          one = rule.one;
          live = λ r s holds.
              stage-holds (λ x. x ≡ Live) r (λ here. live s (subst (λ k. holder_of state s ≡ Some (Task k)) here holds)) (λ _. rule.live r s holds);
        }

  -- the task of a stamped timestamp begins
  pub Rule-begins : t ≤ state.stamped → stage_of graphs state t ≡ Waiting → Rule graphs (with_stage graphs state t Live)
  Rule-begins stamped waiting = Rule-with_stage (λ finished. cc) stamped Live (λ known. let finished = rule.done t known in absurd cc) (λ s holds. refl)

  -- a task that holds no shard is finished
  pub Rule-finished : stage_of graphs state t ≡ Live → HoldsNone state (Task t) → Rule graphs (with_stage graphs state t Finished)
  Rule-finished live none =
      Rule-with_stage (live-unfinished graphs state rule t live) (live-stamped graphs state rule t live) Finished (λ known. refl) (λ s holds. absurd (none s holds))
