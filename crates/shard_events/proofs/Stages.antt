-- How far the tasks are.
use Rattle.std.proofs.Common.{◌≡◌, ◌≢◌, ◌+◌, ◌-◌, ◌<◌, ◌≤◌, ⊎_elim, ℕ, suc, ◌∷◌, length, get_or, sym, ap, subst, ◌∙◌, arith}
use Rattle.std.proofs.lemmas.Bool.{cases_lt}
use Rattle.std.proofs.lemmas.List.{get_or_past}
use Rattle.shard_state.specs.meaning.Telling.{Graphs, last_of}
use Rattle.shard_events.specs.meaning.Events.{with_stage}
use Rattle.shard_events.specs.meaning.Machine.{Stage, State, stage_of, Live, Finished}
use Rattle.shard_events.specs.meaning.Rule.{Rule}
use Rattle.shard_events.proofs.SetItems.{set-holds}

module _ (graphs : Graphs) (state : State) where
  -- up to the first timestamp nothing is left to do
  pub stage-up_to_first : (t : ℕ) → t ≤ graphs.first → stage_of graphs state t ≡ Finished
  stage-up_to_first t early = let none : t - graphs.first ≡ 0 = omega arith in ap (λ k. get_or (Finished ∷ state.stages) k Finished) none

  -- after it there is a stage for each
  pub stage-after_first : (t : ℕ) → graphs.first < t → stage_of graphs state t ≡ get_or state.stages (t - (graphs.first + 1)) Finished
  stage-after_first t later = let next : t - graphs.first ≡ suc (t - (graphs.first + 1)) = omega arith in ap (λ k. get_or (Finished ∷ state.stages) k Finished) next

  -- a task that isn't finished is after the first timestamp, and not after the last
  unfinished-after : (t : ℕ) → stage_of graphs state t ≢ Finished → graphs.first < t
  unfinished-after t unfinished = ⊎_elim (λ later. later) (λ early. absurd (unfinished (stage-up_to_first t early))) (cases_lt graphs.first t)

  unfinished-within : length state.stages ≡ length graphs.later → (t : ℕ) → stage_of graphs state t ≢ Finished → t ≤ last_of graphs
  unfinished-within all t unfinished =
      ⊎_elim (λ beyond.
      let from : graphs.first < t = omega arith in
      let past : length state.stages ≤ t - (graphs.first + 1) = omega arith in
      absurd (unfinished (stage-after_first t from ∙ get_or_past state.stages (t - (graphs.first + 1)) Finished past)))
      (λ within. within)
      (cases_lt (last_of graphs) t)

module _ (graphs : Graphs) (state : State) (all : length state.stages ≡ length graphs.later) (t : ℕ) (unfinished : stage_of graphs state t ≢ Finished) where
  -- so its stage has a place in the list
  has-place : t - (graphs.first + 1) < length state.stages
  has-place =
      let from = unfinished-after graphs state t unfinished in
      let to = unfinished-within graphs state all t unfinished in
      omega (arith, from, to, all)

  -- where such a task goes on: what holds of its new stage, and of the others' as they were, holds of each
  pub with_stage-holds : (P : Stage → Type 0) (stage : Stage) (r : ℕ) → (r ≡ t → P stage) → (r ≢ t → P (stage_of graphs state r)) → P (stage_of graphs (with_stage graphs state t stage) r)
  with_stage-holds P stage r here there =
      let from = unfinished-after graphs state t unfinished in
      ⊎_elim
      (λ later.
      subst P (sym (stage-after_first graphs (with_stage graphs state t stage) r later))
      (set-holds P state.stages (t - (graphs.first + 1)) (r - (graphs.first + 1)) stage Finished has-place (λ same. here (omega (arith, from, later, same)))
      (λ apart. subst P (stage-after_first graphs state r later) (there (λ same. apart (ap (λ k. k - (graphs.first + 1)) same))))))
      (λ early.
      subst P (stage-up_to_first graphs state r early ∙ sym (stage-up_to_first graphs (with_stage graphs state t stage) r early))
      (there (λ same. omega (arith, from, early, same))))
      (cases_lt graphs.first r)

-- of a live task, under the rule
module _ (graphs : Graphs) (state : State) (rule : Rule graphs state) (t : ℕ) (live : stage_of graphs state t ≡ Live) where
  -- it isn't finished
  pub live-unfinished : stage_of graphs state t ≢ Finished
  live-unfinished finished = cc

  -- it is of a stamped timestamp
  pub live-stamped : t ≤ state.stamped
  live-stamped =
      let within = unfinished-within graphs state rule.machine.stages t live-unfinished in
      ⊎_elim (λ beyond. let waiting = rule.begun t within beyond in absurd cc) (λ stamped. stamped) (cases_lt state.stamped t)

  -- and later than what is known to be done
  pub live-unknown : state.known < t
  live-unknown = ⊎_elim (λ later. later) (λ known. absurd (live-unfinished (rule.done t known))) (cases_lt state.known t)
