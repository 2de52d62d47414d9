-- That the watch learns, raises the front and looks at it under the rule.
use Rattle.std.proofs.Common.{◌≡◌, ◌+◌, ◌<◌, ◌≤◌, ⊎_elim, ℕ, subst, sym, arith}
use Rattle.std.proofs.lemmas.Bool.{cases_lt}
use Rattle.shard_state.specs.meaning.Telling.{Graphs, last_of}
use Rattle.shard_events.specs.meaning.Events.{with_fronts}
use Rattle.shard_events.specs.meaning.Machine.{State, stage_of, Finished}
use Rattle.shard_events.specs.meaning.Rule.{AreOrdered, Rule}

module _ (graphs : Graphs) (state : State) (rule : Rule graphs state) where
  -- other fronts in their order, none of them lower, and up to what is known each task finished
  Rule-with_fronts : (known front seen : ℕ) → AreOrdered graphs (with_fronts state known front seen) → ((t : ℕ) → t ≤ known → stage_of graphs state t ≡ Finished) → state.front ≤ front → Rule graphs (with_fronts state known front seen)
  Rule-with_fronts known front seen ordered done higher = record {
    machine = record { some = rule.machine.some; numbered = rule.machine.numbered; holders = rule.machine.holders; puts = rule.machine.puts; stages = rule.machine.stages };
    simple = rule.simple;
    ordered = ordered;
    done = done;
    begun = rule.begun;
    floors = λ s within. let low = rule.floors s within in omega (arith, low, higher);
    told = rule.told;
    parts = rule.parts;
    one = rule.one;
    live = rule.live;
  }

  -- a finished task is of a stamped timestamp
  finished-stamped : (t : ℕ) → t ≤ last_of graphs → stage_of graphs state t ≡ Finished → t ≤ state.stamped
  finished-stamped t within finished = ⊎_elim (λ beyond. let waiting = rule.begun t within beyond in absurd cc) (λ stamped. stamped) (cases_lt state.stamped t)

  -- the watch learns that one task more is finished
  pub Rule-seen_done : state.known < last_of graphs → stage_of graphs state (state.known + 1) ≡ Finished → Rule graphs (with_fronts state (state.known + 1) state.front state.seen)
  Rule-seen_done more finished =
      let order = rule.ordered in
      Rule-with_fronts (state.known + 1) state.front state.seen
      (record {
        seen = order.seen;
        front = order.front;
        known = let front = order.known in omega (arith, front);
        stamped = let next : state.known + 1 ≤ last_of graphs = omega (arith, more) in finished-stamped (state.known + 1) next finished;
        last = order.last;
      })
      (λ t known.
      ⊎_elim (λ next. let same : t ≡ state.known + 1 = omega (arith, known, next) in subst (λ k. stage_of graphs state k ≡ Finished) (sym same) finished) (rule.done t)
      (cases_lt state.known t))
      (omega arith)

  -- the front is raised to what is known
  pub Rule-raised : Rule graphs (with_fronts state state.known state.known state.seen)
  Rule-raised =
      let order = rule.ordered in
      let front = order.known in
      Rule-with_fronts state.known state.known state.seen
      (record { seen = order.seen; front = let seen = order.front in omega (arith, seen, front); known = omega arith; stamped = order.stamped; last = order.last }) rule.done front

  -- the watch looks at the front
  pub Rule-seen_front : Rule graphs (with_fronts state state.known state.front state.front)
  Rule-seen_front =
      let order = rule.ordered in
      Rule-with_fronts state.known state.front state.front
      (record { seen = let first = order.seen in let seen = order.front in omega (arith, first, seen); front = omega arith; known = order.known; stamped = order.stamped; last = order.last }) rule.done
      (omega arith)
