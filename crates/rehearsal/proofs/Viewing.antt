-- That shards which tell the graphs, each up to where it took them in, show a live task those before and after its group.
use Rattle.std.proofs.Common.{◌≡◌, ◌<◌, ◌≤◌, ◌+◌, ◌-◌, ◌%◌, ⊎_elim, ℕ, suc, true, false, cond, min, List, [], ◌∷◌, length, get_or, ◌&&◌, is_none, sym, ap, subst, ◌∙◌, arith}
use Rattle.std.specs.List.{AllByRecursion}
use Rattle.std.proofs.lemmas.Bool.{and_parts, cases_lt}
use Rattle.graph_types.specs.meaning.Graph.{Graph}
use Rattle.graph_types.specs.meaning.Simple.{IsSimple}
use Rattle.mining_model.specs.meaning.History.{graph_at}
use Rattle.group_window.specs.meaning.Windows.{IsSound, WindowValue, graph_of as window_graph}
use Rattle.shard_events.specs.meaning.Machine.{State, stage_of as task_stage, was_put, Live as Lives}
use Rattle.shard_events.specs.meaning.Rule.{Rule, taken_up_to}
use Rattle.shard_state.specs.calls.Viewing.{CanBeViewed}
use Rattle.shard_state.specs.meaning.Joining.{Hold, joined_graph, shard_at, shard_of_vertex}
use Rattle.shard_state.specs.meaning.Shards.{IsOwn, ShardValue}
use Rattle.shard_state.specs.meaning.Telling.{Graphs, graph_of, last_of}
use Rattle.shard_state.proofs.Joined.{joined-is}
use Rattle.shard_state.proofs.Told.{simple-at}
use Rattle.update_rules.specs.meaning.Places.{entry_at}
use Rattle.rehearsal.specs.declared.event.Event.TheVariants as event
use Rattle.rehearsal.specs.meaning.MachineState.{MachineState, Finished}
use Rattle.rehearsal.specs.meaning.Shown.{shown, shown_stage}
use Rattle.rehearsal.specs.meaning.Soundness.{IsSoundState, graphs_from}
use Rattle.rehearsal.specs.meaning.Table.{group_of, is_live, may, task_is}
use Rattle.rehearsal.proofs.Leading.{task-test, task-within}
use Rattle.rehearsal.proofs.Moving.{live-is, same-graph}
use Rattle.rehearsal.proofs.Showing.{stage-shown}

pub each-by_number : (P : ShardValue → Type 0) (shards : List ShardValue) → ((i : ℕ) → i < length shards → P (shard_at shards i)) → AllByRecursion P shards
each-by_number P [] each = tt
each-by_number P (shard ∷ shards) each =
    let some : 0 < length (shard ∷ shards) = omega arith in
    (each 0 some, each-by_number P shards (λ i within. let few : suc i < length (shard ∷ shards) = omega (arith, within) in each (suc i) few))

module _ (graphs : Graphs) (state : State) (rule : Rule graphs state) where
  stamped-taken : (s : ℕ) → state.stamped ≤ taken_up_to state s
  stamped-taken s = elim (was_put state s) as (λ b. state.stamped ≤ cond b (state.stamped + 1) state.stamped) [ true ↦ omega arith | false ↦ omega arith ]

  -- at a stamped timestamp that no shard is pruned beyond they hold the graph
  pub hold-stamped : (t : ℕ) → graphs.first ≤ t → t ≤ state.stamped → ((s : ℕ) → s < length state.shards → (shard_at state.shards s).floor ≤ t) → Hold state.shards t (graph_of graphs t)
  hold-stamped t from within floors = record {
    simple = simple-at graphs rule.simple t;
    entries = λ p.
        let some = rule.machine.some in
        let number : p.0 % length state.shards < length state.shards = omega (arith, some) in
        let made = rule.machine.numbered (p.0 % length state.shards) number in
        let taken = stamped-taken (p.0 % length state.shards) in
        let now : min t (taken_up_to state (p.0 % length state.shards)) ≡ t = omega (arith, taken, within) in
        let own : IsOwn (shard_of_vertex state.shards p.0) p.0 = ap (λ k. p.0 % k) made.1 ∙ sym made.0 in
        (rule.told (p.0 % length state.shards) number).entries p own t from (floors (p.0 % length state.shards) number) ∙ ap (λ k. entry_at (graph_of graphs k) p) now;
  }

  module _ (t : ℕ) (live : task_stage graphs state t ≡ Lives) (last : t ≤ last_of graphs) where
    -- a live task is of a stamped timestamp that is not known to be done
    live-by : t ≤ state.stamped
    live-by = ⊎_elim (λ beyond. let waits = rule.begun t last beyond in absurd cc) (λ by. by) (cases_lt state.stamped t)

    live-after : state.known < t
    live-after = ⊎_elim (λ later. later) (λ known. let done = rule.done t known in absurd cc) (cases_lt state.known t)

    live-first : graphs.first < t
    live-first = let after = live-after in let order = rule.ordered in let seen = order.seen in let front = order.front in let known = order.known in omega (arith, after, seen, front, known)

    floors-below : (s : ℕ) → s < length state.shards → (shard_at state.shards s).floor < t
    floors-below s within = let after = live-after in let low = rule.floors s within in let known = rule.ordered.known in omega (arith, after, low, known)

    pub hold-before : Hold state.shards (t - 1) (graph_of graphs (t - 1))
    hold-before = let from = live-first in let by = live-by in hold-stamped (t - 1) (omega (arith, from)) (omega (arith, by)) (λ s within. let low = floors-below s within in omega (arith, low))

    pub hold-after : Hold state.shards t (graph_of graphs t)
    hold-after = let from = live-first in let by = live-by in hold-stamped t (omega (arith, from)) by (λ s within. let low = floors-below s within in omega (arith, low))

    pub viewed : CanBeViewed state.shards t
    viewed = record {
      some = rule.machine.some;
      floors = each-by_number (λ shard. shard.floor < t) state.shards floors-below;
      before = (graph_of graphs (t - 1), hold-before);
      after = (graph_of graphs t, hold-after);
    }

module _ (w : WindowValue) (g : Graph) (window : IsSound w) (m : MachineState) (sound : IsSoundState w g m) (group : ℕ) (within : group < length w.later) (is : may w m (event.Explore (w.first + (group + 1))) ≡ true) where
  abbrev at : ℕ
  at = w.first + (group + 1)

  some-group : 0 < length w.later
  some-group = omega (arith, within)

  live : task_stage (graphs_from w g) (shown w m) at ≡ Lives
  live =
      let task = (and_parts (task_is w m is_live at) (is_none m.ingest && is_none m.watch) is).0 in
      stage-shown w m g at (task-within w g window m sound at is_live task).0
      ∙ ap shown_stage (live-is (get_or m.stages (group_of w at) Finished) (task-test w g window m sound at is_live task))

  last : at ≤ last_of (graphs_from w g)
  last = omega (arith, within)

  module _ (t : ℕ) (t-is : t ≡ w.first + (group + 1)) where
    pub viewed-group : CanBeViewed m.shards t
    viewed-group = subst (CanBeViewed m.shards) (sym t-is) (viewed (graphs_from w g) (shown w m) sound.ruled at live last)

    pub joined-before : joined_graph m.shards (t - 1) ≡ window_graph w group
    joined-before =
        let place : at - 1 - w.first ≡ group = omega arith in
        ap (λ k. joined_graph m.shards (k - 1)) t-is
        ∙ joined-is m.shards (at - 1) (graph_of (graphs_from w g) (at - 1)) (hold-before (graphs_from w g) (shown w m) sound.ruled at live last)
        ∙ ap (graph_at g w.later) place ∙ sym (same-graph w g window sound.base group some-group)

    pub joined-after : joined_graph m.shards t ≡ window_graph w (group + 1)
    joined-after =
        let place : at - w.first ≡ group + 1 = omega arith in
        ap (joined_graph m.shards) t-is
        ∙ joined-is m.shards at (graph_of (graphs_from w g) at) (hold-after (graphs_from w g) (shown w m) sound.ruled at live last)
        ∙ ap (graph_at g w.later) place ∙ sym (same-graph w g window sound.base (group + 1) some-group)

    simple-of : (i : ℕ) → IsSimple (window_graph w i)
    simple-of i =
        let place : w.first + i - w.first ≡ i = omega arith in
        subst IsSimple (sym (same-graph w g window sound.base i some-group)) (subst (λ k. IsSimple (graph_at g w.later k)) place (simple-at (graphs_from w g) sound.ruled.simple (w.first + i)))

    pub simple-before : IsSimple (joined_graph m.shards (t - 1))
    simple-before = subst IsSimple (sym joined-before) (simple-of group)

    pub simple-after : IsSimple (joined_graph m.shards t)
    simple-after = subst IsSimple (sym joined-after) (simple-of (group + 1))
