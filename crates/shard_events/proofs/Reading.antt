-- That a live task reads the graphs before and after its group.
use Rattle.std.proofs.Common.{◌≡◌, ◌+◌, ◌-◌, ◌%◌, ◌<◌, ◌≤◌, ℕ, true, false, cond, length, sym, ap, ◌∙◌, arith}
use Rattle.graph_types.specs.meaning.Neighbourhood.{pair_in}
use Rattle.shard_state.specs.meaning.Joining.{shard_of_vertex}
use Rattle.shard_state.specs.meaning.Shards.{IsOwn, pair_of_vertex}
use Rattle.shard_state.specs.meaning.Telling.{Graphs, graph_of}
use Rattle.shard_state.proofs.Told.{pair-told}
use Rattle.shard_events.specs.meaning.Events as event
use Rattle.shard_events.specs.meaning.Events.{Fetch, Leads}
use Rattle.shard_events.specs.meaning.Machine.{State, stage_of, was_put, Live}
use Rattle.shard_events.specs.meaning.Rule.{Rule, taken_up_to}
use Rattle.shard_events.proofs.Stages.{live-stamped, live-unknown}

module _ (graphs : Graphs) (state : State) (rule : Rule graphs state) where
  -- a shard took in all that is stamped, or more
  stamped-taken : (s : ℕ) → state.stamped ≤ taken_up_to state s
  stamped-taken s = elim (was_put state s) as (λ b. state.stamped ≤ cond b (state.stamped + 1) state.stamped) [ true ↦ omega arith | false ↦ omega arith ]

  module _ (t v : ℕ) (live : stage_of graphs state t ≡ Live) where
    abbrev number : ℕ
    number = v % length state.shards

    -- the shard of a vertex is there
    within : number < length state.shards
    within = let some = rule.machine.some in omega (arith, some)

    -- and the vertex is its own
    own : IsOwn (shard_of_vertex state.shards v) v
    own = let is = rule.machine.numbered number within in ap (λ n. v % n) is.1 ∙ sym is.0

    -- it tells a live task what the vertex has before and after its group
    pair-live : pair_of_vertex (shard_of_vertex state.shards v) v t ≡ pair_in (graph_of graphs (t - 1)) (graph_of graphs t) v
    pair-live =
        let order = rule.ordered in
        let unknown = live-unknown graphs state rule t live in
        let stamped = live-stamped graphs state rule t live in
        let low = rule.floors number within in
        let taken = stamped-taken number in
        let first = order.seen in
        let seen = order.front in
        let front = order.known in
        pair-told graphs (taken_up_to state number) (shard_of_vertex state.shards v) (rule.told number within) rule.simple v t own (omega (arith, first, seen, front, unknown)) (omega (arith, low, front, unknown))
        (omega (arith, stamped, taken))

-- so that is what it reads
pub pair-fetched : (graphs : Graphs) (state next : State) (t v : ℕ) → Rule graphs state → Leads graphs state (Fetch t v) next →
    pair_of_vertex (shard_of_vertex state.shards v) v t ≡ pair_in (graph_of graphs (t - 1)) (graph_of graphs t) v
pair-fetched graphs state _ _ _ rule (event.fetch t v holds) = pair-live graphs state rule t v (rule.live t (v % length state.shards) holds)
