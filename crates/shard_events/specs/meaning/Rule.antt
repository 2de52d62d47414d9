-- The rule of a machine: what holds after each event, whatever their order.
use Rattle.std.specs.Prelude.{◌≡◌, ◌+◌, ◌<◌, ◌≤◌, ℕ, true, cond, length, Some}
use Rattle.shard_state.specs.meaning.Joining.{shard_at}
use Rattle.shard_state.specs.meaning.Telling.{AreSimple, Graphs, Tells, last_of}
use Rattle.shard_events.specs.meaning.Machine.{Actor, HasPart, IsMachine, State, holder_of, stage_of, was_put, Task, Waiting, Live, Finished}

-- the timestamps in their order
pub record AreOrdered (graphs : Graphs) (state : State) : Type 0 where
  pub seen : graphs.first ≤ state.seen
  pub front : state.seen ≤ state.front
  pub known : state.front ≤ state.known
  pub stamped : state.known ≤ state.stamped
  pub last : state.stamped ≤ last_of graphs

-- the timestamp up to which shard s took in what groups change in it
abbrev pub taken_up_to : State → ℕ → ℕ
taken_up_to state s = cond (was_put state s) (state.stamped + 1) state.stamped

pub record Rule (graphs : Graphs) (state : State) : Type 0 where
  pub machine : IsMachine graphs state
  pub simple : AreSimple graphs
  -- What the watch saw is no later than the front, this no later than what is known, this no later than what is stamped.
  pub ordered : AreOrdered graphs state
  -- Each task up to the timestamp that is known is finished.
  pub done : (t : ℕ) → t ≤ state.known → stage_of graphs state t ≡ Finished
  -- Each task that has begun is of a stamped timestamp.
  pub begun : (t : ℕ) → t ≤ last_of graphs → state.stamped < t → stage_of graphs state t ≡ Waiting
  -- No shard is pruned beyond the front.
  pub floors : (s : ℕ) → s < length state.shards → (shard_at state.shards s).floor ≤ state.front
  -- Each shard tells the graphs up to the stamped timestamp, or to the next one if it was put with its part of that.
  pub told : (s : ℕ) → s < length state.shards → Tells graphs (taken_up_to state s) (shard_at state.shards s)
  -- Each shard that was put has a part of the next group.
  pub parts : (s : ℕ) → s < length state.shards → was_put state s ≡ true → HasPart graphs state s (state.stamped + 1)
  -- An actor holds one shard at most, and a task holds one only while it is live.
  pub one : (x : Actor) (s r : ℕ) → holder_of state s ≡ Some x → holder_of state r ≡ Some x → s ≡ r
  pub live : (t s : ℕ) → holder_of state s ≡ Some (Task t) → stage_of graphs state t ≡ Live
