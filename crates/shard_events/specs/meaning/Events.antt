-- The events of a machine: what may happen next, and what it leads to.
use Rattle.std.specs.Prelude.{◌≡◌, ◌+◌, ◌-◌, ◌%◌, ◌<◌, ◌≤◌, ℕ, true, false, List, [], ◌∷◌, length, set, replicate, Option, None, Some}
use Rattle.shard_state.specs.calls.Sharing.{KeepGraph}
use Rattle.shard_state.specs.meaning.Joining.{shard_at}
use Rattle.shard_state.specs.meaning.Shards.{ShardValue, applied, pruned}
use Rattle.shard_state.specs.meaning.Telling.{AreSimple, Graphs, last_of}
use Rattle.shard_events.specs.meaning.Machine.{Actor, HasPart, HoldsNone, Stage, State, holder_of, part_of_shard, stage_of, was_put, Ingest, Watch, Task, Waiting, Live, Finished}

pub data Event : Type 0 where
  Take : Actor → ℕ → Event
  PutBack : Actor → ℕ → Event
  PutPart : ℕ → Event
  PutPruned : ℕ → ℕ → Event
  Fetch : ℕ → ℕ → Event
  Stamp : Event
  Begin : ℕ → Event
  Finish : ℕ → Event
  SeeDone : Event
  Raise : Event
  SeeFront : Event

-- the ingest and the watch may take shards at any time, a task while it is live
abbrev pub MayTake : Graphs → State → Actor → Type 0
MayTake graphs state Ingest = Unit {0}
MayTake graphs state Watch = Unit {0}
MayTake graphs state (Task t) = stage_of graphs state t ≡ Live

-- the state with another holder of shard s, or with none
abbrev pub with_holder : State → ℕ → Option Actor → State
with_holder state s holder = record {
  shards = state.shards;
  holders = set state.holders s holder;
  puts = state.puts;
  stamped = state.stamped;
  stages = state.stages;
  known = state.known;
  front = state.front;
  seen = state.seen;
}

-- the state with another shard s
abbrev pub with_shard : State → ℕ → ShardValue → State
with_shard state s shard = record {
  shards = set state.shards s shard;
  holders = state.holders;
  puts = state.puts;
  stamped = state.stamped;
  stages = state.stages;
  known = state.known;
  front = state.front;
  seen = state.seen;
}

-- the state in which shard s is noted as put with its part
abbrev pub with_put : State → ℕ → State
with_put state s = record {
  shards = state.shards;
  holders = state.holders;
  puts = set state.puts s true;
  stamped = state.stamped;
  stages = state.stages;
  known = state.known;
  front = state.front;
  seen = state.seen;
}

-- the state stamped once more, with no shard put yet
abbrev pub with_stamp : State → State
with_stamp state = record {
  shards = state.shards;
  holders = state.holders;
  puts = replicate (length state.shards) false;
  stamped = state.stamped + 1;
  stages = state.stages;
  known = state.known;
  front = state.front;
  seen = state.seen;
}

-- the state in which the task of timestamp t is so far
abbrev pub with_stage : Graphs → State → ℕ → Stage → State
with_stage graphs state t stage = record {
  shards = state.shards;
  holders = state.holders;
  puts = state.puts;
  stamped = state.stamped;
  stages = set state.stages (t - (graphs.first + 1)) stage;
  known = state.known;
  front = state.front;
  seen = state.seen;
}

-- the state with these in place of what is known, the front, and the front that was seen
abbrev pub with_fronts : State → ℕ → ℕ → ℕ → State
with_fronts state known front seen = record {
  shards = state.shards;
  holders = state.holders;
  puts = state.puts;
  stamped = state.stamped;
  stages = state.stages;
  known = known;
  front = front;
  seen = seen;
}

-- the shard with its part of the group after the stamped timestamp
abbrev pub with_next_part : Graphs → State → ℕ → ShardValue
with_next_part graphs state s = applied (shard_at state.shards s) (part_of_shard graphs state s (state.stamped + 1)).changes (state.stamped + 1)

-- The event may happen in the one state, and leads to the other.
pub data Leads (graphs : Graphs) (state : State) : Event → State → Type 0 where
  -- An actor that holds none takes a shard that is at home.
  take : (x : Actor) (s : ℕ) → s < length state.shards → holder_of state s ≡ None → HoldsNone state x → MayTake graphs state x → Leads graphs state (Take x s) (with_holder state s (Some x))
  -- An actor puts a shard back as it took it.
  put_back : (x : Actor) (s : ℕ) → holder_of state s ≡ Some x → Leads graphs state (PutBack x s) (with_holder state s None)
  -- The ingest puts a shard back with its part of the next group, which it has not been put with before.
  put_part : (s : ℕ) → holder_of state s ≡ Some Ingest → was_put state s ≡ false → HasPart graphs state s (state.stamped + 1)
      → Leads graphs state (PutPart s) (with_put (with_holder (with_shard state s (with_next_part graphs state s)) s None) s)
  -- The watch puts a shard back, pruned at most to the front that it saw.
  put_pruned : (s f : ℕ) → holder_of state s ≡ Some Watch → f ≤ state.seen
      → Leads graphs state (PutPruned s f) (with_holder (with_shard state s (pruned (shard_at state.shards s) f)) s None)
  -- A task reads a vertex of the shard that it holds. Nothing changes.
  fetch : (t v : ℕ) → holder_of state (v % length state.shards) ≡ Some (Task t) → Leads graphs state (Fetch t v) state
  -- The next timestamp is stamped, once all shards in which its group changes something were put with their part.
  stamp : HoldsNone state Ingest → state.stamped < last_of graphs → ((s : ℕ) → s < length state.shards → HasPart graphs state s (state.stamped + 1) → was_put state s ≡ true)
      → Leads graphs state Stamp (with_stamp state)
  -- The task of a stamped timestamp begins.
  begin : (t : ℕ) → t ≤ state.stamped → stage_of graphs state t ≡ Waiting → Leads graphs state (Begin t) (with_stage graphs state t Live)
  -- A live task that holds no shard is finished.
  finish : (t : ℕ) → stage_of graphs state t ≡ Live → HoldsNone state (Task t) → Leads graphs state (Finish t) (with_stage graphs state t Finished)
  -- The watch learns that one task more is finished.
  see_done : state.known < last_of graphs → stage_of graphs state (state.known + 1) ≡ Finished → Leads graphs state SeeDone (with_fronts state (state.known + 1) state.front state.seen)
  -- The front is raised to what is known.
  raise : Leads graphs state Raise (with_fronts state state.known state.known state.seen)
  -- The watch looks at the front.
  see_front : Leads graphs state SeeFront (with_fronts state state.known state.front state.front)

-- events, one after another, lead from the one state to the other
pub data LeadTo (graphs : Graphs) (first : State) : List Event → State → Type 0 where
  none : LeadTo graphs first [] first
  more : (events : List Event) (mid : State) (event : Event) (last : State) → LeadTo graphs first events mid → Leads graphs mid event last → LeadTo graphs first (event ∷ events) last

-- A machine begins with shards that keep the first graph, all at home. Nothing is stamped, no task has begun.
pub record Begins (graphs : Graphs) (state : State) : Type 0 where
  pub keep : KeepGraph state.shards graphs.first graphs.base
  pub simple : AreSimple graphs
  pub holders : state.holders ≡ replicate (length state.shards) None
  pub puts : state.puts ≡ replicate (length state.shards) false
  pub stamped : state.stamped ≡ graphs.first
  pub stages : state.stages ≡ replicate (length graphs.later) Waiting
  pub known : state.known ≡ graphs.first
  pub front : state.front ≡ graphs.first
  pub seen : state.seen ≡ graphs.first
