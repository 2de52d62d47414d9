-- The table of events: when each may happen, and what it does.
use Rattle.std.specs.Prelude.{ℕ, ◌+◌, ◌-◌, Bool, true, false, not, ◌&&◌, eqb, ltb, leb, cond, List, [], ◌∷◌, ◌++◌, map as mapped, filter, length, get_or, set, drop, Option, None, Some, is_none}
use Rattle.std.specs.List.{range_with_len}
use Rattle.group_window.specs.meaning.Windows.{WindowValue, graph_of}
use Rattle.shard_state.specs.meaning.Joining.{shard_at}
use Rattle.shard_state.specs.meaning.Shards.{ShardValue, applied, pruned}
use Rattle.update_rules.specs.declared.shards.Part.{Part}
use Rattle.update_rules.specs.meaning.Parts.{parts_between}
use Rattle.rehearsal.specs.declared.event.Event.{Event}
use Rattle.rehearsal.specs.declared.event.Event.TheVariants as event
use Rattle.rehearsal.specs.meaning.MachineState.{MachineState, Stage, Waiting, Live, Explored, Finished}

abbrev pub is_waiting : Stage → Bool
is_waiting Waiting = true
is_waiting Live = false
is_waiting Explored = false
is_waiting Finished = false

abbrev pub is_live : Stage → Bool
is_live Waiting = false
is_live Live = true
is_live Explored = false
is_live Finished = false

abbrev pub is_explored : Stage → Bool
is_explored Waiting = false
is_explored Live = false
is_explored Explored = true
is_explored Finished = false

abbrev pub is_finished : Stage → Bool
is_finished Waiting = false
is_finished Live = false
is_finished Explored = false
is_finished Finished = true

-- an actor that holds this shard, or one that holds none
abbrev pub holds : Option ℕ → ℕ → Bool
holds None s = false
holds (Some r) s = eqb r s

abbrev pub is_home : MachineState → ℕ → Bool
is_home m s = not (holds m.ingest s) && not (holds m.watch s)

abbrev pub all_home : MachineState → Bool
all_home m = is_none m.ingest && is_none m.watch

-- the group of timestamp t, counted from 0, where there is one
abbrev pub group_of : WindowValue → ℕ → ℕ
group_of w t = t - (w.first + 1)

abbrev pub has_group : WindowValue → ℕ → Bool
has_group w t = ltb w.first t && leb t (w.first + length w.later)

-- there is a task of timestamp t, and it is so far
abbrev pub task_is : WindowValue → MachineState → (Stage → Bool) → ℕ → Bool
task_is w m is t = has_group w t && is (get_or m.stages (group_of w t) Finished)

-- the parts of the next group
abbrev pub group_parts : WindowValue → MachineState → List Part
group_parts w m = cond (ltb m.stamped (length w.later)) (parts_between (graph_of w m.stamped) (graph_of w (m.stamped + 1)) w.shards) []

-- those that no shard took in yet
abbrev pub next_parts : WindowValue → MachineState → List Part
next_parts w m = drop m.parts (group_parts w m)

-- the first of some parts is for this shard
abbrev pub are_for : List Part → ℕ → Bool
are_for [] s = false
are_for (part ∷ parts) s = eqb part.shard s

abbrev pub no_parts : List Part → Bool
no_parts [] = true
no_parts (part ∷ parts) = false

-- when an event may happen
abbrev pub may : WindowValue → MachineState → Event → Bool
-- The ingest holds the shard.
may w m (event.IngestPut s) = holds m.ingest s
-- The ingest holds none, the next part is for this shard, and it is at home.
may w m (event.IngestTake s) = is_none m.ingest && are_for (next_parts w m) s && is_home m s
-- The ingest holds none, a group is left, and all its parts are taken in.
may w m event.Stamp = is_none m.ingest && ltb m.stamped (length w.later) && no_parts (next_parts w m)
-- The task waits, and its timestamp is stamped.
may w m (event.Begin t) = task_is w m is_waiting t && leb t (w.first + m.stamped)
-- The task is live, and all shards are at home.
may w m (event.Explore t) = task_is w m is_live t && all_home m
-- The task is explored.
may w m (event.Finish t) = task_is w m is_explored t
-- The task is the first that the watch does not know to be finished, and it is.
may w m (event.SeeDone t) = task_is w m is_finished t && eqb t (w.first + (m.known + 1))
-- More tasks are known to be finished than the front tells.
may w m event.Raise = ltb m.front m.known
-- The front is beyond the one that the watch saw.
may w m event.SeeFront = ltb m.seen m.front
-- The watch holds the shard.
may w m (event.PrunePut s) = holds m.watch s
-- The watch holds none, the shard is at home, and it is not pruned to the front that the watch saw.
may w m (event.PruneTake s) = is_none m.watch && is_home m s && ltb s (length m.shards) && ltb (shard_at m.shards s).floor (w.first + m.seen)

-- the shard with the first of some parts
abbrev pub with_first_part : List Part → ℕ → ShardValue → ShardValue
with_first_part [] at shard = shard
with_first_part (part ∷ parts) at shard = applied shard part.changes at

abbrev pub with_ingest : MachineState → Option ℕ → MachineState
with_ingest m held = record { shards = m.shards; ingest = held; watch = m.watch; parts = m.parts; stamped = m.stamped; stages = m.stages; known = m.known; front = m.front; seen = m.seen }

abbrev pub with_watch : MachineState → Option ℕ → MachineState
with_watch m held = record { shards = m.shards; ingest = m.ingest; watch = held; parts = m.parts; stamped = m.stamped; stages = m.stages; known = m.known; front = m.front; seen = m.seen }

abbrev pub with_shard : MachineState → ℕ → ShardValue → MachineState
with_shard m s shard = record { shards = set m.shards s shard; ingest = m.ingest; watch = m.watch; parts = m.parts; stamped = m.stamped; stages = m.stages; known = m.known; front = m.front; seen = m.seen }

abbrev pub with_taken : MachineState → ℕ → ℕ → MachineState
with_taken m stamped parts = record { shards = m.shards; ingest = m.ingest; watch = m.watch; parts = parts; stamped = stamped; stages = m.stages; known = m.known; front = m.front; seen = m.seen }

abbrev pub with_stage : MachineState → ℕ → Stage → MachineState
with_stage m i stage = record { shards = m.shards; ingest = m.ingest; watch = m.watch; parts = m.parts; stamped = m.stamped; stages = set m.stages i stage; known = m.known; front = m.front; seen = m.seen }

abbrev pub with_fronts : MachineState → ℕ → ℕ → ℕ → MachineState
with_fronts m known front seen = record { shards = m.shards; ingest = m.ingest; watch = m.watch; parts = m.parts; stamped = m.stamped; stages = m.stages; known = known; front = front; seen = seen }

-- what an event that may happen leads to
abbrev pub after : WindowValue → MachineState → Event → MachineState
-- The shard goes home with the next part.
after w m (event.IngestPut s) = with_taken (with_ingest (with_shard m s (with_first_part (next_parts w m) (w.first + (m.stamped + 1)) (shard_at m.shards s))) None) m.stamped (m.parts + 1)
after w m (event.IngestTake s) = with_ingest m (Some s)
-- One group more is stamped, and of the one after it no part is taken in.
after w m event.Stamp = with_taken m (m.stamped + 1) 0
after w m (event.Begin t) = with_stage m (group_of w t) Live
after w m (event.Explore t) = with_stage m (group_of w t) Explored
after w m (event.Finish t) = with_stage m (group_of w t) Finished
after w m (event.SeeDone t) = with_fronts m (m.known + 1) m.front m.seen
after w m event.Raise = with_fronts m m.known m.known m.seen
after w m event.SeeFront = with_fronts m m.known m.front m.front
-- The shard goes home, pruned to the front that the watch saw.
after w m (event.PrunePut s) = with_watch (with_shard m s (pruned (shard_at m.shards s) (w.first + m.seen))) None
after w m (event.PruneTake s) = with_watch m (Some s)

-- all events of a window, in the order in which they are listed: those of shards by their numbers, those of tasks by
-- their timestamps
abbrev pub all_events : WindowValue → List Event
all_events w =
    let shards = range_with_len 0 w.shards in
    let stamps = range_with_len (w.first + 1) (length w.later) in
    mapped event.IngestPut shards
    ++ mapped event.IngestTake shards
    ++ event.Stamp ∷ []
    ++ mapped event.Begin stamps
    ++ mapped event.Explore stamps
    ++ mapped event.Finish stamps
    ++ mapped event.SeeDone stamps
    ++ event.Raise ∷ []
    ++ event.SeeFront ∷ []
    ++ mapped event.PrunePut shards
    ++ mapped event.PruneTake shards

-- those that may happen
abbrev pub enabled : WindowValue → MachineState → List Event
enabled w m = filter (may w m) (all_events w)
