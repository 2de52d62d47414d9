-- What stands where while the groups of a window are mined: shards that actors take and put back, the tasks of the
-- timestamps, and how far each actor knows.
use Rattle.std.specs.Prelude.{◌≡◌, ◌≢◌, ◌-◌, ◌<◌, ℕ, Bool, false, List, [], ◌∷◌, length, get_or, Option, None, Some}
use Rattle.shard_state.specs.meaning.Joining.{AreNumbered}
use Rattle.shard_state.specs.meaning.Shards.{ShardValue}
use Rattle.shard_state.specs.meaning.Telling.{Graphs, part_at}
use Rattle.update_rules.specs.declared.shards.Part.{Part}

-- Who takes shards: the ingest, which adds to them what groups change; the watch, which prunes them; and the task of a
-- timestamp, which reads them.
pub data Actor : Type 0 where
  Ingest : Actor
  Watch : Actor
  Task : ℕ → Actor

-- how far the task of a timestamp is
pub data Stage : Type 0 where
  Waiting : Stage
  Live : Stage
  Finished : Stage

-- A machine at rest between two events.
pub record State : Type 0 where
  -- each shard, in the order of their numbers, wherever it is
  pub shards : List ShardValue
  -- who holds each of them; one that nobody holds is at home
  pub holders : List (Option Actor)
  -- whether each of them was put back with its part of the group after the stamped timestamp
  pub puts : List Bool
  -- the timestamp up to which all groups are in the shards, and are known to be
  pub stamped : ℕ
  -- how far the task of each timestamp is, from the one after the first on
  pub stages : List Stage
  -- the timestamp up to which the watch knows all tasks to be finished
  pub known : ℕ
  -- the timestamp up to which shards may be pruned
  pub front : ℕ
  -- the front when the watch looked last
  pub seen : ℕ

abbrev pub holder_of : State → ℕ → Option Actor
holder_of state s = get_or state.holders s None

-- the actor holds no shard
abbrev pub HoldsNone : State → Actor → Type 0
HoldsNone state x = (s : ℕ) → holder_of state s ≢ Some x

abbrev pub was_put : State → ℕ → Bool
was_put state s = get_or state.puts s false

-- how far the task of timestamp t is; up to the first timestamp, and after the last, nothing is left to do
abbrev pub stage_of : Graphs → State → ℕ → Stage
stage_of graphs state t = get_or (Finished ∷ state.stages) (t - graphs.first) Finished

-- what the group of timestamp t changes in shard s
abbrev pub part_of_shard : Graphs → State → ℕ → ℕ → Part
part_of_shard graphs state s t = part_at graphs (length state.shards) s t

-- it changes something there
abbrev pub HasPart : Graphs → State → ℕ → ℕ → Type 0
HasPart graphs state s t = (part_of_shard graphs state s t).changes ≢ []

-- There are shards, numbered from 0 on, with a holder or none and a note for each, and a task for each timestamp.
pub record IsMachine (graphs : Graphs) (state : State) : Type 0 where
  pub some : 0 < length state.shards
  pub numbered : AreNumbered state.shards
  pub holders : length state.holders ≡ length state.shards
  pub puts : length state.puts ≡ length state.shards
  pub stages : length state.stages ≡ length graphs.later
