-- What a machine that is rehearsed stands at. Groups, and how many of them, are counted from the window's first.
use Rattle.std.specs.Prelude.{ℕ, List, map as mapped, length, Option, None, replicate}
use Rattle.group_window.specs.meaning.Windows.{WindowValue}
use Rattle.shard_state.specs.meaning.Shards.{ShardValue}
use Rattle.rehearsal.specs.declared.machine.Machine.{Machine}
use Rattle.rehearsal.specs.declared.task.Task.{Task}
use Rattle.rehearsal.specs.declared.task.Task.TheVariants as task

-- how far the task of a group is
pub data Stage : Type 0 where
  Waiting : Stage
  Live : Stage
  Explored : Stage
  Finished : Stage

pub record MachineState : Type 0 where
  -- each shard, in the order of their numbers
  pub shards : List ShardValue
  -- the shard that the ingest holds, and the one that the watch holds, if they hold one; all others are at home
  pub ingest : Option ℕ
  pub watch : Option ℕ
  -- how many parts of the next group the shards took in
  pub parts : ℕ
  -- how many groups are stamped
  pub stamped : ℕ
  -- how far the task of each group is
  pub stages : List Stage
  -- how many of the first tasks the watch knows to be finished, up to which group shards may be pruned, and up to which
  -- one the watch does
  pub known : ℕ
  pub front : ℕ
  pub seen : ℕ

abbrev pub stage_of : Task → Stage
stage_of task.Waiting = Waiting
stage_of task.Live = Live
stage_of (task.Explored delta) = Explored
stage_of (task.Finished delta) = Finished

-- what a machine stands at
abbrev pub state_of : Machine → MachineState
state_of m = record {
  shards = m.shards.items;
  ingest = m.ingest;
  watch = m.watch;
  parts = m.parts;
  stamped = m.stamped;
  stages = mapped stage_of m.tasks.items;
  known = m.known;
  front = m.front;
  seen = m.seen;
}

-- before the first event: all shards at home, all tasks waiting
abbrev pub first_state : WindowValue → List ShardValue → MachineState
first_state w shards = record {
  shards = shards;
  ingest = None;
  watch = None;
  parts = 0;
  stamped = 0;
  stages = replicate (length w.later) Waiting;
  known = 0;
  front = 0;
  seen = 0;
}
