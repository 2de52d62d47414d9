-- The task of a timestamp.
use Rattle.std.specs.Prelude.{Bool, false, Option, None, Some}
use Rattle.rehearsal.specs.declared.task.Task.{Task}
use Rattle.rehearsal.specs.declared.task.Task.TheVariants as task
use Rattle.rehearsal.specs.meaning.MachineState.{Stage, stage_of}

-- there is a task, and it is so far
abbrev pub is_so_far : (Stage → Bool) → Option Task → Bool
is_so_far is None = false
is_so_far is (Some task) = is (stage_of task)

-- a task that explored is finished
abbrev pub finished : Task → Task
finished task.Waiting = task.Waiting
finished task.Live = task.Live
finished (task.Explored delta) = task.Finished delta
finished (task.Finished delta) = task.Finished delta
