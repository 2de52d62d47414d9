use Rattle.std.proofs.Common.{◌≡◌, map as mapped}
use Rattle.rehearsal.specs.declared.task.Task.TheVariants as task
use Rattle.rehearsal.proofs.rehearsing.deltas_of.Given as goal

-- what the tasks so far found is listed
abbrev pub invariant-loop-task : goal.invariant-loop-task
invariant-loop-task l = mapped task.Finished l.deltas.items ≡ l.yielded
