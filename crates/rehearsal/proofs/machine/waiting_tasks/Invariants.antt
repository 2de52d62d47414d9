use Rattle.std.proofs.Common.{◌≡◌, replicate}
use Rattle.rehearsal.specs.declared.task.Task.TheVariants as task
use Rattle.rehearsal.proofs.machine.waiting_tasks.Given as goal

-- so many wait
abbrev pub invariant-loop : goal.invariant-loop
invariant-loop l = l.tasks.items ≡ replicate l.counter task.Waiting
