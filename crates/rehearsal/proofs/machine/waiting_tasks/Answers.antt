use Rattle.std.proofs.Common.{List, [], ◌∷◌, ◌++◌, ap, ◌∙◌}
use Rattle.std.proofs.lemmas.List.{replicate_more}
use Rattle.rehearsal.specs.declared.task.Task.{Task}
use Rattle.rehearsal.specs.declared.task.Task.TheVariants as task
use Rattle.rehearsal.proofs.machine.waiting_tasks.Goals as goal

pub loop-preserved : goal.loop-preserved
loop-preserved c = c.in_ok-push.ensures.items ∙ ap (λ (ts : List Task). ts ++ task.Waiting ∷ []) c.loop.invariant ∙ replicate_more c.loop.counter task.Waiting
