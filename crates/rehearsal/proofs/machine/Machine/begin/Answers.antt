use Rattle.std.proofs.Common.{map as mapped, set, ap, ◌∙◌}
use Rattle.std.proofs.lemmas.List.{map-set}
use Rattle.rehearsal.specs.meaning.MachineState.{Live, stage_of, state_of}
use Rattle.rehearsal.specs.declared.task.Task.TheVariants as task
use Rattle.rehearsal.proofs.Stages.{with_stages}
use Rattle.rehearsal.proofs.machine.Machine.begin.Goals as goal

pub returns-clause-state : goal.returns-clause-state
returns-clause-state c =
    let tasks = c.args.self.now.tasks.items in
    ap (with_stages (state_of c.args.self.now)) (map-set stage_of tasks c.group.result task.Live ∙ ap (λ i. set (mapped stage_of tasks) i Live) c.group.ensures)
