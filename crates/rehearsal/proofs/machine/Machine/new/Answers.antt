use Rattle.std.proofs.Common.{◌≡◌, List, map as mapped, replicate, ap, ◌∙◌}
use Rattle.rehearsal.specs.declared.task.Task.{Task}
use Rattle.rehearsal.specs.declared.task.Task.TheVariants as task
use Rattle.rehearsal.specs.meaning.MachineState.{Waiting, first_state, stage_of}
use Rattle.rehearsal.proofs.Beginning.{mapped-replicate, sound-begun}
use Rattle.rehearsal.proofs.Stages.{with_stages}
use Rattle.rehearsal.proofs.machine.Machine.new.Goals as goal

pub returns-clause-state : goal.returns-clause-state
returns-clause-state c =
    let stages : mapped stage_of c.in_ok-waiting_tasks.field-0.items ≡ replicate _ Waiting = ap (λ (ts : List Task). mapped stage_of ts) c.in_ok-waiting_tasks.ensures ∙ mapped-replicate stage_of c.len.result task.Waiting ∙ ap (λ n. replicate n Waiting) c.len.ensures in
    ap (with_stages (first_state c.args.window.now c.args.shards.items)) stages

pub returns-clause-sound : goal.returns-clause-sound
returns-clause-sound c = λ pattern most g follows.
    let stages : mapped stage_of c.in_ok-waiting_tasks.field-0.items ≡ replicate _ Waiting = ap (λ (ts : List Task). mapped stage_of ts) c.in_ok-waiting_tasks.ensures ∙ mapped-replicate stage_of c.len.result task.Waiting ∙ ap (λ n. replicate n Waiting) c.len.ensures in
    sound-begun c.each_event_keeps_the_rule.ensures.begins c.args.window.now g c.sound.ensures c.args.shards.items follows pattern most _
    (ap (with_stages (first_state c.args.window.now c.args.shards.items)) stages)
    (c.in_ok-waiting_tasks.ensures ∙ ap (λ n. replicate n task.Waiting) c.len.ensures)
