use Rattle.std.proofs.Common.{◌≡◌, ◌<◌, map as mapped, set, length, get_or, ap, ◌∙◌, arith}
use Rattle.std.proofs.lemmas.Bool.{and_parts}
use Rattle.std.proofs.lemmas.List.{map-set}
use Rattle.rehearsal.specs.meaning.MachineState.{Finished, stage_of, state_of}
use Rattle.rehearsal.specs.meaning.Table.{group_of, has_group, is_explored}
use Rattle.rehearsal.proofs.Showing.{group-within}
use Rattle.rehearsal.proofs.Stages.{stage-finished, with_stages}
use Rattle.rehearsal.proofs.machine.Machine.finish.Goals as goal

pub returns-clause-state : goal.returns-clause-state
returns-clause-state c =
    let tasks = c.args.self.now.tasks.items in
    let w = c.args.window.now in
    let test = and_parts (has_group w c.args.t) (is_explored (get_or (mapped stage_of tasks) (group_of w c.args.t) Finished)) c.requires.may in
    let there = group-within w c.args.t test.0 in
    let first = there.0 in
    let last = there.1 in
    let within : c.group.result < length tasks = omega (arith, first, last, c.group.ensures, c.requires.tasks) in
    let explored : is_explored (get_or (mapped stage_of tasks) c.group.result Finished) ≡ _ = ap (λ i. is_explored (get_or (mapped stage_of tasks) i Finished)) c.group.ensures ∙ test.1 in
    let stage = ap stage_of c.finish.ensures ∙ stage-finished tasks c.group.result c.index_mut.result.now c.index_mut.ensures.value within explored in
    ap (with_stages (state_of c.args.self.now)) (map-set stage_of tasks c.group.result c.finish.new.self ∙ (λ i. set (mapped stage_of tasks) (c.group.ensures i) (stage i)))
