use Rattle.std.proofs.Common.{◌≡◌, map as mapped, set, length, get_or, sym, ap, ◌&&◌, is_none, ◌∙◌, arith}
use Rattle.std.proofs.lemmas.Bool.{and_parts}
use Rattle.std.proofs.lemmas.List.{length-map, map-set}
use Rattle.cond_eval.specs.meaning.Patterns.{pattern_of}
use Rattle.rehearsal.specs.declared.task.Task.TheVariants as task
use Rattle.rehearsal.specs.meaning.MachineState.{Explored, Finished, stage_of, state_of}
use Rattle.rehearsal.specs.meaning.Shown.{shown_stage}
use Rattle.rehearsal.specs.meaning.Table.{group_of, has_group, is_live, task_is}
use Rattle.rehearsal.proofs.Showing.{group-within}
use Rattle.rehearsal.proofs.Stages.{found-set, with_stages}
use Rattle.rehearsal.proofs.machine.Machine.explore.Goals as goal

pub returns-clause-ok : goal.returns-clause-ok
returns-clause-ok c =
    let tasks = c.args.self.now.tasks.items in
    ap (with_stages (state_of c.args.self.now)) (map-set stage_of tasks c.group-group.result (task.Explored c.in_ok-delta.delta) ∙ ap (λ i. set (mapped stage_of tasks) i Explored) c.group-group.ensures)

pub returns-clause-found : goal.returns-clause-found
returns-clause-found c = λ found.
    let tasks = c.args.self.now.tasks.items in
    let w = c.args.window.now in
    let test = and_parts (task_is w (state_of c.args.self.now) is_live c.args.t) (is_none c.args.self.now.ingest && is_none c.args.self.now.watch) c.requires.may in
    let there = group-within w c.args.t (and_parts (has_group w c.args.t) (is_live (get_or (mapped stage_of tasks) (group_of w c.args.t) Finished)) test.0).0 in
    let first = there.0 in
    let last = there.1 in
    let many : length tasks ≡ length w.later = sym (length-map tasks stage_of) ∙ sym (length-map (mapped stage_of tasks) shown_stage) ∙ c.requires.sound.1.ruled.machine.stages in
    found-set (pattern_of c.args.program.now) c.args.most w tasks c.group-group.result (task.Explored c.in_ok-delta.delta) (omega (arith, first, last, many, c.group-group.ensures)) found c.in_ok-delta.ensures
