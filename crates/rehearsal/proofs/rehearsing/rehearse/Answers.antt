use Rattle.std.proofs.Common.{◌≡◌, ◌<◌, ◌++◌, List, length, Err, None, Some, refl, sym, ap, subst, ◌∙◌}
use Rattle.std.proofs.lemmas.Bool.{false≢true}
use Rattle.cond_eval.specs.meaning.Patterns.{pattern_of}
use Rattle.rehearsal.specs.declared.event.Event.{Event}
use Rattle.rehearsal.specs.declared.machine.MachineStop.{MachineStop}
use Rattle.rehearsal.specs.meaning.MachineState.{first_state, state_of}
use Rattle.rehearsal.specs.meaning.Schedules.{Schedules, chosen, digit_of}
use Rattle.rehearsal.specs.meaning.Table.{enabled}
use Rattle.rehearsal.proofs.Choosing.{all-stages, chosen-is, chosen-may, none-chosen, schedule-ends, schedule-next, tasks-many}
use Rattle.rehearsal.proofs.Ending.{all-finished, mined}
use Rattle.rehearsal.proofs.Measure.{left-less, left_of}
use Rattle.rehearsal.proofs.rehearsing.rehearse.Goals as goal

pub loop-event-init : goal.loop-event-init
loop-event-init c =
    let first = first_state c.args.window.now c.args.shards.items in
    record {
      sound = λ g follows. c.in_ok-machine.ensures.sound (pattern_of c.args.program.now) c.args.most g follows;
      so_far = λ rest last schedules.
          subst (λ (es : List Event). Schedules c.args.window.now c.args.digits.now 0 first (es ++ rest) last) (sym c.new-events.ensures)
          (subst (λ (es : List Event). Schedules c.args.window.now c.args.digits.now (length es) first rest last) c.new-events.ensures
          (subst (λ m. Schedules c.args.window.now c.args.digits.now (length c.new-events.result) m rest last) c.in_ok-machine.ensures.state schedules));
    }

pub choose-requires : goal.choose-requires
choose-requires c = (c.requires.can.0, (c.loop-event.invariant.sound c.requires.can.0 c.requires.can.1).state)

pub step-requires : goal.step-requires
step-requires c = (c.requires.can.0, c.loop-event.invariant.sound c.requires.can.0 c.requires.can.1)

pub loop-event-smaller : goal.loop-event-smaller
loop-event-smaller c =
    let w = c.args.window.now in
    let m = state_of c.loop-event.machine in
    let is : chosen (enabled w m) (digit_of c.args.digits.now (length c.loop-event.events)) ≡ Some c.in-Some.event = chosen-is w m c.args.digits.now c.deref.result.now c.in_ok-all.all c.loop-event.events c.digit_at.result c.len.result c.choose.result _ c.choose.ensures c.deref.ensures c.in_ok-all.ensures c.digit_at.ensures c.len.ensures c.in-Some.is in
    subst (λ next. left_of w next < left_of w m) (sym c.in-Ok.ensures.ok)
    (left-less w c.requires.can.0 c.sound.ensures m (c.loop-event.invariant.sound c.requires.can.0 c.requires.can.1).state c.in-Some.event (chosen-may w m (digit_of c.args.digits.now (length c.loop-event.events)) c.in-Some.event is))

pub loop-event-preserved : goal.loop-event-preserved
loop-event-preserved c =
    let w = c.args.window.now in
    let m = state_of c.loop-event.machine in
    let is : chosen (enabled w m) (digit_of c.args.digits.now (length c.loop-event.events)) ≡ Some c.in-Some.event = chosen-is w m c.args.digits.now c.deref.result.now c.in_ok-all.all c.loop-event.events c.digit_at.result c.len.result c.choose.result _ c.choose.ensures c.deref.ensures c.in_ok-all.ensures c.digit_at.ensures c.len.ensures c.in-Some.is in
    record {
      sound = λ g follows. c.in-Ok.ensures.sound g (c.loop-event.invariant.sound g follows);
      so_far = λ rest last schedules.
          schedule-next w c.args.digits.now (first_state w c.args.shards.items) m (state_of c.step.new.self) last c.loop-event.events c.push.new.self rest c.in-Some.event c.loop-event.invariant.so_far is c.in-Ok.ensures.ok
          c.in_ok-push-in-Ok.ensures.ok schedules;
    }

pub unreachable-requires : goal.unreachable-requires
unreachable-requires c =
    let w = c.args.window.now in
    let m = state_of c.loop-event.machine in
    let is : chosen (enabled w m) (digit_of c.args.digits.now (length c.loop-event.events)) ≡ Some c.in-Some.event = chosen-is w m c.args.digits.now c.deref.result.now c.in_ok-all.all c.loop-event.events c.digit_at.result c.len.result c.choose.result _ c.choose.ensures c.deref.ensures c.in_ok-all.ensures c.digit_at.ensures c.len.ensures c.in-Some.is in
    let stops = c.step.ensures.disabled.0 (c.in-Err-Disabled.is ∙ ap (λ (e : MachineStop). Err e) c.in-Err-Disabled.field-0-is) in
    false≢true (sym stops ∙ chosen-may w m (digit_of c.args.digits.now (length c.loop-event.events)) c.in-Some.event is)

pub deltas_of-requires : goal.deltas_of-requires
deltas_of-requires c =
    let w = c.args.window.now in
    let machine = c.loop-event.machine in
    let m = state_of machine in
    let g = c.requires.can.0 in
    let sound = (c.loop-event.invariant.sound g c.requires.can.1).state in
    let is : chosen (enabled w m) (digit_of c.args.digits.now (length c.loop-event.events)) ≡ None = chosen-is w m c.args.digits.now c.deref.result.now c.in_ok-all.all c.loop-event.events c.digit_at.result c.len.result c.choose.result _ c.choose.ensures c.deref.ensures c.in_ok-all.ensures c.digit_at.ensures c.len.ensures c.in_default.is in
    let none = none-chosen (enabled w m) (digit_of c.args.digits.now (length c.loop-event.events)) is in
    all-stages machine.tasks.items (λ k within. all-finished w g c.sound.ensures m sound none k (subst (λ n. k < n) (tasks-many w g machine sound) within))

pub returns-clause-mined : goal.returns-clause-mined
returns-clause-mined c = λ g follows.
    let w = c.args.window.now in
    let machine = c.loop-event.machine in
    let m = state_of machine in
    let sound = c.loop-event.invariant.sound g follows in
    let is : chosen (enabled w m) (digit_of c.args.digits.now (length c.loop-event.events)) ≡ None = chosen-is w m c.args.digits.now c.deref.result.now c.in_ok-all.all c.loop-event.events c.digit_at.result c.len.result c.choose.result _ c.choose.ensures c.deref.ensures c.in_ok-all.ensures c.digit_at.ensures c.len.ensures c.in_default.is in
    let none = none-chosen (enabled w m) (digit_of c.args.digits.now (length c.loop-event.events)) is in
    mined w g c.sound.ensures m sound.state none (pattern_of c.args.program.now) c.args.most machine.tasks.items _ (tasks-many w g machine sound.state) sound.found c.in_ok-deltas_of.ensures refl

pub returns-clause-scheduled : goal.returns-clause-scheduled
returns-clause-scheduled c =
    let w = c.args.window.now in
    let m = state_of c.loop-event.machine in
    let is : chosen (enabled w m) (digit_of c.args.digits.now (length c.loop-event.events)) ≡ None = chosen-is w m c.args.digits.now c.deref.result.now c.in_ok-all.all c.loop-event.events c.digit_at.result c.len.result c.choose.result _ c.choose.ensures c.deref.ensures c.in_ok-all.ensures c.digit_at.ensures c.len.ensures c.in_default.is in
    let none = none-chosen (enabled w m) (digit_of c.args.digits.now (length c.loop-event.events)) is in
    (m, schedule-ends w c.args.digits.now (first_state w c.args.shards.items) m c.loop-event.events c.loop-event.invariant.so_far none)
