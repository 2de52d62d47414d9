use Rattle.std.proofs.Common.{◌++◌, cond, [], ◌∷◌, filter, sym, ap, ◌∙◌, arith}
use Rattle.std.proofs.lemmas.List.{append-nil, take_all}
use Rattle.rehearsal.specs.meaning.MachineState.{state_of}
use Rattle.rehearsal.specs.meaning.Table.{may}
use Rattle.rehearsal.proofs.Growing.{kept-next}
use Rattle.rehearsal.proofs.machine.Machine.enabled.Goals as goal
use Rattle.rehearsal.proofs.machine.Machine.enabled.Goals.{then-may+in_ok-push, else-may}

pub loop-event-preserved : goal.loop-event-preserved
loop-event-preserved c =
    let p = may c.args.window.now (state_of c.args.self.now) in
    let event = c.event-item.result in
    kept-next p c.as_slice-event-items.result.now c.loop-event.event-index event c.loop-event.events c.if-may.events c.loop-event-test.true c.event-item.is c.loop-event.invariant
    (elim c.if-may.branch [
      | then-may+in_ok-push w ↦ w.events-is ∙ w.in_ok-push.ensures.ok ∙ ap (λ b. c.loop-event.events ++ cond b (event ∷ []) []) (sym w.if-may.true ∙ c.may.ensures)
      | else-may w ↦ w.events-is ∙ sym (append-nil c.loop-event.events) ∙ ap (λ b. c.loop-event.events ++ cond b (event ∷ []) []) (sym w.if-may.false ∙ c.may.ensures)
    ])

pub returns : goal.returns
returns c =
    let p = may c.args.window.now (state_of c.args.self.now) in
    c.loop-event.invariant ∙ ap (filter p) (take_all c.loop-event.event-index c.as_slice-event-items.result.now (omega (arith, c.loop-event-test.false)) ∙ c.as_slice-event-items.ensures ∙ c.in_ok-all.ensures)
