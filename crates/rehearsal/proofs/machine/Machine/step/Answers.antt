use Rattle.std.proofs.Common.{◌≡◌, true, sym, subst}
use Rattle.rehearsal.specs.meaning.MachineState.{MachineState, state_of}
use Rattle.rehearsal.specs.meaning.Shown.{moves_of, shown}
use Rattle.rehearsal.specs.meaning.Soundness.{IsSoundState, graphs_from}
use Rattle.rehearsal.specs.meaning.Table.{may}
use Rattle.shard_events.specs.meaning.Events.{LeadTo}
use Rattle.rehearsal.proofs.Keeping.{sound-after}
use Rattle.rehearsal.proofs.Leading.{moves-lead}
use Rattle.rehearsal.proofs.machine.Machine.step.Goals as goal

pub returns-clause-moves : goal.returns-clause-moves
returns-clause-moves c = λ g sound.
    let w = c.args.window.now in
    let m = state_of c.args.self.now in
    let is : may w m c.args.event.now ≡ true = cc in
    subst (λ (next : MachineState). LeadTo (graphs_from w g) (shown w m) (moves_of w m c.args.event.now) (shown w next)) (sym c.in_ok-happen.ensures.ok) (moves-lead w g c.sound.ensures m sound c.args.event.now is)

pub returns-clause-sound : goal.returns-clause-sound
returns-clause-sound c = λ g sound.
    let w = c.args.window.now in
    let m = state_of c.args.self.now in
    let is : may w m c.args.event.now ≡ true = cc in
    record {
      state = subst (IsSoundState w g) (sym c.in_ok-happen.ensures.ok) (sound-after c.each_event_keeps_the_rule.ensures.kept w g c.sound.ensures m sound.state c.args.event.now is);
      found = c.in_ok-happen.ensures.found;
    }
