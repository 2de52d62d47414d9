use Rattle.std.proofs.Common.{◌≡◌, filter, take}
use Rattle.rehearsal.specs.meaning.MachineState.{state_of}
use Rattle.rehearsal.specs.meaning.Table.{may}
use Rattle.rehearsal.proofs.machine.Machine.enabled.Given as goal

-- those before this one that may happen are listed
abbrev pub invariant-loop-event : goal.invariant-loop-event
invariant-loop-event l = l.events ≡ filter (may l.window (state_of l.self)) (take l.event-index l.event-items)
