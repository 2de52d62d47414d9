use Rattle.std.proofs.Common.{◌≡◌, ◌≤◌, filter, length, take}
use Rattle.rehearsal.specs.meaning.MachineState.{state_of}
use Rattle.rehearsal.specs.meaning.Table.{may}
use Rattle.rehearsal.proofs.rehearsing.count.Given as goal

-- those before this one are counted
abbrev pub invariant-loop-event : goal.invariant-loop-event
invariant-loop-event l = record { counted : l.count ≡ length (filter (may l.window (state_of l.machine)) (take l.event-index l.events)); few : l.count ≤ l.event-index }
