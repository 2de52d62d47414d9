use Rattle.std.proofs.Common.{◌≡◌, drop, filter}
use Rattle.std.specs.List.{slice_get}
use Rattle.rehearsal.specs.meaning.MachineState.{state_of}
use Rattle.rehearsal.specs.meaning.Table.{may}
use Rattle.rehearsal.proofs.rehearsing.nth.Given as goal

-- as many are left to pass
abbrev pub invariant-loop-event : goal.invariant-loop-event
invariant-loop-event l = slice_get (filter (may l.window (state_of l.machine)) (drop l.event-index l.events)) l.left ≡ slice_get (filter (may l.window (state_of l.machine)) l.events) l.n
