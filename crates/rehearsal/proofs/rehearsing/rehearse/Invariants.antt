use Rattle.std.proofs.Common.{◌++◌, List, length}
use Rattle.cond_eval.specs.meaning.Patterns.{pattern_of}
use Rattle.graph_types.specs.meaning.Graph.{Graph}
use Rattle.rehearsal.specs.declared.event.Event.{Event}
use Rattle.rehearsal.specs.meaning.MachineState.{MachineState, first_state, state_of}
use Rattle.rehearsal.specs.meaning.Schedules.{Schedules}
use Rattle.rehearsal.specs.meaning.Soundness.{IsSoundMachine}
use Rattle.window_miner.specs.calls.Mining.{FollowsShards}
use Rattle.rehearsal.proofs.Measure.{left_of}
use Rattle.rehearsal.proofs.rehearsing.rehearse.Given as goal

-- The machine is sound, and what the digits choose from where it stands on completes the events so far.
abbrev pub invariant-loop-event : goal.invariant-loop-event
invariant-loop-event l = record {
  sound : (g : Graph) → FollowsShards l.window l.fn.shards.items g → IsSoundMachine (pattern_of l.program) l.most l.window g l.machine;
  so_far : (rest : List Event) (last : MachineState) → Schedules l.window l.digits (length l.events) (state_of l.machine) rest last → Schedules l.window l.digits 0 (first_state l.window l.fn.shards.items) (l.events ++ rest) last;
}

abbrev pub decreases-loop-event : goal.decreases-loop-event
decreases-loop-event l = left_of l.window (state_of l.machine)
