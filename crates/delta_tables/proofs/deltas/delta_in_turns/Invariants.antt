use Rattle.std.proofs.Common.{◌≡◌}
use Rattle.delta_task.specs.calls.Walking.{IsDeltaWalk, reads_left}
use Rattle.delta_tables.proofs.deltas.delta_in_turns.Given as goal

-- the room for notes is the most that is listed
abbrev pub ghost-turn : goal.ghost-turn
ghost-turn a = a.self.now.catch.room

-- the walk stands between the two snapshots
abbrev pub invariant-loop-delta : goal.invariant-loop-delta
invariant-loop-delta l = record {
  sees_before : l.view.before ≡ l.before;
  sees_after : l.view.after ≡ l.after;
  walk : IsDeltaWalk l.program l.before l.after l.walk.catch.room l.walk;
}

abbrev pub decreases-loop-delta : goal.decreases-loop-delta
decreases-loop-delta l = reads_left l.program l.before l.after l.walk
