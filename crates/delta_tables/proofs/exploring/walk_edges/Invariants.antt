use Rattle.std.proofs.Common.{◌≡◌}
use Rattle.seeded_search.specs.meaning.Notes.{target_of}
use Rattle.edge_expand.specs.storage.Walks.{IsWalk, reads_left}
use Rattle.delta_tables.proofs.exploring.walk_edges.Given as goal

-- the walk stands between the two snapshots
abbrev pub invariant-loop-walk : goal.invariant-loop-walk
invariant-loop-walk l = record {
  sees_before : l.view.before ≡ l.before;
  sees_after : l.view.after ≡ l.after;
  walk : IsWalk (target_of l.program) l.before l.after l.walk;
}

abbrev pub decreases-loop-walk : goal.decreases-loop-walk
decreases-loop-walk l = reads_left (target_of l.program) l.before l.after l.walk
