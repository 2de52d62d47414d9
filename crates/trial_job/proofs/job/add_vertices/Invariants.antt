-- The vertices so far have their lines, and are in the graph.
use Rattle.std.proofs.Common.{◌≡◌, ◌++◌}
use Rattle.trial_job.specs.meaning.TrialJob.{graph_of_vertices, vertex_lines}
use Rattle.trial_job.proofs.job.add_vertices.Given as goal

abbrev pub invariant-loop-others : goal.invariant-loop-others
invariant-loop-others l = (l.job ≡ l.fn.job ++ vertex_lines l.others) × (l.graph ≡ graph_of_vertices l.others)
