-- The lines so far and those still to come are the whole job, and the vertices stand.
use Rattle.std.proofs.Common.{◌≡◌, ◌-◌, ◌++◌}
use Rattle.trial_job.specs.calls.Standing.{HasVertices}
use Rattle.trial_job.specs.meaning.TrialJob.{edge_lines, trial_text}
use Rattle.trial_job.proofs.job.trial_job.Given as goal

abbrev pub invariant-loop : goal.invariant-loop
invariant-loop l =
    (l.job ++ edge_lines l.vertices (l.updates - l.counter) l.draws l.graph ≡ trial_text l.fn.seed l.fn.vertices l.fn.updates)
    × HasVertices l.vertices l.graph
