use Rattle.cond_eval.specs.meaning.Patterns.{pattern_of}
use Rattle.graph_types.specs.meaning.Graph.{Graph}
use Rattle.rehearsal.specs.meaning.Soundness.{IsSoundMachine}
use Rattle.rehearsal_tables.proofs.rehearsing.let_happen.Given as goal

-- the machine is sound
abbrev pub invariant-loop-text : goal.invariant-loop-text
invariant-loop-text l = (graph : Graph) × IsSoundMachine (pattern_of l.job.program) l.job.most l.window graph l.machine
