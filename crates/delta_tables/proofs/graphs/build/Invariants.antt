use Rattle.std.proofs.Common.{◌≡◌, drop}
use Rattle.graph_types.specs.meaning.Graph.{empty_graph}
use Rattle.mining_model.specs.meaning.Step.{graph_after_all}
use Rattle.delta_tables.proofs.graphs.build.Given as goal

-- what is left to make leads to where all leads from nothing
abbrev pub invariant-loop-update : goal.invariant-loop-update
invariant-loop-update l = graph_after_all l.graph (drop l.update-index l.updates) ≡ graph_after_all empty_graph l.updates
