use Rattle.delta_tables.specs.calls.Keeping.{KeepsGraph}
use Rattle.delta_tables.proofs.windows.mine_graph.Given as goal

-- the shards keep the graph
abbrev pub invariant-loop : goal.invariant-loop
invariant-loop g l = KeepsGraph l.count l.store
