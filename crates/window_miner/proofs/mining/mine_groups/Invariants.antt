use Rattle.cond_eval.specs.meaning.Patterns.{pattern_of}
use Rattle.graph_types.specs.meaning.Graph.{Graph}
use Rattle.window_miner.specs.calls.Mining.{FollowsShards}
use Rattle.window_miner.proofs.DeltasInOrder.{IsMinedUpTo}
use Rattle.window_miner.proofs.mining.mine_groups.Given as goal

-- the groups before this one are mined
abbrev pub invariant-loop-group : goal.invariant-loop-group
invariant-loop-group g l = (graph : Graph) → FollowsShards l.window l.fn.shards.items graph → IsMinedUpTo (pattern_of l.program) l.most l.window graph l.group l.shards.items l.deltas.items
