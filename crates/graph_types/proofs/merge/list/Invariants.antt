use Rattle.std.proofs.Common.{◌≡◌, ◌++◌}
use Rattle.graph_types.proofs.merge.list.Given as goal

abbrev pub invariant-loop-near : goal.invariant-loop-near
invariant-loop-near l = l.list ++ l.near-iterator ≡ l.fn.merge
