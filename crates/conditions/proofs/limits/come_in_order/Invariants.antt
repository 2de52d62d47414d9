use Rattle.std.proofs.Common.{◌≡◌, drop}
use Rattle.conditions.specs.meaning.Written.{come_in_order}
use Rattle.conditions.proofs.limits.come_in_order.Given as goal

-- what is left comes in order after the edge before it exactly where all do
abbrev pub invariant-loop-e : goal.invariant-loop-e
invariant-loop-e l = come_in_order l.low l.high (drop l.e-index l.edges) ≡ come_in_order 0 0 l.edges
