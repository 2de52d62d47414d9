use Rattle.std.proofs.Common.{ap, sym, subst}
use Rattle.std.specs.FinMap as map
use Rattle.std.specs.Ordering.{nat_cmp}
use Rattle.graph_types.specs.storage.Few.{IsAscending}
use Rattle.graph_types.proofs.FewPairs.{IsAscending-nothing}
use Rattle.graph_types.proofs.neighbours.Neighbours.new.Goals as goal

pub invariant_of-result : goal.invariant_of-result
invariant_of-result g c = subst IsAscending (sym c.new.ensures.items) (IsAscending-nothing g.row.V.Denot)

pub returns : goal.returns
returns g c = ap (map.from_entries {R = nat_cmp}) c.new.ensures.items
