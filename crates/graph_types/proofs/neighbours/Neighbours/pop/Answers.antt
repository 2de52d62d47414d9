use Rattle.std.proofs.Common.{◌<◌, sym, subst}
use Rattle.std.specs.Cmp.{nat_cmp_total}
use Rattle.std.specs.FinMap as map
use Rattle.graph_types.proofs.Views.{len-removed}
use Rattle.graph_types.proofs.neighbours.Neighbours.pop.Goals as goal

pub returns-clause-fewer : goal.returns-clause-fewer
returns-clause-fewer g c =
    subst (λ m. map.len m < map.len c.args.self.now) (sym c.in_ok-value.ensures.rest) (len-removed nat_cmp_total c.args.self.now c.in_ok-to.to c.in_ok-to.ensures)
