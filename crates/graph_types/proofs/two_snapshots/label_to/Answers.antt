use Rattle.std.proofs.Common.{sym, ap, ◌∙◌}
use Rattle.std.specs.FinMap as map
use Rattle.std.specs.Ordering.{nat_cmp}
use Rattle.graph_types.specs.storage.Seen.{seen_at}
use Rattle.graph_types.proofs.two_snapshots.label_to.Goals as goal

pub returns-in-None : goal.returns-in-None
returns-in-None c = sym (ap (λ o. map.get (seen_at o).near c.args.to) c.in-None.is ∙ map.get-empty nat_cmp c.args.to)
