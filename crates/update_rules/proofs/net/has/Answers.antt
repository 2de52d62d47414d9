use Rattle.std.proofs.Common.{◌∙◌}
use Rattle.update_rules.proofs.NetOfChanges.{found-is}
use Rattle.update_rules.proofs.net.has.Goals as goal

pub returns : goal.returns
returns c = λ sorted. c.is_ok.ensures.value ∙ found-is c.args.vertices.now c.args.vertex c.binary_search.result sorted c.binary_search.ensures.position
