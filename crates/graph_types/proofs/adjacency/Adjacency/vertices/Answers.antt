use Rattle.std.proofs.Common.{ap, sym, ◌∙◌}
use Rattle.std.specs.FinMap as map
use Rattle.std.specs.Map.{keys_of}
use Rattle.graph_types.proofs.Rows.{keys-labels}
use Rattle.graph_types.proofs.adjacency.Adjacency.vertices.Goals as goal

pub loop-v-init : goal.loop-v-init
loop-v-init c =
    rw c.new-vertices.ensures
    (ap keys_of c.into_iter-v-iterator.ensures.into_iter_gives.0
    ∙ sym (keys-labels _)
    ∙ ap (λ g. map.keys g.labels) c.self.view_is)
