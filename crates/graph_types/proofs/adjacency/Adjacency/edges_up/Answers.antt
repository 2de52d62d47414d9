use Rattle.std.proofs.Common.{map, filter, ap, ◌∙◌}
use Rattle.std.specs.FinMap as maps
use Rattle.std.specs.List.{flat_map}
use Rattle.graph_types.specs.storage.Adjacency.{goes_up}
use Rattle.graph_types.proofs.EdgesInOrder.{keys-up}
use Rattle.graph_types.proofs.adjacency.Adjacency.edges_up.Goals as goal

pub loop-v-init : goal.loop-v-init
loop-v-init c =
    rw c.new-edges.ensures
    (ap (flat_map (λ row. filter goes_up (map (λ w. (row.0, w)) (maps.keys row.1.near))))
    c.into_iter-v-iterator.ensures.into_iter_gives.0
    ∙ keys-up _
    ∙ ap (λ g. filter goes_up (maps.keys g.edges)) c.self.view_is)
