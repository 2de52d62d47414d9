use Rattle.std.proofs.Common.{◌≡◌, ◌++◌, map, filter}
use Rattle.std.specs.FinMap as maps
use Rattle.std.specs.List.{flat_map}
use Rattle.graph_types.specs.storage.Adjacency.{goes_up}
use Rattle.graph_types.proofs.adjacency.Adjacency.edges_up.Given as goal

abbrev pub invariant-loop-v : goal.invariant-loop-v
invariant-loop-v l = l.edges ++ flat_map (λ row. filter goes_up (map (λ w. (row.0, w)) (maps.keys row.1.near))) l.v-iterator ≡ filter goes_up (maps.keys l.self.edges)
