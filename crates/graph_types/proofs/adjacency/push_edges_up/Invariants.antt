use Rattle.std.proofs.Common.{◌≡◌, ◌++◌, map, filter}
use Rattle.std.specs.FinMap as maps
use Rattle.std.specs.Map.{keys_of}
use Rattle.graph_types.specs.storage.Adjacency.{goes_up}
use Rattle.graph_types.proofs.adjacency.push_edges_up.Given as goal

abbrev pub invariant-loop-to : goal.invariant-loop-to
invariant-loop-to l =
    l.edges ++ filter goes_up (map (λ to. (l.from, to)) (keys_of l.to-iterator)) ≡ l.fn.edges ++ filter goes_up (map (λ to. (l.from, to)) (maps.keys l.near))
