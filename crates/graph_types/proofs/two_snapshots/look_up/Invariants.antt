use Rattle.std.proofs.Common.{◌≡◌, ◌++◌, drop}
use Rattle.graph_types.specs.storage.Found.{near_found}
use Rattle.graph_types.specs.storage.Seen.{seen_at}
use Rattle.graph_types.proofs.two_snapshots.look_up.Given as goal

abbrev pub invariant-loop-to : goal.invariant-loop-to
invariant-loop-to l =
    l.list ++ near_found (seen_at l.before).near (seen_at l.after).near (drop l.to-index l.among) ≡ near_found (seen_at l.before).near (seen_at l.after).near l.among
