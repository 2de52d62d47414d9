use Rattle.std.proofs.Common.{◌≡◌, ◌++◌, drop}
use Rattle.std.specs.FinMap as map
use Rattle.version_cell.specs.storage.Around.{near_of_vertices}
use Rattle.version_cell.proofs.listing.list_among.Given as goal

abbrev pub invariant-loop-to : goal.invariant-loop-to
invariant-loop-to l =
    l.list ++ near_of_vertices (map.from_entries l.changes.entries) l.t l.places (drop l.to-index l.among) ≡ near_of_vertices (map.from_entries l.changes.entries) l.t l.places l.among
