use Rattle.std.specs.FinMap as map
use Rattle.version_cell.specs.storage.Around.{near_of_places}
use Rattle.version_cell.proofs.MergedLists.{IsListing}
use Rattle.version_cell.proofs.listing.list.Given as goal

abbrev pub invariant-loop-to : goal.invariant-loop-to
invariant-loop-to l = IsListing l.t (near_of_places (map.from_entries l.changes.entries) l.t (map.entries l.places)) l.list l.later l.to-iterator
