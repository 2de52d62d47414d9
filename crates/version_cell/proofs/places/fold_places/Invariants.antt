use Rattle.version_cell.proofs.FoldedPlaces.{IsFolding}
use Rattle.version_cell.proofs.places.fold_places.Given as goal

abbrev pub invariant-loop-to : goal.invariant-loop-to
invariant-loop-to l = IsFolding l.fn.places l.near.entries l.t l.places l.to-iterator
