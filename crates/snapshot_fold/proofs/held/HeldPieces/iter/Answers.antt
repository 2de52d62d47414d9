use Rattle.std.proofs.Common.{ap, length}
use Rattle.std.proofs.iter.runs.Sources.{from_front}
use Rattle.std.specs.Map.Iter.{TakesFirst, ShowsInOrder}
use Rattle.snapshot_fold.specs.calls.Given.{same_value}
use Rattle.snapshot_fold.proofs.held.HeldPieces.iter.Goals as goal

gives_in_order : ShowsInOrder same_value
gives_in_order = from_front (TakesFirst same_value) same_value (λ s. s) (λ s t h. ap length h.0) (λ s x t h. h)

pub returns-in-Packed-clause-runs : goal.returns-in-Packed-clause-runs
returns-in-Packed-clause-runs c = gives_in_order

pub returns-in-Long-clause-runs : goal.returns-in-Long-clause-runs
returns-in-Long-clause-runs c = gives_in_order
