-- The groups so far were written.
use Rattle.std.proofs.Common.{◌≡◌, ◌+◌, ◌≤◌, ℕ, List, Option, drop}
use Rattle.job_io.specs.meaning.Lines.{Reading}
use Rattle.mining_model.specs.meaning.Embeddings.{Pattern}
use Rattle.tesseract.specs.calls.Progress.{Progress}
use Rattle.tesseract.specs.calls.Running.{IsRunning}
use Rattle.tesseract.specs.calls.Writing.{AreWaitingDeltas}
use Rattle.tesseract.proofs.Emptying.{AtDelta}
use Rattle.tesseract.proofs.mining.write_waiting.Given as goal

abbrev pub invariant-loop-delta : goal.invariant-loop-delta
invariant-loop-delta g l =
    (l.t ≡ l.fn.first + l.delta-index)
    × (g.O.Sink.faults l.fn.out ≤ g.O.Sink.faults l.out)
    × ((left0 left written0 : Option (List ℕ)) (reader : Reading) (p : Progress) (pattern : Pattern) →
    p.stamp ≡ l.fn.first → AreWaitingDeltas l.fn.terms pattern p l.fn.standing l.deltas →
    IsRunning l.fn.terms left0 left written0 (g.O.Sink.written l.fn.out) l.fn.page reader p →
    AtDelta l.fn.terms pattern p left0 left written0 (g.O.Sink.written l.out) l.page reader l.t l.standing (drop l.delta-index l.deltas))
