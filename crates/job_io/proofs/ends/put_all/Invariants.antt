use Rattle.std.proofs.Common.{◌≤◌, [], length}
use Rattle.job_io.specs.calls.Ends.{PassesOn}
use Rattle.job_io.specs.calls.WriteCalls.{Writes}
use Rattle.job_io.proofs.ends.put_all.Given as goal

abbrev pub invariant-loop-rest : goal.invariant-loop-rest
invariant-loop-rest g l = record {
  passed : PassesOn (g.O.Sink.written l.initial.out) l.fn.bytes (g.O.Sink.written l.out) l.rest [];
  calls : Writes g.O.Sink.write_gives l.initial.out l.fn.bytes l.out l.rest;
  counted : g.O.Sink.faults l.initial.out ≤ g.O.Sink.faults l.out;
}

abbrev pub decreases-loop-rest : goal.decreases-loop-rest
decreases-loop-rest g l = length l.rest
