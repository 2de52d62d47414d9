-- Between two lines the run stands where its lines led, and each line more is one of those allowed.
use Rattle.std.proofs.Common.{◌-◌, ◌≤◌}
use Rattle.tesseract.proofs.Between.{StandsBetween}
use Rattle.tesseract.proofs.mine.mine_lines.Given as goal

abbrev pub invariant-lines : goal.invariant-lines
invariant-lines g l =
    StandsBetween l.fn.terms l.fn.plan (g.S.Source.left l.fn.input) (g.S.Source.left l.input)
    (g.O.Sink.written l.fn.out) (g.O.Sink.written l.out) l.page l.reader l.run
    × (g.S.Source.faults l.fn.input ≤ g.S.Source.faults l.input)
    × (g.O.Sink.faults l.fn.out ≤ g.O.Sink.faults l.out)

abbrev pub decreases-lines : goal.decreases-lines
decreases-lines g l = l.fn.terms.lines - l.reader.number
