-- Between two lines all is passed on that the lines so far lead to, and each line more is one of those allowed.
use Rattle.std.proofs.Common.{◌-◌, ◌≤◌}
use Rattle.record_migration.specs.calls.Turns.{IsMigrating}
use Rattle.record_migration.proofs.migrate.migrate_lines.Given as goal

abbrev pub invariant-lines : goal.invariant-lines
invariant-lines g l =
    IsMigrating l.fn.most_lines (g.S.Source.left l.fn.input) (g.S.Source.left l.input)
    (g.O.Sink.written l.fn.out) (g.O.Sink.written l.out) l.page l.reader l.fold
    × (g.S.Source.faults l.fn.input ≤ g.S.Source.faults l.input)
    × (g.O.Sink.faults l.fn.out ≤ g.O.Sink.faults l.out)

abbrev pub decreases-lines : goal.decreases-lines
decreases-lines g l = l.fn.most_lines - l.reader.number
