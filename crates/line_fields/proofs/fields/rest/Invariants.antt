use Rattle.std.proofs.Common.{◌≡◌, ◌-◌}
use Rattle.line_fields.specs.meaning.Fields.{rest_of}
use Rattle.line_fields.proofs.fields.rest.Given as goal

abbrev pub invariant-loop : goal.invariant-loop
invariant-loop l = rest_of l.rest (l.i - l.counter) ≡ rest_of l.line l.i
