use Rattle.std.proofs.Common.{◌≡◌, drop}
use Rattle.line_fields.proofs.NumberOf.{number_after}
use Rattle.line_fields.proofs.fields.read_number.Given as goal

abbrev pub invariant-loop-b : goal.invariant-loop-b
invariant-loop-b l = number_after l.number (drop l.b-index l.word) ≡ number_after 0 l.word
