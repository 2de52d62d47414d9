use Rattle.std.proofs.Common.{◌≡◌, ◌++◌, take}
use Rattle.condition_grammar.proofs.writing.put.Given as goal

abbrev pub invariant-loop-b : goal.invariant-loop-b
invariant-loop-b l = l.line ≡ l.fn.line ++ take l.b-index l.bytes
