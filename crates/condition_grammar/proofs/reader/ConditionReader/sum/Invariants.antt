use Rattle.std.proofs.Common.{◌≡◌, ◌≤◌, length}
use Rattle.condition_grammar.specs.meaning.Grammar.{more_uses, sum_of}
use Rattle.condition_grammar.proofs.reader.ConditionReader.sum.Given as goal

-- what is left to read, after what was read so far, gives what the whole gives
abbrev pub invariant-loop-sum : goal.invariant-loop-sum
invariant-loop-sum l = record {
  same : sum_of l.fn.self.tokens l.fn.self.names ≡ more_uses l.room l.sum l.self.tokens l.self.names;
  shorter : length l.self.tokens ≤ length l.fn.self.tokens;
  known : l.self.known ≡ l.fn.self.known;
}

abbrev pub decreases-loop-sum : goal.decreases-loop-sum
decreases-loop-sum l = length l.self.tokens
