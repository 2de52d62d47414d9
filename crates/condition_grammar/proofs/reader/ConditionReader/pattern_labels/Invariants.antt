use Rattle.std.proofs.Common.{◌≤◌, length}
use Rattle.conditions.specs.meaning.Written.{most_pattern_vertices}
use Rattle.condition_grammar.specs.meaning.Token.{comma}
use Rattle.condition_grammar.specs.meaning.Grammar.{label_after, pattern_labels}
use Rattle.condition_grammar.proofs.Chaining.{ItemsLeft}
use Rattle.condition_grammar.proofs.reader.ConditionReader.pattern_labels.Given as goal

abbrev pub invariant-loop-self : goal.invariant-loop-self
invariant-loop-self l = record {
  left : ItemsLeft comma label_after (pattern_labels l.fn.self.tokens l.fn.self.names) l.fn.self l.labels l.self;
  few : length l.labels ≤ most_pattern_vertices;
}

abbrev pub decreases-loop-self : goal.decreases-loop-self
decreases-loop-self l = length l.self.tokens
