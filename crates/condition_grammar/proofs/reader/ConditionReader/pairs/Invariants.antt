use Rattle.std.proofs.Common.{length}
use Rattle.condition_grammar.specs.meaning.Token.{comma}
use Rattle.condition_grammar.specs.meaning.Grammar.{pair_after, pairs}
use Rattle.condition_grammar.proofs.Chaining.{ItemsLeft}
use Rattle.condition_grammar.proofs.reader.ConditionReader.pairs.Given as goal

abbrev pub invariant-loop-alloc : goal.invariant-loop-alloc
invariant-loop-alloc l = ItemsLeft comma (pair_after l.count) (pairs l.count l.fn.self.tokens l.fn.self.names) l.fn.self l.edges l.self

abbrev pub decreases-loop-alloc : goal.decreases-loop-alloc
decreases-loop-alloc l = length l.self.tokens
