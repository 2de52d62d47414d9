use Rattle.std.proofs.Common.{ℕ, ◌+◌, ◌*◌, length}
use Rattle.condition_grammar.specs.declared.joint.Joint.{Joint}
use Rattle.condition_grammar.specs.declared.joint.Joint.TheVariants.{And, Or}
use Rattle.condition_grammar.specs.meaning.Grammar.{join_after, joint_word, joined_operands, nested_within, operand}
use Rattle.condition_grammar.proofs.Chaining.{ItemsLeft}
use Rattle.condition_grammar.proofs.reader.ConditionReader.+condition.Given as goal

abbrev pub decreases-atom : goal.decreases-atom
decreases-atom l = 7 * l.room

abbrev pub decreases-neg : goal.decreases-neg
decreases-neg l = 7 * l.room + 1

-- what reads `and` is called by what reads `or`
abbrev pub calls : Joint → ℕ
calls And = 0
calls Or = 2

abbrev pub decreases-operand : goal.decreases-operand
decreases-operand l = 7 * l.room + 2 + calls l.joint

abbrev pub decreases-chain : goal.decreases-chain
decreases-chain l = 7 * l.room + 3 + calls l.joint

abbrev pub decreases-cond : goal.decreases-cond
decreases-cond l = 7 * l.room + 6

abbrev pub invariant-chain-loop-alloc : goal.invariant-chain-loop-alloc
invariant-chain-loop-alloc l =
    ItemsLeft (joint_word l.joint) (join_after l.joint (operand l.joint (nested_within l.room))) (joined_operands l.joint (nested_within l.room) l.fn.self.tokens l.fn.self.names) l.fn.self l.left l.self

abbrev pub decreases-chain-loop-alloc : goal.decreases-chain-loop-alloc
decreases-chain-loop-alloc l = length l.self.tokens
