use Rattle.std.proofs.Common.{arith}
use Rattle.std.proofs.lemmas.Bool.Decides.{nat_tests}
use Rattle.std.proofs.lemmas.Grind.{common_steps}
use Rattle.rehearsal.specs.meaning.Table.{is_finished}
use Rattle.rehearsal.proofs.machine.Machine.may_see_done.Goals as goal

pub returns-then-self-len : goal.returns-then-self-len
returns-then-self-len c = let is = c.task.ensures is_finished in grind (arith, nat_tests, common_steps)

pub returns-in_default : goal.returns-in_default
returns-in_default c = let is = c.task.ensures is_finished in grind (arith, nat_tests, common_steps)

pub returns-in_default-2 : goal.returns-in_default-2
returns-in_default-2 c = let is = c.task.ensures is_finished in grind (arith, nat_tests, common_steps)
