use Rattle.std.proofs.Common.{length}
use Rattle.steal_pool.proofs.tests.+turns.Given as goal

abbrev pub decreases-turns : goal.decreases-turns
decreases-turns g l = length l.thieves
