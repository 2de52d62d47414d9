use Rattle.std.proofs.Common.{◌+◌, ◌*◌, length}
use Rattle.pool_bench.proofs.threads.+fn-run_thieves-join+arg2+run_thieves.Given as goal

abbrev pub decreases-join+arg2 : goal.decreases-join+arg2
decreases-join+arg2 g l = 2 * length l.thieves + 1

abbrev pub decreases-run_thieves : goal.decreases-run_thieves
decreases-run_thieves g l = 2 * length l.thieves
