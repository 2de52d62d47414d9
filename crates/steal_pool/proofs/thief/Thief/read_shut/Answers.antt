use Rattle.std.proofs.Common.{rules}
use Rattle.steal_pool.proofs.ShutWords.{reads}
use Rattle.steal_pool.proofs.thief.Thief.read_shut.Goals as goal

pub load_as-word-requires : goal.load_as-word-requires
load_as-word-requires g c = (search rules, (search rules, (search rules, reads _ _)))
