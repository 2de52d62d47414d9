use Rattle.shard_tables.specs.calls.Asking.{TellWindow}
use Rattle.shard_tables.proofs.stores.ask_all.Given as goal

abbrev pub invariant-loop-question : goal.invariant-loop-question
invariant-loop-question l = TellWindow l.window l.taken l.shards
