use Rattle.shard_tables.proofs.Asking.{TellWindow-pruned}
use Rattle.shard_tables.proofs.stores.ask.Goals as goal

pub returns-in_ok-prune-in-prune : goal.returns-in_ok-prune-in-prune
returns-in_ok-prune-in-prune c = TellWindow-pruned c.args.window.now c.args.taken c.args.shards.now c.requires c.in_ok-stamp-in-prune.field-0 _ c.in_ok-prune-in-prune.ensures
