use Rattle.std.proofs.Common.{sym, ◌∙◌, arith}
use Rattle.shard_tables.proofs.Asking.{CanBeViewed-asked}
use Rattle.shard_tables.proofs.questions.can_be_viewed.Goals as goal

pub returns : goal.returns
returns c = λ below. CanBeViewed-asked c.args.window.now c.args.taken c.args.shards.now c.requires c.args.t (omega arith) (omega arith) (sym c.are_pruned_below.ensures ∙ below)
