use Rattle.std.proofs.Common.{◌∙◌}
use Rattle.shard_tables.proofs.Asking.{TellWindow-begun}
use Rattle.shard_tables.proofs.stores.store.Goals as goal

pub ask_all-requires : goal.ask_all-requires
ask_all-requires c =
    TellWindow-begun c.in_ok-window.window c.in_ok-count.count _ (c.deref_mut.ensures.value ∙ c.in_ok-shards.ensures.empty) c.in_ok-window.ensures.from_nothing c.in_ok-window.ensures.shards c.in_ok-count.ensures
