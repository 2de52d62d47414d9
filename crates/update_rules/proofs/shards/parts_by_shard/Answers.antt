use Rattle.std.proofs.Common.{map, ap, ◌∙◌}
use Rattle.update_rules.proofs.PartsOfChanges.{parts-listed}
use Rattle.update_rules.proofs.shards.parts_by_shard.Goals as goal

pub loop-shard-init : goal.loop-shard-init
loop-shard-init c =
    let entries = c.into_iter-shard-iterator.ensures.into_iter_gives in
    rw c.new-parts.ensures
    (ap (map (λ e. record { shard = e.0; changes = e.1 })) entries.0
    ∙ parts-listed c.args.shards c.in_ok-by_shard.by_shard c.args.changes.now c.requires entries.5 c.in_ok-by_shard.ensures)
