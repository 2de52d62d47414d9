use Rattle.std.proofs.Common.{◌≡◌, ◌++◌, map}
use Rattle.update_rules.specs.meaning.Parts.{parts_of}
use Rattle.update_rules.proofs.shards.parts_by_shard.Given as goal

abbrev pub invariant-loop-shard : goal.invariant-loop-shard
invariant-loop-shard l = l.parts ++ map (λ e. record { shard = e.0; changes = e.1 }) l.shard-iterator ≡ parts_of l.shards l.fn.changes
