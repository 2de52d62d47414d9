use Rattle.std.proofs.Common.{length, sym, ap, subst, ◌∙◌}
use Rattle.std.proofs.lemmas.List.FromFn.{length-map-range_with_len}
use Rattle.shard_state.specs.calls.Sharing.{KeepGraph}
use Rattle.shard_state.specs.meaning.Shards.{empty_shard}
use Rattle.delta_tables.proofs.windows.begin.Goals as goal

pub returns : goal.returns
returns c = record {
  all = ap length c.in_ok-shards.ensures.empty ∙ length-map-range_with_len (λ number. empty_shard number c.args.count) 0 c.args.count;
  keep = subst (KeepGraph c.in_ok-shards.shards.items 0) (sym c.new.ensures) (c.in_ok-shards.ensures.keep 0 c.requires);
}
