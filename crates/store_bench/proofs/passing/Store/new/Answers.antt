use Rattle.std.proofs.Common.{subst, sym, ap, ◌∙◌, length, arith}
use Rattle.std.proofs.lemmas.List.FromFn.{length-map-range_with_len}
use Rattle.shard_state.specs.calls.Sharing.{KeepGraph}
use Rattle.shard_state.specs.meaning.Shards.{empty_shard}
use Rattle.store_bench.proofs.passing.Store.new.Goals as goal

pub returns : goal.returns
returns c = record {
  count = ap length c.in-Ok.ensures.empty ∙ length-map-range_with_len (λ number. empty_shard number 8) 0 8;
  keep = subst (KeepGraph c.in-Ok.shards.items 0) (sym c.new.ensures) (c.in-Ok.ensures.keep 0 (omega arith));
  few = omega arith;
}
