use Rattle.std.proofs.Common.{◌≡◌, length, sym, ap, ◌∙◌, arith}
use Rattle.std.proofs.lemmas.List.FromFn.{length-map-range_with_len}
use Rattle.shard_state.specs.meaning.Shards.{empty_shard}
use Rattle.view_tables.proofs.GroupsTaken.{TellUpTo-empty}
use Rattle.view_tables.proofs.shards.Shards.empty.Goals as goal

pub returns : goal.returns
returns c = record {
  parted = c.requires.parted ∙ sym (ap length c.in_ok-items.ensures.empty ∙ length-map-range_with_len (λ number. empty_shard number c.args.count) 0 c.args.count);
  tell = TellUpTo-empty c.args.window.now c.in_ok-items.items.items c.sound.ensures c.requires.begun (λ at. c.in_ok-items.ensures.keep at c.requires.some);
}
