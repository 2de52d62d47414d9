use Rattle.std.proofs.Common.{◌≤◌, ap, ◌∙◌, arith}
use Rattle.shard_state.specs.meaning.Shards.{folded_entries, pruned}
use Rattle.shard_state.specs.storage.Cells.{entries_of}
use Rattle.shard_state.specs.storage.KeyedCells.{cells_of}
use Rattle.shard_state.proofs.StoredEntries.{entries-folded}
use Rattle.shard_state.proofs.Storing.{IsInOrder-stored}
use Rattle.shard_state.proofs.shard.Shard.prune.Goals as goal

pub invariant_of-self : goal.invariant_of-self
invariant_of-self c =
    let s = c.self.inside in
    let lower : s.floor ≤ c.greater-floor.result = omega (arith, c.greater-floor.ensures) in
    c.fold_touched.ensures.stored s.floor s.upto c.self.invariant lower

pub returns-clause-pruned : goal.returns-clause-pruned
returns-clause-pruned c =
    let s = c.self.inside in
    let lower : s.floor ≤ c.greater-floor.result = omega (arith, c.greater-floor.ensures) in
    let entries = entries-folded c.greater-floor.result (cells_of s.class s.cells) (cells_of s.class c.fold_touched.new.cells) (c.fold_touched.ensures.folded s.floor s.upto c.self.invariant lower) in
    (λ i. record {
      number = s.class.number;
      shards = s.class.shards;
      upto = s.upto;
      floor = c.greater-floor.ensures i;
      entries = (entries ∙ ap (λ n. folded_entries n (entries_of (cells_of s.class s.cells))) c.greater-floor.ensures) i;
    })
    ∙ ap (λ shard. pruned shard c.args.f) c.self.view_is

pub returns-clause-one_version : goal.returns-clause-one_version
returns-clause-one_version c =
    let s = c.self.inside in
    let lower : s.floor ≤ c.greater-floor.result = omega (arith, c.greater-floor.ensures) in
    IsInOrder-stored c.greater-floor.result s.upto (cells_of s.class c.fold_touched.new.cells) c.fold_touched.new.touched.touches (c.fold_touched.ensures.stored s.floor s.upto c.self.invariant lower) s.class.number s.class.shards
