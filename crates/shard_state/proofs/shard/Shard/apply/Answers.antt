use Rattle.std.proofs.Common.{◌≡◌, ◌<◌, ◌++◌, map as mapped, ap, subst, sym, refl, ◌∙◌, arith}
use Rattle.std.specs.List.{AllByRecursion}
use Rattle.std.specs.List.Sorted.{IsStrictlySortedBy}
use Rattle.update_rules.specs.meaning.Parts.{vertex_of}
use Rattle.update_rules.specs.meaning.Places.{place_cmp}
use Rattle.shard_state.specs.meaning.Shards.{IsOwn, ShardValue, applied, place_of, with_changes}
use Rattle.shard_state.specs.storage.Cells.{entries_of}
use Rattle.shard_state.specs.storage.KeyedCells.{Owns, cells_of}
use Rattle.shard_state.specs.storage.Touched.{IsStored, touches_of}
use Rattle.shard_state.proofs.CellSteps.{KeepsEntries-itself}
use Rattle.shard_state.proofs.StoredEntries.{IsStored-kept, all-ready, entries-changed, entries-kept, on_err}
use Rattle.shard_state.proofs.Storing.{IsStored-noted}
use Rattle.shard_state.proofs.shard.Shard.apply.Goals as goal

pub reserve_each-requires : goal.reserve_each-requires
reserve_each-requires c =
    let s = c.self.inside in
    subst (AllByRecursion (λ change. Owns s.class (vertex_of change))) (sym c.as_slice-changes.ensures)
    (subst (λ (shard : ShardValue). AllByRecursion (λ change. IsOwn shard (vertex_of change)) c.args.part.now.changes) (sym c.self.view_is) c.requires.own)

pub note_each-requires-clause-ready : goal.note_each-requires-clause-ready
note_each-requires-clause-ready c =
    let s = c.self.inside in
    let above : s.floor < c.args.at = subst (λ (shard : ShardValue). shard.floor < c.args.at) (sym c.self.view_is) c.requires.after_floor in
    let later : s.upto < c.args.at = subst (λ (shard : ShardValue). shard.upto < c.args.at) (sym c.self.view_is) c.requires.after_last in
    all-ready s.floor s.upto c.args.at (cells_of s.class c.reserve_each.new.cells) s.touched.touches
    (IsStored-kept s.floor s.upto (cells_of s.class s.cells) (cells_of s.class c.reserve_each.new.cells) s.touched.touches s.touched.touches c.reserve_each.ensures.kept refl c.self.invariant) above later
    c.as_slice-changes.result.now c.in_ok-reserve_each.ensures.ok

pub note_each-requires-clause-ascending : goal.note_each-requires-clause-ascending
note_each-requires-clause-ascending c = subst (λ changes. IsStrictlySortedBy place_cmp (mapped place_of changes)) (sym c.as_slice-changes.ensures) c.requires.ascending

pub note_each-requires-clause-room : goal.note_each-requires-clause-room
note_each-requires-clause-room c = omega (arith, c.in_ok-reserve.ensures.ok)

pub invariant_of-self : goal.invariant_of-self
invariant_of-self c =
    let s = c.self.inside in
    IsStored-kept s.floor s.upto (cells_of s.class s.cells) (cells_of s.class s.cells) s.touched.touches c.reserve.new.self.touches (KeepsEntries-itself (cells_of s.class s.cells)) c.reserve.ensures.same c.self.invariant

pub invariant_of-self-in_err-reserve_each : goal.invariant_of-self-in_err-reserve_each
invariant_of-self-in_err-reserve_each c =
    let s = c.self.inside in
    IsStored-kept s.floor s.upto (cells_of s.class s.cells) (cells_of s.class c.reserve_each.new.cells) s.touched.touches c.reserve.new.self.touches c.reserve_each.ensures.kept c.reserve.ensures.same c.self.invariant

pub returns-in_err-reserve-clause-err : goal.returns-in_err-reserve-clause-err
returns-in_err-reserve-clause-err c = on_err c.from_residual.result _ c.self.view_is

pub returns-in_err-reserve_each-clause-err : goal.returns-in_err-reserve_each-clause-err
returns-in_err-reserve_each-clause-err c =
    let s = c.self.inside in
    let now : ShardValue = record { number = s.class.number; shards = s.class.shards; upto = s.upto; floor = s.floor; entries = entries_of (cells_of s.class c.reserve_each.new.cells) } in
    let same : now ≡ c.args.self.now =
    (λ i. record {
      number = s.class.number;
      shards = s.class.shards;
      upto = s.upto;
      floor = s.floor;
      entries = entries-kept (cells_of s.class s.cells) (cells_of s.class c.reserve_each.new.cells) c.reserve_each.ensures.kept i;
    })
    ∙ c.self.view_is in
    on_err c.from_residual-in_err-reserve_each.result _ same

pub invariant_of-self-2 : goal.invariant_of-self-2
invariant_of-self-2 c =
    let s = c.self.inside in
    let changes = c.as_slice-changes.result.now in
    let above : s.floor < c.args.at = subst (λ (shard : ShardValue). shard.floor < c.args.at) (sym c.self.view_is) c.requires.after_floor in
    let later : s.upto < c.args.at = subst (λ (shard : ShardValue). shard.upto < c.args.at) (sym c.self.view_is) c.requires.after_last in
    let ascending = subst (λ cs. IsStrictlySortedBy place_cmp (mapped place_of cs)) (sym c.as_slice-changes.ensures) c.requires.ascending in
    subst (IsStored s.floor c.args.at (cells_of s.class c.note_each.new.cells)) (sym (c.note_each.ensures.touches ∙ ap (λ touches. touches ++ touches_of c.args.at changes) c.reserve.ensures.same))
    (IsStored-noted s.floor s.upto c.args.at (cells_of s.class c.reserve_each.new.cells) (cells_of s.class c.note_each.new.cells) s.touched.touches changes
    (IsStored-kept s.floor s.upto (cells_of s.class s.cells) (cells_of s.class c.reserve_each.new.cells) s.touched.touches s.touched.touches c.reserve_each.ensures.kept refl c.self.invariant)
    later above ascending c.note_each.ensures.versions c.note_each.ensures.floors)

pub returns-clause-ok : goal.returns-clause-ok
returns-clause-ok c =
    let s = c.self.inside in
    let changes = c.as_slice-changes.result.now in
    let entries =
    entries-changed c.args.at changes (cells_of s.class c.reserve_each.new.cells) (cells_of s.class c.note_each.new.cells) c.note_each.ensures.versions
    ∙ (λ i. with_changes c.args.at (entries-kept (cells_of s.class s.cells) (cells_of s.class c.reserve_each.new.cells) c.reserve_each.ensures.kept i) (c.as_slice-changes.ensures i)) in
    (λ i. record {
      number = s.class.number;
      shards = s.class.shards;
      upto = c.args.at;
      floor = s.floor;
      entries = entries i;
    })
    ∙ ap (λ shard. applied shard c.args.part.now.changes c.args.at) c.self.view_is
