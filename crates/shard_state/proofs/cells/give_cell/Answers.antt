use Rattle.std.proofs.Common.{◌<◌, Some, ap, subst, sym, ◌∙◌}
use Rattle.std.specs.FinMap as map
use Rattle.shared_lemmas.proofs.Booleans.{none_from}
use Rattle.update_rules.specs.meaning.Parts.{vertex_of}
use Rattle.shard_state.specs.calls.CellChanges.{KeepsEntries}
use Rattle.shard_state.specs.meaning.Shards.{place_of}
use Rattle.shard_state.specs.storage.Cells.{room_known}
use Rattle.shard_state.specs.storage.KeyedCells.{cells_of}
use Rattle.shard_state.specs.storage.Keys.{key_of}
use Rattle.shard_state.proofs.CellSteps.{KeepsEntries-fresh, KeepsEntries-itself, KeepsEntries-same, cell-at, has-written, put-at_key}
use Rattle.shard_state.proofs.cells.give_cell.Goals as goal

pub returns-in_err-reserve_in-clause-kept : goal.returns-in_err-reserve_in-clause-kept
returns-in_err-reserve_in-clause-kept c = KeepsEntries-itself _

pub returns-in_err-insert-clause-kept : goal.returns-in_err-insert-clause-kept
returns-in_err-insert-clause-kept c = KeepsEntries-same _ _ (ap (cells_of c.args.class) c.in_err-insert.ensures.err)

pub returns-clause-kept : goal.returns-clause-kept
returns-clause-kept c =
    let put = ap (cells_of c.args.class) c.in_ok-insert.ensures.ok
    ∙ put-at_key c.args.class c.args.items.now (vertex_of c.args.change.now) c.key.result c.requires.own (c.key.ensures ∙ ap (key_of c.args.class.shards) c.vertex-v.ensures) c.reserve_in.new.cell in
    subst (KeepsEntries (cells_of c.args.class c.args.items.now)) (sym put)
    (KeepsEntries-fresh (cells_of c.args.class c.args.items.now) (vertex_of c.args.change.now) c.new-cell.result c.reserve_in.new.cell (none_from _ c.requires.absent)
    c.new-cell.ensures.floor c.new-cell.ensures.at_floor c.new-cell.ensures.label c.new-cell.ensures.near c.reserve_in.ensures.kept)

pub returns-clause-ok : goal.returns-clause-ok
returns-clause-ok c =
    let there = ap (λ m. map.get (cells_of c.args.class m) (vertex_of c.args.change.now)) c.in_ok-insert.ensures.ok
    ∙ has-written c.args.class c.args.items.now (vertex_of c.args.change.now) c.key.result c.requires.own (c.key.ensures ∙ ap (key_of c.args.class.shards) c.vertex-v.ensures) c.reserve_in.new.cell in
    subst (λ o. 0 < room_known o (place_of c.args.change.now).1)
    (sym (cell-at (cells_of c.args.class c.insert.new.self) c.args.change.now (Some c.reserve_in.new.cell) there))
    c.in_ok-reserve_in.ensures.ok
