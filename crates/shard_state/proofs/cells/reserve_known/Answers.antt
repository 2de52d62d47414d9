use Rattle.std.proofs.Common.{◌≡◌, ◌<◌, Some, ap, subst, sym, ◌∙◌}
use Rattle.std.specs.FinMap as map
use Rattle.std.specs.Option.{is_some}
use Rattle.update_rules.specs.meaning.Parts.{vertex_of}
use Rattle.shard_state.specs.meaning.Shards.{place_of}
use Rattle.shard_state.specs.storage.Cells.{room_known}
use Rattle.shard_state.specs.storage.KeyedCells.{cells_of}
use Rattle.shard_state.specs.storage.Keys.{key_of}
use Rattle.shard_state.proofs.CellSteps.{KeepsEntries-itself, KeepsEntries-written, cell-at, get-at_key, has-written}
use Rattle.shard_state.proofs.cells.reserve_known.Goals as goal

pub returns-in_default-clause-kept : goal.returns-in_default-clause-kept
returns-in_default-clause-kept c = KeepsEntries-itself _

pub returns-in_default-clause-known : goal.returns-in_default-clause-known
returns-in_default-clause-known c =
    sym (ap is_some (get-at_key c.args.class c.args.items.now (vertex_of c.args.change.now) c.key.result c.requires (c.key.ensures ∙ ap (key_of c.args.class.shards) c.vertex-v.ensures) ∙ sym c.in_default.ensures.value))

pub returns-in_err-reserve_in-clause-kept : goal.returns-in_err-reserve_in-clause-kept
returns-in_err-reserve_in-clause-kept c =
    KeepsEntries-written c.args.class c.args.items.now (vertex_of c.args.change.now) c.key.result c.requires (c.key.ensures ∙ ap (key_of c.args.class.shards) c.vertex-v.ensures) c.in-Some.cell.now c.reserve_in.new.cell
    (sym c.in-Some.ensures.value) c.reserve_in.ensures.kept

pub returns-clause-kept : goal.returns-clause-kept
returns-clause-kept c =
    KeepsEntries-written c.args.class c.args.items.now (vertex_of c.args.change.now) c.key.result c.requires (c.key.ensures ∙ ap (key_of c.args.class.shards) c.vertex-v.ensures) c.in-Some.cell.now c.reserve_in.new.cell
    (sym c.in-Some.ensures.value) c.reserve_in.ensures.kept

there : (c : goal.In_ok-reserve_in) → map.get (cells_of c.args.class (map.insert c.args.items.now c.key.result c.reserve_in.new.cell)) (vertex_of c.args.change.now) ≡ Some c.reserve_in.new.cell
there c =
    has-written c.args.class c.args.items.now (vertex_of c.args.change.now) c.key.result c.requires (c.key.ensures ∙ ap (key_of c.args.class.shards) c.vertex-v.ensures) c.reserve_in.new.cell

pub returns-clause-known : goal.returns-clause-known
returns-clause-known c = sym (ap is_some (there c))

pub returns-clause-room : goal.returns-clause-room
returns-clause-room c = λ _.
    subst (λ o. 0 < room_known o (place_of c.args.change.now).1)
    (sym (cell-at (cells_of c.args.class (map.insert c.args.items.now c.key.result c.reserve_in.new.cell)) c.args.change.now (Some c.reserve_in.new.cell) (there c)))
    c.in_ok-reserve_in.ensures.ok
