use Rattle.std.proofs.Common.{◌≡◌, ◌<◌, None, Some, refl, ap, subst, sym, ◌∙◌, arith}
use Rattle.std.specs.FinMap as map
use Rattle.update_rules.specs.meaning.Parts.{vertex_of}
use Rattle.version_cell.specs.meaning.Changes.{IsAfterLast}
use Rattle.shard_state.specs.calls.CellChanges.{NotesVersion}
use Rattle.shard_state.specs.meaning.Shards.{place_of, version_of}
use Rattle.shard_state.specs.storage.Cells.{floor_known, room_known, versions_known}
use Rattle.shard_state.specs.storage.KeyedCells.{cells_of}
use Rattle.shard_state.specs.storage.Keys.{key_of}
use Rattle.shard_state.proofs.CellSteps.{NotesVersion-written, Owns-room, cell-at, get-with_room}
use Rattle.shard_state.proofs.cells.Cells.note.Goals as goal

pub unreachable-requires : goal.unreachable-requires
unreachable-requires c =
    let none : map.get (cells_of c.args.class c.args.self.now) (vertex_of c.args.change.now) ≡ None =
    get-with_room c.args.class c.args.self.now c.args.change.now c.vertex-v.result c.key.result c.vertex-v.ensures c.key.ensures c.requires.reserved
    ∙ ap (λ m. map.get m c.key.result) (sym c.self.view_is)
    ∙ sym c.in_default.ensures.value in
    let room : 0 < 0 = subst (λ o. 0 < room_known o (place_of c.args.change.now).1) (cell-at (cells_of c.args.class c.args.self.now) c.args.change.now None none) c.requires.reserved in
    omega arith

pub note_in-requires-clause-reserved : goal.note_in-requires-clause-reserved
note_in-requires-clause-reserved c =
    let some : map.get (cells_of c.args.class c.args.self.now) (vertex_of c.args.change.now) ≡ Some c.in-Some.cell.now =
    get-with_room c.args.class c.args.self.now c.args.change.now c.vertex-v.result c.key.result c.vertex-v.ensures c.key.ensures c.requires.reserved
    ∙ ap (λ m. map.get m c.key.result) (sym c.self.view_is)
    ∙ sym c.in-Some.ensures.value in
    subst (λ o. 0 < room_known o (place_of c.args.change.now).1) (cell-at (cells_of c.args.class c.args.self.now) c.args.change.now (Some c.in-Some.cell.now) some) c.requires.reserved

pub note_in-requires-clause-above : goal.note_in-requires-clause-above
note_in-requires-clause-above c =
    let some : map.get (cells_of c.args.class c.args.self.now) (vertex_of c.args.change.now) ≡ Some c.in-Some.cell.now =
    get-with_room c.args.class c.args.self.now c.args.change.now c.vertex-v.result c.key.result c.vertex-v.ensures c.key.ensures c.requires.reserved
    ∙ ap (λ m. map.get m c.key.result) (sym c.self.view_is)
    ∙ sym c.in-Some.ensures.value in
    subst (λ o. floor_known o < c.args.at) some c.requires.above

pub note_in-requires-clause-later : goal.note_in-requires-clause-later
note_in-requires-clause-later c =
    let some : map.get (cells_of c.args.class c.args.self.now) (vertex_of c.args.change.now) ≡ Some c.in-Some.cell.now =
    get-with_room c.args.class c.args.self.now c.args.change.now c.vertex-v.result c.key.result c.vertex-v.ensures c.key.ensures c.requires.reserved
    ∙ ap (λ m. map.get m c.key.result) (sym c.self.view_is)
    ∙ sym c.in-Some.ensures.value in
    subst (λ o. IsAfterLast (versions_known o (place_of c.args.change.now).1).changes c.args.at) (cell-at (cells_of c.args.class c.args.self.now) c.args.change.now (Some c.in-Some.cell.now) some) c.requires.later

pub returns : goal.returns
returns c =
    let change = c.args.change.now in
    let own = Owns-room c.args.class c.args.self.now change c.requires.reserved in
    subst (λ m. NotesVersion (cells_of c.args.class m) (cells_of c.args.class (map.insert c.self.inside.items c.key.result c.note_in.new.cell)) (place_of change) (version_of c.args.at change)) c.self.view_is
    (NotesVersion-written c.args.class c.self.inside.items (vertex_of change) c.key.result own (c.key.ensures ∙ ap (key_of c.args.class.shards) c.vertex-v.ensures) c.in-Some.cell.now c.note_in.new.cell
    (sym c.in-Some.ensures.value) c.args.at change refl c.note_in.ensures)
