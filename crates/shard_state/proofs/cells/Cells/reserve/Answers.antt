use Rattle.std.proofs.Common.{subst, sym, ◌∙◌}
use Rattle.shard_state.specs.calls.CellChanges.{KeepsEntries}
use Rattle.shard_state.specs.storage.KeyedCells.{cells_of}
use Rattle.shard_state.proofs.CellSteps.{KeepsEntries-then}
use Rattle.shard_state.proofs.cells.Cells.reserve.Goals as goal

pub give_cell-requires-clause-absent : goal.give_cell-requires-clause-absent
give_cell-requires-clause-absent c = sym c.in_ok-reserve_known.ensures.known ∙ c.if-branch.false

pub returns-in_err-reserve_known-clause-kept : goal.returns-in_err-reserve_known-clause-kept
returns-in_err-reserve_known-clause-kept c = subst (λ m. KeepsEntries (cells_of c.args.class m) (cells_of c.args.class c.reserve_known.new.items)) c.self.view_is c.reserve_known.ensures.kept

pub returns-then-branch-clause-kept : goal.returns-then-branch-clause-kept
returns-then-branch-clause-kept c = subst (λ m. KeepsEntries (cells_of c.args.class m) (cells_of c.args.class c.reserve_known.new.items)) c.self.view_is c.reserve_known.ensures.kept

pub returns-then-branch-clause-ok : goal.returns-then-branch-clause-ok
returns-then-branch-clause-ok c = c.in_ok-reserve_known.ensures.room c.if-branch.true

pub returns-clause-kept : goal.returns-clause-kept
returns-clause-kept c =
    subst (λ m. KeepsEntries (cells_of c.args.class m) (cells_of c.args.class c.give_cell.new.items)) c.self.view_is
    (KeepsEntries-then _ (cells_of c.args.class c.reserve_known.new.items) _ c.reserve_known.ensures.kept c.give_cell.ensures.kept)
