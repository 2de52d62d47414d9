use Rattle.std.proofs.Common.{ap, subst, sym, ◌∙◌, arith}
use Rattle.std.proofs.lemmas.Bool.Decides.{nat_tests}
use Rattle.shard_state.specs.calls.CellChanges.{FoldsCell}
use Rattle.shard_state.specs.storage.KeyedCells.{Owns, cells_of}
use Rattle.shard_state.proofs.CellKeys.{get-foreign}
use Rattle.shard_state.proofs.CellSteps.{FoldsCell-absent, FoldsCell-removed, taken-at_key}
use Rattle.shard_state.proofs.cells.Cells.fold.Goals as goal
use Rattle.shard_state.proofs.cells.Cells.fold.Goals.{in-Some-1, in-None-1}

pub returns-then-not-has-clause-folds : goal.returns-then-not-has-clause-folds
returns-then-not-has-clause-folds c = λ _. FoldsCell-absent (cells_of c.args.class c.args.self.now) c.args.v c.args.t (get-foreign c.args.class c.args.self.now c.args.v (sym c.has.ensures ∙ c.if-not-has.true))

pub fold_known-requires : goal.fold_known-requires
fold_known-requires c = grind (arith, nat_tests, c.has.ensures)

pub returns-then-fold_known-clause-folds : goal.returns-then-fold_known-clause-folds
returns-then-fold_known-clause-folds c = λ _.
    let own : Owns c.args.class c.args.v = grind (arith, nat_tests, c.has.ensures) in
    let folded = c.fold_known.new.items in
    let emptied = c.fold_known.ensures.emptied c.if-fold_known.true in
    let removed =
    subst (λ m. FoldsCell (cells_of c.args.class m) (cells_of c.args.class c.remove.new.self) c.args.v c.args.t) c.self.view_is
    (subst (λ m. FoldsCell (cells_of c.args.class c.self.inside.items) m c.args.v c.args.t)
    (sym (ap (cells_of c.args.class) c.remove.ensures.rest ∙ taken-at_key c.args.class folded c.args.v c.key.result own c.key.ensures))
    (FoldsCell-removed (cells_of c.args.class c.self.inside.items) (cells_of c.args.class folded) c.args.v c.args.t (c.fold_known.ensures.folds emptied.0) emptied.1)) in
    elim c.match-remove.branch [
      | in-Some-1 w ↦ subst (λ m. FoldsCell (cells_of c.args.class c.args.self.now) (cells_of c.args.class m) c.args.v c.args.t) (sym w.self-is) removed
      | in-None-1 w ↦ subst (λ m. FoldsCell (cells_of c.args.class c.args.self.now) (cells_of c.args.class m) c.args.v c.args.t) (sym w.self-is) removed
    ]
