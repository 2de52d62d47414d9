use Rattle.std.proofs.Common.{◌≡◌, Ok, sym, subst, ap, ◌∙◌}
use Rattle.std.specs.List.Sorted.{IsStrictlySortedBy}
use Rattle.graph_types.specs.meaning.Piece.{piece_cmp}
use Rattle.job_io.specs.meaning.Lines.{lines_of}
use Rattle.snapshot_fold.specs.meaning.FoldState.{empty_fold}
use Rattle.snapshot_fold.specs.meaning.Folding.{fold_outcome}
use Rattle.job_io.proofs.Known.{BothKnown-same}
use Rattle.snapshot_fold.proofs.Told.{folded_from-reached}
use Rattle.snapshot_fold.proofs.Going.{Folds-told}
use Rattle.snapshot_fold.proofs.folding.fold_records.Goals as goal

pub returns-then-is_reached-clause-folds : goal.returns-then-is_reached-clause-folds
returns-then-is_reached-clause-folds g c =
    BothKnown-same (λ bytes is. fold_outcome c.args.most_lines c.args.at (lines_of bytes) ≡ Ok c.new.result) (g.S.Source.left c.args.input.now) (λ bytes.
    folded_from-reached c.args.most_lines c.args.at 0 empty_fold (lines_of bytes) (sym c.is_reached.ensures ∙ c.if-is_reached.true)
    ∙ ap Ok (sym c.new.ensures))

pub returns-then-is_reached-clause-ascending : goal.returns-then-is_reached-clause-ascending
unfolding IsStrictlySortedBy
returns-then-is_reached-clause-ascending g c = subst (IsStrictlySortedBy piece_cmp) (sym c.new.ensures) tt

pub returns-clause-told : goal.returns-clause-told
returns-clause-told g c = Folds-told c.args.most_lines c.args.at _ _ c.fold_lines.result c.fold_lines.ensures.folds
