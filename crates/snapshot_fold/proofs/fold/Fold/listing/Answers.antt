use Rattle.std.proofs.Common.{sym, subst, ◌∙◌}
use Rattle.std.specs.List.Sorted.{IsStrictlySortedBy}
use Rattle.std.proofs.lemmas.Result.{IfOk-weaker}
use Rattle.graph_types.specs.meaning.Piece.{piece_cmp}
use Rattle.snapshot_fold.specs.storage.Undone.{pieces_before_open}
use Rattle.snapshot_fold.proofs.Undone.{undone-ascends}
use Rattle.snapshot_fold.proofs.fold.Fold.listing.Goals as goal

pub returns-clause-ascending : goal.returns-clause-ascending
returns-clause-ascending c =
    let f = c.self.inside in
    IfOk-weaker c.put_back.result _ (IsStrictlySortedBy piece_cmp)
    (λ pieces is. subst (IsStrictlySortedBy piece_cmp)
    (sym (is ∙ (λ i. pieces_before_open f.pieces (c.deref.ensures i) (c.deref-2.ensures i))))
    (undone-ascends f.pieces f.went f.came c.self.invariant)) c.put_back.ensures
