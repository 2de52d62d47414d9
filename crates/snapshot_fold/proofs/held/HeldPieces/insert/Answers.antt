use Rattle.std.proofs.Common.{sym, ap, subst, ◌∙◌}
use Rattle.std.specs.List.{AllByRecursion}
use Rattle.std.specs.Prelude.{Result, Ok, Err, OnErr}
use Rattle.graph_types.specs.meaning.Piece.{piece_cmp}
use Rattle.shared_lemmas.proofs.Claims.{all-insert_key}
use Rattle.snapshot_fold.specs.meaning.Pieces.{has_piece}
use Rattle.snapshot_fold.specs.storage.Held.{IsKept, pieces_kept}
use Rattle.snapshot_fold.specs.storage.Packed.{HasFew}
use Rattle.snapshot_fold.proofs.Holding.{absent_long}
use Rattle.snapshot_fold.proofs.held.HeldPieces.insert.Goals as goal

pub invariant_of-self-in-Some : goal.invariant_of-self-in-Some
invariant_of-self-in-Some c =
    subst (AllByRecursion HasFew) (sym c.in_ok-insert-in-Some.ensures.keys)
    (all-insert_key HasFew piece_cmp c.in-Some.packed c.in-Packed.pieces.keys (subst IsKept c.in-Packed.is c.self.invariant) (subst HasFew (sym c.in-Some.ensures.1) c.in-Some.ensures.0))

-- what is known anyway is known where an error came
known : {T E P : Type 0} (r : Result T E) → P → OnErr r P
known (Ok v) p = tt
known (Err e) p = p

pub returns-in_err-long-in-None-clause-absent : goal.returns-in_err-long-in-None-clause-absent
returns-in_err-long-in-None-clause-absent c =
    known c.from_residual-in_err-long-in-None.result
    (ap (λ pieces. has_piece pieces c.args.piece.now) (sym c.self.view_is ∙ ap pieces_kept c.in-Packed.is)
    ∙ absent_long c.in-Packed.pieces.keys c.args.piece.now (subst IsKept c.in-Packed.is c.self.invariant) c.in-None.ensures)
