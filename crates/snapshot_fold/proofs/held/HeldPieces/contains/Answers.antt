use Rattle.std.proofs.Common.{sym, ap, subst, ◌∙◌}
use Rattle.snapshot_fold.specs.meaning.Pieces.{has_piece}
use Rattle.snapshot_fold.specs.storage.Held.{IsKept, pieces_kept}
use Rattle.snapshot_fold.proofs.Holding.{absent_long}
use Rattle.snapshot_fold.proofs.held.HeldPieces.contains.Goals as goal

pub returns-in-None : goal.returns-in-None
returns-in-None c =
    sym (absent_long c.in-Packed.pieces.keys c.args.piece.now (subst IsKept c.in-Packed.is c.self.invariant) c.in-None.ensures)
    ∙ ap (λ pieces. has_piece pieces c.args.piece.now) (ap pieces_kept (sym c.in-Packed.is) ∙ c.self.view_is)
