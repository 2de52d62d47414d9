use Rattle.graph_types.proofs.Members.{is_eq-piece_cmp}
use Rattle.graph_types.proofs.piece.PiecePartialEq.eq.Goals as goal

pub returns-clause-same : goal.returns-clause-same
returns-clause-same c = rw (c.is_eq.ensures, c.cmp.ensures) (is_eq-piece_cmp _ _)
