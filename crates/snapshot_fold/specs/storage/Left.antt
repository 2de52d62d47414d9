-- What an iterator over the pieces that are held has left.
use Rattle.std.specs.Prelude.{List}
use Rattle.graph_types.specs.meaning.Piece.{PieceValue}
use Rattle.snapshot_fold.specs.declared.held.Left.{Left}
use Rattle.snapshot_fold.specs.declared.held.Left.TheVariants.{Packed, Long}

abbrev pub pieces_left : Left → List PieceValue
pieces_left (Packed pieces) = pieces
pieces_left (Long pieces) = pieces
