-- What the iterator over the pieces that are held gives.
use Rattle.graph_types.specs.meaning.Piece.{PieceValue}

abbrev pub same_value : PieceValue → PieceValue
same_value p = p
