-- Pieces in ascending order, each once.
use Rattle.std.specs.Prelude.{Bool, true, List, [], ◌∷◌, Option, None, Some}
use Rattle.std.specs.BTreeSet.{insert_key}
use Rattle.std.specs.List.{list_any}
use Rattle.std.specs.Ordering.{is_eq, is_lt}
use Rattle.std.specs.Set.{remove_key}
use Rattle.graph_types.specs.meaning.Piece.{PieceValue, piece_cmp}

abbrev pub is_same_piece : PieceValue → PieceValue → Bool
is_same_piece p q = is_eq (piece_cmp p q)

abbrev pub has_piece : List PieceValue → PieceValue → Bool
has_piece pieces p = list_any (is_same_piece p) pieces

-- with one more piece, at its place in the order
abbrev pub with_piece : List PieceValue → PieceValue → List PieceValue
with_piece pieces p = insert_key piece_cmp pieces p

abbrev pub without_piece : List PieceValue → PieceValue → List PieceValue
without_piece pieces p = remove_key (is_same_piece p) pieces

abbrev pub last_of : List PieceValue → Option PieceValue
last_of [] = None
last_of (p ∷ []) = Some p
last_of (p ∷ q ∷ pieces) = last_of (q ∷ pieces)

-- the piece is above the one before it, if there was one
abbrev pub is_above : Option PieceValue → PieceValue → Bool
is_above None p = true
is_above (Some before) p = is_lt (piece_cmp before p)
