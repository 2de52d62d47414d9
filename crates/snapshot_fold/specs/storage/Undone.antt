-- What a fold keeps of the open timestamp, and how it takes it back.
use Rattle.std.specs.Prelude.{◌≡◌, Bool, true, false, List, [], ◌∷◌, ◌++◌, drop, if◌then◌else◌}
use Rattle.std.specs.List.Sorted.{IsStrictlySortedBy}
use Rattle.std.specs.Ordering.{is_le}
use Rattle.graph_types.specs.meaning.Piece.{PieceValue, piece_cmp}
use Rattle.snapshot_fold.specs.meaning.Pieces.{has_piece, is_same_piece}

-- those of some ascending pieces that aren't above p
abbrev pub pieces_up_to : List PieceValue → PieceValue → List PieceValue
pieces_up_to [] p = []
pieces_up_to (q ∷ pieces) p = if is_le (piece_cmp q p) then q ∷ pieces_up_to pieces p else []

-- those that are
abbrev pub pieces_above : List PieceValue → PieceValue → List PieceValue
pieces_above [] p = []
pieces_above (q ∷ pieces) p = if is_le (piece_cmp q p) then pieces_above pieces p else q ∷ pieces

abbrev pub begins_with : List PieceValue → PieceValue → Bool
begins_with [] p = false
begins_with (q ∷ pieces) p = is_same_piece q p

-- the pieces before some that went and some that came, of those that are held now
abbrev pub pieces_before_open : List PieceValue → List PieceValue → List PieceValue → List PieceValue
pieces_before_open [] went came = went
pieces_before_open (p ∷ held) went came =
    pieces_up_to went p ++ (if begins_with came p then pieces_before_open held (pieces_above went p) (drop 1 came) else p ∷ pieces_before_open held (pieces_above went p) came)

-- the pieces that are held, and those that went and came at the open timestamp, in their order
pub record IsOpen (held went came : List PieceValue) : Type 0 where
  pub held_ascends : IsStrictlySortedBy piece_cmp held
  pub went_ascends : IsStrictlySortedBy piece_cmp went
  pub came_ascends : IsStrictlySortedBy piece_cmp came
  -- what came is held
  pub came_held : (p : PieceValue) → has_piece came p ≡ true → has_piece held p ≡ true
  -- what went isn't held, unless it came again
  pub went_away : (p : PieceValue) → has_piece went p ≡ true → has_piece held p ≡ true → has_piece came p ≡ true
