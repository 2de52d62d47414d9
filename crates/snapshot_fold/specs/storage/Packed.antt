-- How a piece of few members is packed: in slots of two numbers each.
use Rattle.std.specs.Prelude.{◌≡◌, ℕ, ◌≤◌, List, length, map, take}
use Rattle.graph_types.specs.declared.ids.Mode.{Mode}
use Rattle.graph_types.specs.meaning.Piece.{PieceValue, IsPiece}
use Rattle.graph_types.specs.storage.Slots.{piece_in, slot_of}

-- the most members that are packed
abbrev pub most_packed : ℕ
most_packed = 4

abbrev pub HasFew : PieceValue → Type 0
HasFew p = length p.members ≤ most_packed

-- the first slots hold a piece of few members
pub record HoldsFew (mode : Mode) (len : ℕ) (slots : List (ℕ × ℕ)) : Type 0 where
  pub sound : IsPiece (piece_in mode len slots)
  pub few : HasFew (piece_in mode len slots)
  pub len_is : length (piece_in mode len slots).members ≡ len
  pub live : take len slots ≡ map slot_of (piece_in mode len slots).members
