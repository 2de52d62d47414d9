-- How the members of a piece are stored: in eight slots of two numbers each.
use Rattle.std.specs.Prelude.{◌≡◌, ℕ, suc, ◌-◌, List, [], ◌∷◌, ◌++◌, length, map, take, replicate, Option, None, Some}
use Rattle.std.specs.Ordering.{match_ordering}
use Rattle.graph_types.specs.declared.ids.Mode.{Mode}
use Rattle.graph_types.specs.declared.ids.Mode.TheVariants as modes
use Rattle.graph_types.specs.declared.member.Member.{Member}
use Rattle.graph_types.specs.declared.member.Member.TheVariants as member
use Rattle.graph_types.specs.meaning.Graph.{pair_cmp}
use Rattle.graph_types.specs.meaning.Piece.{PieceValue, IsPiece, most_members}

-- a vertex stands with 0 beside it, and an edge by its ends
abbrev pub slot_of : Member → ℕ × ℕ
slot_of (member.Vertex v) = (v, 0)
slot_of (member.Edge e) = e

-- the member that such a pair stands for
abbrev pub member_in : Mode → ℕ × ℕ → Member
member_in modes.Vertex slot = member.Vertex slot.0
member_in modes.Edge slot = member.Edge slot

-- the slots of the members, and (0, 0) in each slot past them
abbrev pub slots_of : List Member → List (ℕ × ℕ)
slots_of members = map slot_of members ++ replicate (most_members - length members) (0, 0)

-- the piece whose members are in the first slots
abbrev pub piece_in : Mode → ℕ → List (ℕ × ℕ) → PieceValue
piece_in mode len slots = record { mode = mode; members = map (member_in mode) (take len slots) }

-- the slots hold a piece, and nothing beside it
pub record IsPacked (mode : Mode) (len : ℕ) (slots : List (ℕ × ℕ)) : Type 0 where
  pub sound : IsPiece (piece_in mode len slots)
  pub len_is : length (piece_in mode len slots).members ≡ len
  pub slots_are : slots_of (piece_in mode len slots).members ≡ slots

-- the place of the first slot that is above the one given, unless that is among the slots before
abbrev pub place_from : ℕ → List (ℕ × ℕ) → ℕ × ℕ → Option ℕ
place_from n [] slot = Some n
place_from n (other ∷ slots) slot = match_ordering (pair_cmp slot other) (Some n) None (place_from (suc n) slots slot)
