-- What a text of records can say: numbers that fit, and pieces that have a member.
use Rattle.std.specs.Prelude.{◌≢◌, ℕ, ◌^◌, ◌<◌, [], Option, None, Some}
use Rattle.std.specs.List.{All}
use Rattle.graph_types.specs.declared.member.Member.{Member}
use Rattle.graph_types.specs.declared.member.Member.TheVariants as member
use Rattle.graph_types.specs.meaning.Piece.{PieceValue, IsPiece}

abbrev pub IsStamp : ℕ → Type 0
IsStamp t = t < 2 ^ 64

-- a count, where there is one, fits 64 bits
abbrev pub IsCount : Option ℕ → Type 0
IsCount None = Unit {0}
IsCount (Some n) = n < 2 ^ 64

-- the ids of the member fit 32 bits
abbrev pub HasShortIds : Member → Type 0
HasShortIds (member.Vertex v) = v < 2 ^ 32
HasShortIds (member.Edge e) = (e.0 < 2 ^ 32) × (e.1 < 2 ^ 32)

-- a piece that a record can carry
pub record IsWritable (piece : PieceValue) : Type 0 where
  pub sound : IsPiece piece
  pub some : piece.members ≢ []
  pub short_ids : All HasShortIds piece.members
