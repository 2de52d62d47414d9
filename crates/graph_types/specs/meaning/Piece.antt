-- What a piece is made of, and in which order.
use Rattle.std.specs.Prelude.{◌≡◌, ℕ, ◌<◌, ◌≤◌, Bool, not, IsTrue, List, [], ◌∷◌, length, map, if◌then◌else◌}
use Rattle.std.specs.List.{All, list_any}
use Rattle.std.specs.List.Sorted.{IsStrictlySortedBy}
use Rattle.std.specs.Cmp.Lexicographic.{slice_cmp}
use Rattle.std.specs.Ordering.{nat_cmp, is_eq, is_lt, ordering_then}
use Rattle.std.specs.declared.cmp.Ordering.{Ordering}
use Rattle.std.specs.declared.cmp.Ordering.TheVariants.{Less, Equal, Greater}
use Rattle.graph_types.specs.declared.ids.Mode.{Mode}
use Rattle.graph_types.specs.declared.ids.Mode.TheVariants as mode
use Rattle.graph_types.specs.declared.member.Member.{Member}
use Rattle.graph_types.specs.declared.member.Member.TheVariants as member
use Rattle.graph_types.specs.meaning.Graph.{pair_cmp}

-- the mode whose pieces have such members
abbrev pub mode_of : Member → Mode
mode_of (member.Vertex v) = mode.Vertex
mode_of (member.Edge e) = mode.Edge

-- vertices are ordered by number, edges by their lower ends and then by their higher ones
abbrev pub member_cmp : Member → Member → Ordering
member_cmp (member.Vertex v) (member.Vertex w) = nat_cmp v w
member_cmp (member.Vertex v) (member.Edge f) = Less
member_cmp (member.Edge e) (member.Vertex w) = Greater
member_cmp (member.Edge e) (member.Edge f) = pair_cmp e f

abbrev pub member_lt : Member → Member → Bool
member_lt x y = is_lt (member_cmp x y)

abbrev pub member_eq : Member → Member → Bool
member_eq x y = is_eq (member_cmp x y)

-- the members with x put before the first that is above it
abbrev pub with_member : List Member → Member → List Member
with_member [] x = x ∷ []
with_member (y ∷ members) x = if member_lt x y then x ∷ y ∷ members else y ∷ with_member members x

-- vertices stand before edges
abbrev pub mode_cmp : Mode → Mode → Ordering
mode_cmp mode.Vertex mode.Vertex = Equal
mode_cmp mode.Vertex mode.Edge = Less
mode_cmp mode.Edge mode.Vertex = Greater
mode_cmp mode.Edge mode.Edge = Equal

-- what contracts see of a piece: its mode, and its members in ascending order
pub record PieceValue : Type 0 where
  pub mode : Mode
  pub members : List Member

-- the piece with one more member
abbrev pub with_joined : PieceValue → Member → PieceValue
with_joined piece m = record { mode = piece.mode; members = with_member piece.members m }

-- the most members of a piece
abbrev pub most_members : ℕ
most_members = 8

-- the member can join the piece: it is of its mode, it isn't in it, and there is room for it
pub record CanJoin (piece : PieceValue) (m : Member) : Type 0 where
  pub same_mode : mode_of m ≡ piece.mode
  pub absent : IsTrue (not (list_any (member_eq m) piece.members))
  pub room : length piece.members < most_members

-- the member is of this mode
abbrev pub IsOfMode : Mode → Member → Type 0
IsOfMode kind m = mode_of m ≡ kind

-- of the two ends of an edge, the lower one stands first
abbrev pub HasLowerFirst : Member → Type 0
HasLowerFirst (member.Vertex v) = Unit {0}
HasLowerFirst (member.Edge e) = e.0 < e.1

-- what is true of each piece
pub record IsPiece (piece : PieceValue) : Type 0 where
  pub room : length piece.members ≤ most_members
  pub ascending : IsStrictlySortedBy member_cmp piece.members
  pub of_mode : All (IsOfMode piece.mode) piece.members
  pub lower_first : All HasLowerFirst piece.members

-- pieces are ordered by mode, and then as lists are: by the first members that differ, and a list stands before those that it begins
abbrev pub piece_cmp : PieceValue → PieceValue → Ordering
piece_cmp p q = ordering_then (mode_cmp p.mode q.mode) (slice_cmp member_cmp p.members q.members)

-- the members of each of some pieces
abbrev pub members_of_all : List PieceValue → List (List Member)
members_of_all pieces = map (λ p. p.members) pieces
