-- Pieces as text, a line each.
use Rattle.std.specs.Prelude.{ℕ, List, [], ◌∷◌, ◌++◌, codes}
use Rattle.std.specs.List.{flat_map}
use Rattle.graph_types.specs.declared.member.Member.{Member}
use Rattle.record_text.specs.meaning.Text.{member_text, after_space}

-- the members, parted by single spaces
abbrev pub members_text : List Member → List ℕ
members_text [] = []
members_text (m ∷ members) = member_text m ++ flat_map (λ m. after_space (member_text m)) members

-- the members of a piece on a line of their own
abbrev pub piece_line : List Member → List ℕ
piece_line members = members_text members ++ codes "\n"

-- a line for each piece
abbrev pub listing_text : List (List Member) → List ℕ
listing_text pieces = flat_map piece_line pieces
