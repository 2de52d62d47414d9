-- What a line of a text of records says.
use Rattle.std.specs.Prelude.{ℕ, Bool, ◌&&◌, List, [], ◌∷◌, length, nat_lt, nat_le, codes, Option, None, Some, if◌then◌else◌}
use Rattle.std.specs.List.{slice_split, list_all}
use Rattle.std.specs.Option.{option_map, option_and_then}
use Rattle.std.specs.Ordering.{is_eq}
use Rattle.std.specs.Str.{bytes_eq}
use Rattle.graph_types.specs.declared.member.Member.{Member}
use Rattle.graph_types.specs.declared.member.Member.TheVariants as member
use Rattle.graph_types.specs.meaning.Piece.{PieceValue, member_cmp, mode_cmp, mode_of, most_members}
use Rattle.line_fields.specs.meaning.Fields.{words_of, number_of, id_of, is_nothing_words, is_dash}
use Rattle.record_text.specs.declared.read.RecordLine.{RecordLine}
use Rattle.record_text.specs.declared.read.RecordLine.TheVariants.{Nothing, Head, Rem, Add, Done}
use Rattle.shared_lemmas.specs.meaning.Ascending.{is_ascending}

-- two ends make an edge where the first is below the second
abbrev pub edge_of_ends : ℕ → ℕ → Option Member
edge_of_ends x y = if nat_lt x y then Some (member.Edge (x, y)) else None

-- the edge that two words say, an id each
abbrev pub edge_said : List ℕ → List ℕ → Option Member
edge_said low high = option_and_then (λ x. option_and_then (edge_of_ends x) (id_of high)) (id_of low)

-- a vertex is `ID`, and an edge is `ID-ID`
abbrev pub member_of_parts : List (List ℕ) → Option Member
member_of_parts (id ∷ []) = option_map (λ v. member.Vertex v) (id_of id)
member_of_parts (low ∷ high ∷ []) = edge_said low high
member_of_parts parts = None

-- the member that a word says, by its parts round dashes
abbrev pub member_of : List ℕ → Option Member
member_of word = member_of_parts (slice_split is_dash word)

-- the members that some words say, where each of them says one
abbrev pub members_said : List (List ℕ) → Option (List Member)
members_said [] = Some []
members_said (word ∷ words) = option_and_then (λ m. option_map (λ members. m ∷ members) (members_said words)) (member_of word)

abbrev pub are_alike : Member → Member → Bool
are_alike m n = is_eq (mode_cmp (mode_of m) (mode_of n))

-- 1 to 8 members make a piece where they are all vertices or all edges, and ascend
abbrev pub piece_made : List Member → Option PieceValue
piece_made [] = None
piece_made (m ∷ members) =
    if list_all (are_alike m) members && is_ascending member_cmp (m ∷ members) && nat_le (length (m ∷ members)) most_members
    then Some (record { mode = mode_of m; members = m ∷ members })
    else None

-- the piece that some words say
abbrev pub piece_said : List (List ℕ) → Option PieceValue
piece_said words = option_and_then piece_made (members_said words)

-- a timestamp or a count is 1 to 20 digits
abbrev pub stamp_said : List ℕ → Option ℕ
stamp_said word = number_of 20 word

-- the count that the last words of a line say: there is none, or it is one number
abbrev pub count_said : List (List ℕ) → Option (Option ℕ)
count_said [] = Some None
count_said (word ∷ []) = option_map (λ n. Some n) (stamp_said word)
count_said words = None

-- after the word `records` stands `2` alone
abbrev pub head_said : List ℕ → List (List ℕ) → Option RecordLine
head_said number [] = if bytes_eq number (codes "2") then Some Head else None
head_said number rest = None

-- what a word says with the timestamp and the words after it
abbrev pub stamped_said : List ℕ → ℕ → List (List ℕ) → Option RecordLine
stamped_said word t rest =
    if bytes_eq word (codes "DONE") then option_map (λ count. Done t count) (count_said rest)
    else if bytes_eq word (codes "REM") then option_map (λ piece. Rem t piece) (piece_said rest)
    else if bytes_eq word (codes "NEW") then option_map (λ piece. Add t piece) (piece_said rest)
    else None

-- `records 2`, `REM T MEMBER ..`, `NEW T MEMBER ..`, `DONE T` or `DONE T N`
abbrev pub record_said : List (List ℕ) → Option RecordLine
record_said (word ∷ number ∷ rest) =
    if bytes_eq word (codes "records") then head_said number rest
    else option_and_then (λ t. stamped_said word t rest) (stamp_said number)
record_said words = None

-- what the words of a line say, where they are in one of these forms, or nothing at all
abbrev pub line_said : List (List ℕ) → Option RecordLine
line_said words = if is_nothing_words words then Some Nothing else record_said words

-- what a line says whose CR was dropped
abbrev pub record_of : List ℕ → Option RecordLine
record_of line = line_said (words_of line)
