-- The records of a timestamp, as text, in both formats.
use Rattle.std.specs.Prelude.{ℕ, zero, suc, ◌+◌, ◌-◌, List, [], ◌∷◌, ◌++◌, length, codes, decimal, Option, None, Some}
use Rattle.std.specs.List.{flat_map}
use Rattle.std.specs.Option.{option_map}
use Rattle.graph_types.specs.meaning.Graph.{Graph}
use Rattle.graph_types.specs.declared.member.Member.{Member}
use Rattle.graph_types.specs.declared.member.Member.TheVariants as member
use Rattle.mining_model.specs.meaning.History.{graph_at}
use Rattle.mining_model.specs.meaning.Embeddings.{Pattern}
use Rattle.mining_model.specs.meaning.Changes.{removed_pieces, added_pieces}
use Rattle.record_text.specs.declared.record_format.RecordFormat.{RecordFormat}
use Rattle.record_text.specs.declared.record_format.RecordFormat.TheVariants.{One, Two}

-- a vertex is its number; an edge is the numbers of its ends round a dash
abbrev pub member_text : Member → List ℕ
member_text (member.Vertex v) = decimal v
member_text (member.Edge e) = decimal e.0 ++ codes "-" ++ decimal e.1

-- a space, and then these bytes
abbrev pub after_space : List ℕ → List ℕ
after_space bytes = codes " " ++ bytes

-- a word, a timestamp and the members, parted by single spaces
abbrev pub record_line : List ℕ → ℕ → List Member → List ℕ
record_line word t members = word ++ after_space (decimal t) ++ flat_map (λ m. after_space (member_text m)) members ++ codes "\n"

-- a line for each piece
abbrev pub records_text : List ℕ → ℕ → List (List Member) → List ℕ
records_text word t pieces = flat_map (record_line word t) pieces

-- a REM line for each piece that goes, and then a NEW line for each that comes
abbrev pub delta_text : ℕ → List (List Member) → List (List Member) → List ℕ
delta_text t rem add = records_text (codes "REM") t rem ++ records_text (codes "NEW") t add

-- the count after a timestamp, where there is one
abbrev pub count_text : Option ℕ → List ℕ
count_text None = []
count_text (Some n) = after_space (decimal n)

-- the line that closes timestamp t
abbrev pub done_text : ℕ → Option ℕ → List ℕ
done_text t count = codes "DONE " ++ decimal t ++ count_text count ++ codes "\n"

-- the first line of a text in format 2
abbrev pub head_text : List ℕ
head_text = codes "records 2\n"

-- what stands before the first timestamp
abbrev pub opening_text : RecordFormat → List ℕ
opening_text One = []
opening_text Two = head_text

-- what a format says of a number of pieces: format 1 says nothing, and format 2 the number
abbrev pub count_in : RecordFormat → ℕ → Option ℕ
count_in One n = None
count_in Two n = Some n

-- from n, the pieces that come at a timestamp more, and those that go less
abbrev pub total_after : Pattern → Graph → Graph → ℕ → ℕ
total_after pattern before now n = (n + length (added_pieces pattern before now)) - length (removed_pieces pattern before now)

-- the same of a count, where the format has one
abbrev pub count_after : Pattern → Graph → Graph → Option ℕ → Option ℕ
count_after pattern before now count = option_map (total_after pattern before now) count

-- The text of timestamp t, at which one graph follows another. `count` is the one before it: none in format 1.
abbrev pub step_text : Option ℕ → Pattern → Graph → Graph → ℕ → List ℕ
step_text count pattern before now t =
    delta_text t (removed_pieces pattern before now) (added_pieces pattern before now)
    ++ done_text t (count_after pattern before now count)

-- how many records a timestamp has
abbrev pub record_count : Pattern → Graph → Graph → ℕ
record_count pattern before now = length (removed_pieces pattern before now) + length (added_pieces pattern before now)

-- the number of NEW records less the number of REM records of timestamps 1 to t, where these graphs follow g
abbrev pub total_at : Pattern → Graph → List Graph → ℕ → ℕ
total_at pattern g later zero = 0
total_at pattern g later (suc t) =
    total_after pattern (graph_at g later t) (graph_at g later (suc t)) (total_at pattern g later t)

-- the count after timestamp t, as a format has it
abbrev pub count_at : RecordFormat → Pattern → Graph → List Graph → ℕ → Option ℕ
count_at format pattern g later t = count_in format (total_at pattern g later t)

-- the text of timestamp t, where these graphs follow g; nothing is written at timestamp 0
abbrev pub text_at : RecordFormat → Pattern → Graph → List Graph → ℕ → List ℕ
text_at format pattern g later zero = []
text_at format pattern g later (suc t) =
    step_text (count_at format pattern g later t) pattern (graph_at g later t) (graph_at g later (suc t)) (suc t)

-- the text of timestamps 1 to m
abbrev pub text_upto : RecordFormat → Pattern → Graph → List Graph → ℕ → List ℕ
text_upto format pattern g later zero = []
text_upto format pattern g later (suc m) = text_upto format pattern g later m ++ text_at format pattern g later (suc m)

-- the whole text of a history up to timestamp m
abbrev pub history_text : RecordFormat → Pattern → Graph → List Graph → ℕ → List ℕ
history_text format pattern g later m = opening_text format ++ text_upto format pattern g later m

-- the text of the timestamps after t, at which these graphs follow g; `count` is the one at t
abbrev pub text_from : Option ℕ → Pattern → Graph → ℕ → List Graph → List ℕ
text_from count pattern g t [] = []
text_from count pattern g t (next ∷ later) =
    step_text count pattern g next (suc t) ++ text_from (count_after pattern g next count) pattern next (suc t) later
