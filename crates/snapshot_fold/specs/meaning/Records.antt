-- What the laws of the records speak of.
use Rattle.std.specs.Prelude.{◌≡◌, ℕ, zero, suc, ◌^◌, ◌<◌, ◌≤◌, IsTrue, All, List, [], ◌∷◌, ◌++◌, map, Option}
use Rattle.graph_types.specs.declared.ids.Mode.{Mode}
use Rattle.graph_types.specs.declared.member.Member.{Member}
use Rattle.graph_types.specs.meaning.Graph.{Graph, has_vertex}
use Rattle.graph_types.specs.meaning.Piece.{PieceValue, most_members}
use Rattle.graph_types.specs.meaning.Simple.{IsSimple}
use Rattle.mining_model.specs.meaning.Changes.{removed_pieces, added_pieces}
use Rattle.mining_model.specs.meaning.Embeddings.{Pattern, embeddings}
use Rattle.mining_model.specs.meaning.History.{graph_at}
use Rattle.record_text.specs.declared.read.RecordLine.{RecordLine}
use Rattle.record_text.specs.declared.read.RecordLine.TheVariants.{Head, Rem, Add, Done}
use Rattle.record_text.specs.declared.record_format.RecordFormat.{RecordFormat}
use Rattle.record_text.specs.declared.record_format.RecordFormat.TheVariants.{One, Two}
use Rattle.record_text.specs.meaning.Text.{count_after, count_at}
use Rattle.record_text.specs.meaning.Writable.{IsCount, IsStamp}

-- the pieces of one mode with these members
abbrev pub pieces_of : Mode → List (List Member) → List PieceValue
pieces_of mode lists = map (λ members. record { mode = mode; members = members }) lists

-- The records of timestamp t, at which one graph follows another: what goes, then what comes, and then that t is
-- done. `count` is the one before it: none in format 1.
abbrev pub step_records : Option ℕ → Pattern → Graph → Graph → ℕ → List RecordLine
step_records count pattern before now t =
    map (λ p. Rem t p) (pieces_of pattern.mode (removed_pieces pattern before now))
    ++ (map (λ p. Add t p) (pieces_of pattern.mode (added_pieces pattern before now))
    ++ (Done t (count_after pattern before now count) ∷ []))

-- the records of timestamps 1 to m of a history
abbrev pub records_upto : RecordFormat → Pattern → Graph → List Graph → ℕ → List RecordLine
records_upto format pattern g later zero = []
records_upto format pattern g later (suc m) =
    records_upto format pattern g later m
    ++ step_records (count_at format pattern g later m) pattern (graph_at g later m) (graph_at g later (suc m)) (suc m)

-- what is said before the first timestamp
abbrev pub opening_records : RecordFormat → List RecordLine
opening_records One = []
opening_records Two = Head ∷ []

-- all that the text of a history up to timestamp m says
abbrev pub history_records : RecordFormat → Pattern → Graph → List Graph → ℕ → List RecordLine
history_records format pattern g later m = opening_records format ++ records_upto format pattern g later m

-- a graph whose pieces a record can carry
pub record IsRecordable (g : Graph) : Type 0 where
  -- It is simple,
  pub simple : IsSimple g
  -- and the ids of its vertices fit 32 bits.
  pub short_ids : (v : ℕ) → IsTrue (has_vertex g v) → v < 2 ^ 32

-- a history whose records up to timestamp m can be written, and tell all of its embeddings
pub record IsTellable (format : RecordFormat) (pattern : Pattern) (first : Graph) (later : List Graph) (m : ℕ) : Type 0 where
  -- No piece has more members than a record can carry.
  pub small : pattern.size ≤ most_members
  -- Before the first timestamp there is nothing to tell.
  pub nothing_first : embeddings pattern first ≡ []
  -- The pieces of each later graph can be carried.
  pub recordable : All IsRecordable later
  -- The last timestamp fits 64 bits, and so do the counts.
  pub fits : IsStamp m
  pub few : (t : ℕ) → t ≤ m → IsCount (count_at format pattern first later t)
