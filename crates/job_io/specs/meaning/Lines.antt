-- The lines of a text, and how a reader takes them one by one from a source.
use Rattle.std.specs.Prelude.{◌≡◌, ◌≢◌, ℕ, ◌+◌, ◌<◌, ◌≤◌, Bool, true, false, IsTrue, List, [], ◌∷◌, ◌++◌, length, take, drop, filter, eqb, All, if◌then◌else◌}
use Rattle.std.specs.List.{slice_split}

-- the byte that ends a line
abbrev pub lf : ℕ
lf = 10

-- the byte that may stand before it
abbrev pub cr : ℕ
cr = 13

-- the most bytes that a line may have before its LF
abbrev pub most_line_bytes : ℕ
most_line_bytes = 4096

-- no byte of the text ends a line
abbrev pub HasNoLf : List ℕ → Type 0
HasNoLf text = All (λ b. b ≢ lf) text

-- the bytes of a line, and whether an LF ended it
pub record Line : Type 0 where
  pub bytes : List ℕ
  pub whole : Bool

abbrev pub is_lf : ℕ → Bool
is_lf b = eqb b lf

-- Each part but the last is a line that an LF ended. The last one is a line where it has a byte.
abbrev pub lines_of_parts : List (List ℕ) → List Line
lines_of_parts [] = []
lines_of_parts ([] ∷ []) = []
lines_of_parts ((b ∷ bs) ∷ []) = record { bytes = b ∷ bs; whole = false } ∷ []
lines_of_parts (part ∷ next ∷ parts) = record { bytes = part; whole = true } ∷ lines_of_parts (next ∷ parts)

-- the lines of a text: its parts between LFs
abbrev pub lines_of : List ℕ → List Line
lines_of text = lines_of_parts (slice_split is_lf text)

-- those of them that an LF ended
abbrev pub whole_lines_of : List ℕ → List Line
whole_lines_of text = filter (λ line. line.whole) (lines_of text)

-- a line without the one CR that may stand at its end
abbrev pub without_cr : List ℕ → List ℕ
without_cr [] = []
without_cr (b ∷ []) = if eqb b cr then [] else b ∷ []
without_cr (b ∷ c ∷ bs) = b ∷ without_cr (c ∷ bs)

-- What a reader of lines stands at: the line that it gave last (empty and whole before the first), its
-- number, the most lines that it gives, whether it may be asked again, and the bytes that it took from
-- the source and has not given.
pub record Reading : Type 0 where
  pub line : Line
  pub number : ℕ
  pub most : ℕ
  pub live : Bool
  pub held : List ℕ

-- a line that is not too long, without its LF
pub record FitsLine (line : Line) : Type 0 where
  pub short : length line.bytes ≤ most_line_bytes
  pub no_lf : HasNoLf line.bytes

-- a reader once it gave the first `count` bytes that it held as the next line
abbrev pub after_line : Reading → ℕ → Bool → Reading
after_line old count whole = record old {
  line = record { bytes = take count old.held; whole = whole };
  number = old.number + 1;
  live = true;
  held = drop (count + (if whole then 1 else 0)) old.held;
}

-- the bytes that a line takes up in its text
abbrev pub line_text : Line → List ℕ
line_text line = line.bytes ++ (if line.whole then lf ∷ [] else [])

-- The next line was given. `was` and `is` are the bytes that the source has left before and after.
pub record GivesLine (old new : Reading) (was is : List ℕ) : Type 0 where
  -- it is the first of the lines to come, and those after it are to come now
  pub lines : lines_of (old.held ++ was) ≡ new.line ∷ lines_of (new.held ++ is)
  -- no byte is lost
  pub bytes : old.held ++ was ≡ line_text new.line ++ (new.held ++ is)

-- The text ended. Where the line before was whole no byte is left; after a last line without LF the end
-- was seen already, and the source is not asked again.
pub record GivesEnd (old new : Reading) (was is : List ℕ) : Type 0 where
  pub taken : old.held ++ was ≡ new.held ++ is
  pub ended : IsTrue old.line.whole → new.held ++ is ≡ []

-- The source failed before the next line was whole, and before it was known to be too long. The bytes
-- taken since the last line are kept.
pub record StopsInLine (old new : Reading) (was is : List ℕ) : Type 0 where
  -- once a last line without LF was given the source is not asked again
  pub after_whole : IsTrue old.line.whole
  pub taken : old.held ++ was ≡ new.held ++ is
  pub no_line : HasNoLf new.held
  pub short : length new.held ≤ most_line_bytes
  -- after the last line allowed any byte is one too many
  pub within : old.number ≡ old.most → new.held ≡ []

-- a line follows, and it has too many bytes
abbrev pub LongLineFollows : List ℕ → Type 0
LongLineFollows text = (line : Line) × (rest : List Line) × (lines_of text ≡ line ∷ rest) × (most_line_bytes < length line.bytes)
