-- What a reader of lines knows of the bytes before it, and what it does by its result.
use Rattle.std.specs.Prelude.{◌≡◌, ◌≢◌, ℕ, ◌+◌, ◌<◌, ◌≤◌, Bool, true, false, IsTrue, List, [], ◌∷◌, ◌++◌, length, take, drop, Option, Result, Ok, Err}
use Rattle.std.specs.Io.KnownBytes.{IsAtEnd}
use Rattle.job_io.specs.declared.line_reader.Ahead.{Ahead}
use Rattle.job_io.specs.declared.line_reader.Ahead.TheVariants.{Whole, Last, End, TooLong}
use Rattle.job_io.specs.declared.line_reader.LineFault.{LineFault}
use Rattle.job_io.specs.declared.line_reader.LineFault.TheVariants as fault
use Rattle.job_io.specs.calls.Ends.{BothKnown}
use Rattle.job_io.specs.meaning.Lines.{lf, most_line_bytes, HasNoLf, Reading, GivesLine, GivesEnd, StopsInLine, LongLineFollows}

-- bytes went from the source to those held, and none is lost
abbrev pub MovesBytes : List ℕ → List ℕ → Option (List ℕ) → Option (List ℕ) → Type 0
MovesBytes held now was is = BothKnown was is (λ was is. held ++ was ≡ now ++ is)

-- no LF so far, and no more bytes than a line may have
pub record IsShort (held : List ℕ) : Type 0 where
  pub no_lf : HasNoLf held
  pub short : length held ≤ most_line_bytes

-- the first LF stands at place n
pub record HasLineOf (held : List ℕ) (n : ℕ) : Type 0 where
  pub no_lf : HasNoLf (take n held)
  pub split : held ≡ take n held ++ lf ∷ drop (n + 1) held
  pub within : n < length held

-- what stands ahead, where `later` is what the source has left
abbrev pub IsAhead : List ℕ → Option (List ℕ) → Ahead → Type 0
IsAhead held later (Whole n) = HasLineOf held n × (n ≤ most_line_bytes)
IsAhead held later (Last n) = IsShort held × (n ≡ length held) × (0 < n) × IsAtEnd later
IsAhead held later End = (held ≡ []) × IsAtEnd later
IsAhead held later TooLong = HasNoLf (take (most_line_bytes + 1) held) × (most_line_bytes < length held)

-- the bytes held show what stands ahead, whatever is to come
abbrev pub ShowsAhead : List ℕ → Ahead → Type 0
ShowsAhead held ahead = (later : Option (List ℕ)) → IsAhead held later ahead

-- whether a byte is held, or none is left
abbrev pub TellsAny : List ℕ → Option (List ℕ) → Bool → Type 0
TellsAny held later true = held ≢ []
TellsAny held later false = (held ≡ []) × IsAtEnd later

-- What a call for the next line does. `was` and `is` are what the source has left before and after.
abbrev pub ReadsNext : Reading → Reading → Option (List ℕ) → Option (List ℕ) → Result Bool LineFault → Type 0
ReadsNext old new was is (Ok true) = BothKnown was is (GivesLine old new)
ReadsNext old new was is (Ok false) = BothKnown was is (GivesEnd old new)
ReadsNext old new was is (Err fault.ReadFault) =
    BothKnown was is (StopsInLine old new) × IsTrue old.line.whole × IsShort new.held × (old.number ≡ old.most → new.held ≡ [])
ReadsNext old new was is (Err (fault.TooLong n)) = (n ≡ old.number + 1) × (n ≤ old.most) × BothKnown was is (λ was _. LongLineFollows (old.held ++ was))
ReadsNext old new was is (Err (fault.TooMany n)) = (n ≡ old.most + 1) × (old.number ≡ old.most) × BothKnown was is (λ was _. old.held ++ was ≢ [])
