-- How many lines of a text begin with a byte.
use Rattle.std.specs.Prelude.{ℕ, ◌+◌, Bool, true, ◌&&◌, List, [], ◌∷◌, eqb, if◌then◌else◌}
use Rattle.job_io.specs.meaning.Lines.{is_lf}

-- how many lines that begin with `first` one more byte begins, where `fresh` tells whether it begins a line
abbrev pub begins : ℕ → Bool → ℕ → ℕ
begins first fresh byte = if fresh && eqb byte first then 1 else 0

-- how many lines of a text begin with it, where `fresh` tells whether the text begins one
abbrev pub lines_beginning_from : ℕ → Bool → List ℕ → ℕ
lines_beginning_from first fresh [] = 0
lines_beginning_from first fresh (byte ∷ text) = begins first fresh byte + lines_beginning_from first (is_lf byte) text

-- the same of a whole text
abbrev pub lines_beginning : ℕ → List ℕ → ℕ
lines_beginning first text = lines_beginning_from first true text

-- whether the byte after a text begins a line
abbrev pub fresh_after : Bool → List ℕ → Bool
fresh_after fresh [] = fresh
fresh_after fresh (byte ∷ text) = fresh_after (is_lf byte) text
