-- Which calls were made on a sink.
use Rattle.std.specs.Prelude.{◌⊎◌, ℕ, ◌<◌, List, [], length, drop, Result, Ok, Err, MatchResult}
use Rattle.job_io.specs.declared.ends.Failed.{Failed}

-- Some of a text was written, each time all that was left of it was handed over, and none of these writes
-- took nothing. `gives` is what a write may answer, and the sink then.
pub data Writes {O : Type 0} (gives : O → List ℕ → Result ℕ Failed → O → Type 0) (old : O) (text : List ℕ) : O → List ℕ → Type 0 where
  none : Writes gives old text old text
  more : (mid new : O) (rest : List ℕ) (n : ℕ) → Writes gives old text mid rest → 0 < length rest → gives mid rest (Ok n) new → 0 < n → Writes gives old text new (drop n rest)

-- a write of all that was left failed, or took nothing
pub record Stops {O : Type 0} (gives : O → List ℕ → Result ℕ Failed → O → Type 0) (old : O) (text : List ℕ) (new : O) : Type 0 where
  pub mid : O
  pub rest : List ℕ
  pub before : Writes gives old text mid rest
  pub some : 0 < length rest
  pub last : gives mid rest (Err (record {})) new ⊎ gives mid rest (Ok 0) new

-- All of a text was written by such writes, or after an error the last of them failed or took nothing.
abbrev pub WritesAll : {O T E : Type 0} → (O → List ℕ → Result ℕ Failed → O → Type 0) → O → List ℕ → O → Result T E → Type 0
WritesAll gives old text new result = MatchResult result (λ _. Writes gives old text new []) (λ _. Stops gives old text new)

-- One text was written so, and then another one.
abbrev pub WritesBoth : {O T E : Type 0} → (O → List ℕ → Result ℕ Failed → O → Type 0) → O → List ℕ → List ℕ → O → Result T E → Type 0
WritesBoth {O} gives old first second new result = MatchResult result
    (λ _. (mid : O) × Writes gives old first mid [] × Writes gives mid second new [])
    (λ _. Stops gives old first new ⊎ ((mid : O) × Writes gives old first mid [] × Stops gives mid second new))
