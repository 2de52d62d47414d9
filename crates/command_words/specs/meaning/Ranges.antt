-- The ranges of options, as callers need them.
use Rattle.std.specs.Prelude.{◌≤◌, ℕ, All, IfSome, List, length}
use Rattle.command_words.specs.declared.command.Options.{Options}

abbrev pub IsWithin : ℕ → ℕ → ℕ → Type 0
IsWithin least most n = (least ≤ n) × (n ≤ most)

-- so many digits at most, each one of `0` to `9`
pub record AreDigits (most : ℕ) (digits : List ℕ) : Type 0 where
  pub few : length digits ≤ most
  pub each : All (λ byte. IsWithin 48 57 byte) digits

-- each option is in its range, whether it is named or has its default
pub record AreWithin (options : Options) : Type 0 where
  pub workers : IsWithin 1 16 options.workers
  pub shards : IsWithin 1 64 options.shards
  pub window : IsWithin 1 4096 options.window
  pub max_records : IsWithin 1 10000000 options.max_records
  pub max_lines : IsWithin 1 4000000000 options.max_lines
  pub records : IsWithin 1 2 options.records
  pub at : IfSome options.at (λ t. IsWithin 0 4000000000 t)
  pub seed : IsWithin 0 2147483647 options.seed
  pub vertices : IsWithin 2 10000 options.vertices
  pub updates : IsWithin 0 1000000 options.updates
  pub schedule : AreDigits 4096 options.schedule
