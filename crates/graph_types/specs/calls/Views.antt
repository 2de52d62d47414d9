-- What each call on a view counts.
use Rattle.std.specs.Prelude.{◌≡◌, ℕ, ◌≤◌, Result, OnOk, IfErr}
use Rattle.graph_types.specs.calls.Counts.{HasRisen, next_count}
use Rattle.graph_types.specs.declared.view.FetchStop.{FetchStop}
use Rattle.graph_types.specs.declared.view.FetchStop.TheVariants.{Held, NoMemory}

-- A call that reads counts once, and where it is refused once at most.
pub record CountsRead {T E : Type 0} (before now : ℕ) (result : Result T E) : Type 0 where
  pub kept : before ≤ now
  pub most : now ≤ next_count before
  pub read : OnOk result (now ≡ next_count before)

abbrev pub IsHeld : FetchStop → Type 0
IsHeld (Held word) = Unit {0}
IsHeld NoMemory = ⊥

-- The count of what was found held never falls, and Held comes only where it has risen.
pub record CountsHeld {T : Type 0} (before now : ℕ) (result : Result T FetchStop) : Type 0 where
  pub kept : before ≤ now
  pub cause : IfErr result (λ stop. IsHeld stop → HasRisen before now)
