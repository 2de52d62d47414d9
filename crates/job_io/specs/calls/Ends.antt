-- What bytes come from a source and go to a sink, and why a call on one fails.
use Rattle.std.specs.Prelude.{◌≡◌, ℕ, ◌≤◌, List, ◌++◌, take, ⊤, Option, None, Some, Result, OnOk, OnErr}
use Rattle.std.specs.Io.KnownBytes.{Appends}
pub use Rattle.graph_types.specs.calls.Counts.{HasRisen}

-- The count never falls, and an error comes only where it has risen.
pub record HasCause {T E : Type 0} (before now : ℕ) (result : Result T E) : Type 0 where
  pub kept : before ≤ now
  pub cause : OnErr result (HasRisen before now)

-- a claim about two states of optional bytes, where both are known; what was known stays known
abbrev pub BothKnown : Option (List ℕ) → Option (List ℕ) → (List ℕ → List ℕ → Type 0) → Type 0
BothKnown None new P = ⊤
BothKnown (Some old) None P = ⊥
BothKnown (Some old) (Some new) P = P old new

-- Known bytes grow by some prefix of `text`.
pub record AppendsPrefix (old new : Option (List ℕ)) (text : List ℕ) : Type 0 where
  pub len : ℕ
  pub written : Appends old new (take len text)

-- All of `text` was appended, or after an error a prefix of it.
pub record Puts {T E : Type 0} (old new : Option (List ℕ)) (text : List ℕ) (result : Result T E) : Type 0 where
  pub all : OnOk result (Appends old new text)
  pub front : OnErr result (AppendsPrefix old new text)

-- Some bytes were written, and with what is held now they make up what was held and then `text`.
pub record PassesOn (old : Option (List ℕ)) (held : List ℕ) (new : Option (List ℕ)) (holds text : List ℕ) : Type 0 where
  pub sent : List ℕ
  pub written : Appends old new sent
  pub rest : sent ++ holds ≡ held ++ text

-- What was held and then `text` was passed on, and what of it was not written is held now. After an
-- error a prefix of all this was written.
pub record Gathers {T E : Type 0} (old : Option (List ℕ)) (held : List ℕ) (new : Option (List ℕ)) (holds text : List ℕ) (result : Result T E) : Type 0 where
  pub passed : OnOk result (PassesOn old held new holds text)
  pub front : OnErr result (AppendsPrefix old new (held ++ text))
