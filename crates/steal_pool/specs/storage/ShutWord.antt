-- The rule of the word that says that the feed is shut: 0, or 1 once it is. One pass may set it, the feed's.
use Rattle.std.specs.Prelude.{◌≡◌, ℕ, Bool, true, ◌==◌, List, slice_index}
use mathlib.Core.Option.{some}
use lib.ListN.{get_elem?}
use Rattle.steal_pool.specs.declared.shut_word.Notice.{Notice}

abbrev pub notice : Bool → Bool → Notice
notice sets knows = record { sets = sets; knows = knows }

-- the pass at this seat: if it may set the word, it has the setter's seat and knows what the word says; and who knows that the
-- feed is shut is right
abbrev pub Fits : ℕ → ℕ → ℕ → Notice → Type 0
Fits word setter seat n = (n.sets ≡ true → (seat ≡ setter) × (n.knows ≡ (word == 1))) × (n.knows ≡ true → word ≡ 1)

-- at most one pass may set the word, and each knows no more than is true
abbrev pub IsToldRight : List ℕ → List Notice → Type 0
IsToldRight words notices = (setter : ℕ) × ((seat : ℕ) (n : Notice) → get_elem? notices seat ≡ some n → Fits (slice_index words 0) setter seat n)
