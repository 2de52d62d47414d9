-- What a steal does, by its answer.
use Rattle.std.specs.Prelude.{◌≡◌, ℕ, true, false, ◌⊎◌, List, [], ◌∷◌, ◌++◌, Option, None, Some}
use Rattle.graph_types.specs.calls.Counts.{HasRisen}
use Rattle.steal_pool.specs.meaning.Pool.{ThiefValue}
use Rattle.steal_pool.specs.calls.Looks.{with_counts, with_fed, with_returned}
use Rattle.steal_pool.specs.declared.thief.Look.{Look}
use Rattle.steal_pool.specs.declared.thief.Look.TheVariants as look
use Rattle.steal_pool.specs.declared.taken.Taken.{Taken}
use Rattle.steal_pool.specs.declared.taken.Taken.TheVariants.{Task, Shut, Ended}

-- a look of this call found the deque empty, and one the queue
pub record FindsBothEmpty (old new : ThiefValue) : Type 0 where
  pub deque : HasRisen old.empty_deques new.empty_deques
  pub queue : HasRisen old.empty_queues new.empty_queues

-- The task with this number is the first of the deque; or the first of the queue, where a look of this call found the deque
-- empty. Nothing else changes but the counts of empty looks.
abbrev pub TakesTask : ℕ → ThiefValue → ThiefValue → Type 0
TakesTask n old new = (new ≡ with_counts new (with_fed n old)) ⊎ ((new ≡ with_counts new (with_returned n old)) × HasRisen old.empty_deques new.empty_deques)

-- nothing was taken, and nothing changes but the counts of empty looks
abbrev pub OnlyLooks : ThiefValue → ThiefValue → Type 0
OnlyLooks old new = new ≡ with_counts new old

-- the thief first reads that the feed is shut, and nothing else changes but the counts of empty looks
abbrev pub LearnsOfShut : ThiefValue → ThiefValue → Type 0
LearnsOfShut old new = (old.knows_shut ≡ false) × (new ≡ with_counts new (record old { knows_shut = true }))

-- what both looks did
abbrev pub LooksAtBoth : {T : Type 0} → (T → ℕ) → ThiefValue → Look T → ThiefValue → Type 0
LooksAtBoth number old (look.Task t) new = TakesTask (number t) old new
LooksAtBoth number old look.Empty new = OnlyLooks old new × FindsBothEmpty old new
LooksAtBoth number old look.Retry new = OnlyLooks old new

abbrev pub Steals : {T : Type 0} → (T → ℕ) → ThiefValue → Taken T → ThiefValue → Type 0
Steals number old (Task t) new = TakesTask (number t) old new
Steals number old Shut new = LearnsOfShut old new × FindsBothEmpty old new
Steals number old Ended new = OnlyLooks old new × (old.knows_shut ≡ true) × FindsBothEmpty old new

-- what one round of a steal does, which has no answer yet where a task may still come
abbrev pub StealsOnce : {T : Type 0} → (T → ℕ) → ThiefValue → Option (Taken T) → ThiefValue → Type 0
StealsOnce number old None new = OnlyLooks old new
StealsOnce number old (Some taken) new = Steals number old taken new

-- the number is the last of the list
abbrev pub EndsIn : List ℕ → ℕ → Type 0
EndsIn numbers n = (rest : List ℕ) × (numbers ≡ rest ++ n ∷ [])

-- the last number is off the thief's list, and stands at the end of what it put back; nothing else changes
abbrev pub PutsBack : ℕ → ThiefValue → ThiefValue → Type 0
PutsBack n old new = (old.taken ≡ new.taken ++ n ∷ []) × (new ≡ record old { taken = new.taken; put_back = old.put_back ++ n ∷ [] })
