-- What a thief's look at the deque, or at the queue, does to it.
use Rattle.std.specs.Prelude.{◌≡◌, ℕ, ◌≤◌, [], ◌∷◌, ◌++◌}
use Rattle.graph_types.specs.calls.Counts.{HasRisen}
use Rattle.steal_pool.specs.meaning.Pool.{ThiefValue}
use Rattle.steal_pool.specs.declared.thief.Look.{Look}
use Rattle.steal_pool.specs.declared.thief.Look.TheVariants.{Task, Empty, Retry}

-- no count of empty looks falls
pub record KeepsCounts (old new : ThiefValue) : Type 0 where
  pub deques : old.empty_deques ≤ new.empty_deques
  pub queues : old.empty_queues ≤ new.empty_queues

-- the thief with the counts of empty looks of another
abbrev pub with_counts : ThiefValue → ThiefValue → ThiefValue
with_counts counted thief = record thief { empty_deques = counted.empty_deques; empty_queues = counted.empty_queues }

-- the thief once it took this number from the deque, or from the queue: the number is the last of its list
abbrev pub with_fed : ℕ → ThiefValue → ThiefValue
with_fed n thief = record thief { taken = thief.taken ++ n ∷ []; from_deque = thief.from_deque ++ n ∷ [] }

abbrev pub with_returned : ℕ → ThiefValue → ThiefValue
with_returned n thief = record thief { taken = thief.taken ++ n ∷ []; from_queue = thief.from_queue ++ n ∷ [] }

-- a look at the deque takes its first task, or finds it empty, or tells nothing
abbrev pub LooksAtDeque : {T : Type 0} → (T → ℕ) → ThiefValue → Look T → ThiefValue → Type 0
LooksAtDeque number old (Task t) new = new ≡ with_fed (number t) old
LooksAtDeque number old Empty new = (new ≡ record old { empty_deques = new.empty_deques }) × HasRisen old.empty_deques new.empty_deques
LooksAtDeque number old Retry new = new ≡ old

-- the same of the queue
abbrev pub LooksAtQueue : {T : Type 0} → (T → ℕ) → ThiefValue → Look T → ThiefValue → Type 0
LooksAtQueue number old (Task t) new = new ≡ with_returned (number t) old
LooksAtQueue number old Empty new = (new ≡ record old { empty_queues = new.empty_queues }) × HasRisen old.empty_queues new.empty_queues
LooksAtQueue number old Retry new = new ≡ old
