-- What is done to settle with the thieves of a pool.
use Rattle.std.specs.Prelude.{◌≡◌, ℕ, ◌+◌, List, [], ◌∷◌, ◌++◌, length, sum_by, Option, None, Some}
use Rattle.steal_pool.specs.meaning.Pool.{ThiefValue}
use Rattle.steal_pool.specs.storage.Balance.{all_parts}
use Rattle.steal_pool.specs.storage.Books.{BooksValue}
use Rattle.steal_pool.specs.declared.thief.Look.{Look}
use Rattle.steal_pool.specs.declared.thief.Look.TheVariants.{Task, Empty, Retry}

-- however numbers are weighed, a thief's list and what it put back weigh what it took from the deque and from the queue
abbrev pub AddsUp : ThiefValue → Type 0
AddsUp thief = (weight : ℕ → ℕ) → sum_by weight thief.taken + sum_by weight thief.put_back ≡ sum_by weight thief.from_deque + sum_by weight thief.from_queue

-- the books once a thief's passes are back
abbrev pub with_thief : BooksValue → ThiefValue → BooksValue
with_thief books thief = record books {
  parts = books.parts + 1;
  from_deque = books.from_deque ++ thief.from_deque;
  from_queue = books.from_queue ++ thief.from_queue;
  put_back = books.put_back ++ thief.put_back;
}

-- these numbers weigh the same
abbrev pub WeighsSame : List ℕ → List ℕ → Type 0
WeighsSame put taken = (weight : ℕ → ℕ) → sum_by weight put ≡ sum_by weight taken

-- Thieves came back: their parts with them, and together they took what they have now and what they put back.
pub record TakesBack (thieves : List ThiefValue) (old new : BooksValue) : Type 0 where
  pub same_pool : new.pool ≡ old.pool
  pub same_fed : new.fed ≡ old.fed
  pub parts : new.parts ≡ old.parts + length thieves
  pub adds_up : (weight : ℕ → ℕ) → sum_by (λ thief. sum_by weight thief.taken) thieves + sum_by weight new.put_back + (sum_by weight old.from_deque + sum_by weight old.from_queue)
      ≡ sum_by weight new.from_deque + sum_by weight new.from_queue + sum_by weight old.put_back

module _ {T : Type 0} (number : T → ℕ) where
  -- a task comes out of the deque; or there was none, and then, where all passes are back, all that was fed was taken
  abbrev pub PopsDeque : BooksValue → Option T → BooksValue → Type 0
  PopsDeque old None new = (new ≡ old) × (old.parts ≡ all_parts → WeighsSame old.fed old.from_deque)
  PopsDeque old (Some t) new = new ≡ record old { from_deque = old.from_deque ++ number t ∷ [] }

  -- the same of the queue, and of what was put back
  abbrev pub PopsQueue : BooksValue → Look T → BooksValue → Type 0
  PopsQueue old Empty new = (new ≡ old) × (old.parts ≡ all_parts → WeighsSame old.put_back old.from_queue)
  PopsQueue old (Task t) new = new ≡ record old { from_queue = old.from_queue ++ number t ∷ [] }
  PopsQueue old Retry new = new ≡ old

  -- what was taken is longer by the tasks that joined a list
  abbrev pub MovesTo : List ℕ → List T → List ℕ → List T → Type 0
  MovesTo old left new left' = (weight : ℕ → ℕ) → sum_by weight new + sum_by (λ t. weight (number t)) left ≡ sum_by weight old + sum_by (λ t. weight (number t)) left'

  -- Tasks go from the deque, or from the queue, to what is left.
  pub record MovesFromDeque (old : BooksValue) (left : List T) (new : BooksValue) (left' : List T) : Type 0 where
    pub same : new ≡ record old { from_deque = new.from_deque }
    pub moved : MovesTo old.from_deque left new.from_deque left'

  pub record MovesFromQueue (old : BooksValue) (left : List T) (new : BooksValue) (left' : List T) : Type 0 where
    pub same : new ≡ record old { from_queue = new.from_queue }
    pub moved : MovesTo old.from_queue left new.from_queue left'
