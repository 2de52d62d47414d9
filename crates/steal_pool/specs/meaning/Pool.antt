-- What contracts see of the two sides of a pool. Tasks stand there by their numbers.
use Rattle.std.specs.Prelude.{◌≡◌, ℕ, Bool, List, map, replicate}

-- Which pool it is: no other has this deque or this queue.
pub record PoolId : Type 0 where
  pub deque : ℕ × ℕ
  pub queue : ℕ × ℕ

-- The feed: how many thieves the pool has, how many tasks it has room for, which were fed, in order, and whether it is shut.
pub record FeedValue : Type 0 where
  pub pool : PoolId
  pub thieves : ℕ
  pub room : ℕ
  pub fed : List ℕ
  pub is_shut : Bool

-- A thief. `taken` is its list: the tasks that it took and did not put back, in the order in which it took them. Its passes
-- show what it took from the deque and from the queue, what it put into the queue, and whether it read that the feed is
-- shut. The last two count its looks that found the deque, or the queue, empty.
pub record ThiefValue : Type 0 where
  pub pool : PoolId
  pub taken : List ℕ
  pub from_deque : List ℕ
  pub from_queue : List ℕ
  pub put_back : List ℕ
  pub knows_shut : Bool
  pub empty_deques : ℕ
  pub empty_queues : ℕ

-- these are thieves of the feed's pool, as many as it has
abbrev pub AreAllThieves : FeedValue → List ThiefValue → Type 0
AreAllThieves feed thieves = map (λ t. t.pool) thieves ≡ replicate feed.thieves feed.pool
