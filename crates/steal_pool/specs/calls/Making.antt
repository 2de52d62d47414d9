-- What a pool is when it is made.
use Rattle.std.specs.Prelude.{◌≡◌, ℕ, false, List, [], replicate}
use Rattle.steal_pool.specs.meaning.Pool.{PoolId, FeedValue, ThiefValue}

-- the feed of a pool with so many thieves and so much room, when nothing was fed
abbrev pub new_feed : PoolId → ℕ → ℕ → FeedValue
new_feed pool thieves room = record { pool = pool; thieves = thieves; room = room; fed = []; is_shut = false }

-- a thief of the pool that has done nothing yet
abbrev pub new_thief : PoolId → ThiefValue
new_thief pool = record { pool = pool; taken = []; from_deque = []; from_queue = []; put_back = []; knows_shut = false; empty_deques = 0; empty_queues = 0 }

-- A feed with so many thieves and so much room, and that many thieves.
pub record IsNewPool (thieves room : ℕ) (feed : FeedValue) (list : List ThiefValue) : Type 0 where
  pub feed_is : feed ≡ new_feed feed.pool thieves room
  pub thieves_are : list ≡ replicate thieves (new_thief feed.pool)
