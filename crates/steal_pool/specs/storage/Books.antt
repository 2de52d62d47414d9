-- What is known of a pool while its passes come back.
use Rattle.std.specs.Prelude.{◌≡◌, ℕ, ◌<◌, List}
use Rattle.steal_pool.specs.meaning.Pool.{PoolId}
use Rattle.steal_pool.specs.declared.balance.Account.{Account}

-- How many parts are back, what was fed, what was taken from the deque and from the queue, and what was put into the queue.
pub record BooksValue : Type 0 where
  pub pool : PoolId
  pub parts : ℕ
  pub fed : List ℕ
  pub from_deque : List ℕ
  pub from_queue : List ℕ
  pub put_back : List ℕ

-- The accounts of the deque and of the queue, and the deque's flavor: as many parts are back of both.
pub record IsBooks (deque queue : Account) (flavor : ℕ) : Type 0 where
  pub fifo : flavor ≡ 0
  pub some_part : 0 < deque.parts
  pub same_parts : queue.parts ≡ deque.parts
