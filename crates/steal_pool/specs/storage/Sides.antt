-- How the feed and a thief keep what contracts see of them.
use Rattle.std.specs.Prelude.{◌≡◌, ℕ, ◌+◌, ◌<◌, ◌≤◌, Bool, true, false, List, [], length, sum_by}
use Rattle.steal_pool.specs.declared.balance.Account.{Account}
use Rattle.steal_pool.specs.declared.shut_word.Notice.{Notice}
use Rattle.steal_pool.specs.storage.Balance.{account, all_parts}

-- The feed's accounts, its notice, how many notes it has left, and the deque's flavor, next index and capacity.
pub record IsFeed (deque queue : Account) (notice : Notice) (notes flavor index capacity : ℕ) : Type 0 where
  pub fifo : flavor ≡ 0
  pub numbered : index ≡ length deque.put
  pub fits : length deque.put + notes ≤ capacity
  pub some_part : 0 < deque.parts
  pub not_more : deque.parts ≤ all_parts
  pub only_puts : deque ≡ account deque.parts deque.put []
  pub only_parts : queue ≡ account deque.parts [] []
  pub may_shut : notice.sets ≡ true

-- A thief's accounts, its notice, its list and what it knows: it has one part, only takes from the deque, and what it took from
-- both and did not put back is its list.
pub record IsThief (deque queue : Account) (notice : Notice) (taken : List ℕ) (knows_shut : Bool) : Type 0 where
  pub deque_part : deque.parts ≡ 1
  pub queue_part : queue.parts ≡ 1
  pub only_takes : deque.put ≡ []
  pub only_reads : notice.sets ≡ false
  pub told : notice.knows ≡ knows_shut
  pub adds_up : (weight : ℕ → ℕ) → sum_by weight taken + sum_by weight queue.put ≡ sum_by weight deque.taken + sum_by weight queue.taken
