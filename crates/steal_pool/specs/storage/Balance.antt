-- The rule of the deque, and that of the queue. Each pass has an account: what it put there and what it took, by number, and
-- how many parts it has of the right to know the whole.
use Rattle.std.specs.Prelude.{◌≡◌, ℕ, ◌+◌, ◌^◌, List, [], sum_by}
use mathlib.Core.Option.{some}
use lib.ListN.{get_elem?}
use Rattle.steal_pool.specs.declared.balance.Account.{Account}

abbrev pub account : ℕ → List ℕ → List ℕ → Account
account parts put taken = record { parts = parts; put = put; taken = taken }

-- all parts together. The feed keeps those that no thief has
abbrev pub all_parts : ℕ
all_parts = 2 ^ 32

-- what the first pass has: every part, and nothing was put or taken yet
abbrev pub opening_account : Account
opening_account = account all_parts [] []

-- an account without a part has put and taken nothing
abbrev pub IdleIsEmpty : List Account → Type 0
IdleIsEmpty accounts = (seat : ℕ) (a : Account) → get_elem? accounts seat ≡ some a → a.parts ≡ 0 → (a.put ≡ []) × (a.taken ≡ [])

-- What was put is what was taken and what is there, however the numbers are weighed.
pub record IsBalanced {T : Type 0} (number : T → ℕ) (tasks : List T) (accounts : List Account) : Type 0 where
  pub whole : sum_by (λ a. a.parts) accounts ≡ all_parts
  pub adds_up : (weight : ℕ → ℕ) → sum_by (λ a. sum_by weight a.put) accounts ≡ sum_by (λ a. sum_by weight a.taken) accounts + sum_by (λ t. weight (number t)) tasks
  pub idle : IdleIsEmpty accounts
