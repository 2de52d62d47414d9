-- What comes of the tasks of a pool, by their numbers.
use Rattle.std.specs.Prelude.{◌≡◌, ℕ, ◌+◌, ◌==◌, List, count_by, sum_by}

-- how often the number stands in the list
abbrev pub times : ℕ → List ℕ → ℕ
times n numbers = count_by (λ m. m == n) numbers

-- each number that was fed stands in the lists of what was taken, or in what is left, as often as it was fed
abbrev pub IsSharedOut : List ℕ → List (List ℕ) → List ℕ → Type 0
IsSharedOut fed taken left = (n : ℕ) → times n fed ≡ sum_by (times n) taken + times n left
