-- How large a condition is as it is written with no more parentheses than it needs, and how large it may be.
use Rattle.std.specs.Prelude.{ℕ, ◌+◌, ◌-◌, ◌*◌, ◌≤◌, Bool, true, ◌&&◌, ◌||◌, IsTrue, eqb, nat_lt, nat_le, max, if◌then◌else◌, List, [], ◌∷◌, length, sum_by, Some}
use Rattle.std.specs.List.{list_all}
use Rattle.conditions.specs.declared.condition.Cond.{Cond, fold-Cond}
use Rattle.conditions.specs.declared.condition.Cond.TheOpen.{Cond-F, True, False, Compare, Not, And, Or, Shape}
use Rattle.conditions.specs.declared.condition.Factor.{Factor}
use Rattle.conditions.specs.declared.condition.Term.{Term}
use Rattle.conditions.specs.declared.condition.Term.TheVariants.{Vertices, Edges, Joins}
use Rattle.conditions.specs.declared.pattern.Pattern.{Pattern}
use Rattle.conditions.specs.declared.pattern.PatternEdge.{PatternEdge}

-- A term is its name, with parentheses round its labels and a comma between two.
abbrev pub term_tokens : Term → ℕ
term_tokens (Vertices (Some l)) = 4
term_tokens (Edges (Some l)) = 4
term_tokens (Joins l m) = 6
term_tokens _ = 1

-- a factor is its number, `*` and its term; a factor of 1 is its term alone
abbrev pub factor_tokens : Factor → ℕ
factor_tokens f = term_tokens f.term + (if eqb f.times 1 then 0 else 2)

-- the factors of a sum, with `+` between them
abbrev pub sum_tokens : List Factor → ℕ
sum_tokens sum = sum_by factor_tokens sum + (length sum - 1)

-- an edge of a pattern is its two numbers, and its label where that isn't the one that is left out
abbrev pub pair_tokens : PatternEdge → ℕ
pair_tokens e = 2 + (if eqb e.label 0 then 0 else 1)

-- A shape is its name, with parentheses round its labels and its edges, a `;` between these, and commas between two
-- labels and between two edges.
abbrev pub shape_tokens : Pattern → ℕ
shape_tokens s = 4 + length s.labels + (length s.labels - 1) + sum_by pair_tokens s.edges + (length s.edges - 1)

-- Of a condition as it is written: how tightly it binds (`or` 0, `and` 1, all else 2), how many tokens it
-- has, and how many `not` and parentheses are open at once where the most are.
pub record WrittenSize : Type 0 where
  pub binding : ℕ
  pub tokens : ℕ
  pub depth : ℕ

-- the pairs of parentheses round a condition: one where it binds less than its place asks for, and else none
abbrev pub parentheses_needed : ℕ → WrittenSize → ℕ
parentheses_needed asked c = if nat_lt c.binding asked then 1 else 0

abbrev pub tokens_at : ℕ → WrittenSize → ℕ
tokens_at asked c = c.tokens + 2 * parentheses_needed asked c

abbrev pub depth_at : ℕ → WrittenSize → ℕ
depth_at asked c = c.depth + parentheses_needed asked c

-- The operand of `not` has to bind by 2. `and` and `or` group to the left, so that the right operand has to
-- bind more than the word does.
abbrev pub written_size_by : Cond-F WrittenSize → WrittenSize
written_size_by True = record { binding = 2; tokens = 1; depth = 0 }
written_size_by False = record { binding = 2; tokens = 1; depth = 0 }
written_size_by (Compare sum op bound) = record { binding = 2; tokens = sum_tokens sum + 2; depth = 0 }
written_size_by (Not c) = record { binding = 2; tokens = 1 + tokens_at 2 c; depth = 1 + depth_at 2 c }
written_size_by (And c d) = record { binding = 1; tokens = tokens_at 1 c + 1 + tokens_at 2 d; depth = max (depth_at 1 c) (depth_at 2 d) }
written_size_by (Or c d) = record { binding = 0; tokens = tokens_at 0 c + 1 + tokens_at 1 d; depth = max (depth_at 0 c) (depth_at 1 d) }
written_size_by (Shape s) = record { binding = 2; tokens = shape_tokens s; depth = 0 }

abbrev pub written_size : Cond → WrittenSize
written_size c = fold-Cond WrittenSize written_size_by c

-- the most that a factor, a bound, a sum, a pattern and a whole condition may have
abbrev pub most_times : ℕ
most_times = 100

abbrev pub most_bound : ℕ
most_bound = 10000

abbrev pub most_factors : ℕ
most_factors = 16

abbrev pub most_pattern_vertices : ℕ
most_pattern_vertices = 8

abbrev pub most_depth : ℕ
most_depth = 32

abbrev pub most_tokens : ℕ
most_tokens = 512

-- a sum has 1 to 16 factors, each of at most 100
abbrev pub is_sum_within : List Factor → Bool
is_sum_within sum = nat_le 1 (length sum) && nat_le (length sum) most_factors && list_all (λ f. nat_le f.times most_times) sum

-- an edge of a pattern of n vertices has two of their numbers, the lower one first
abbrev pub is_pair_of : ℕ → PatternEdge → Bool
is_pair_of n e = nat_le 1 e.low && nat_lt e.low e.high && nat_le e.high n

-- the edge comes after two numbers, by the lower end and then by the higher one
abbrev pub comes_after : ℕ → ℕ → PatternEdge → Bool
comes_after low high e = nat_lt low e.low || (eqb low e.low && nat_lt high e.high)

-- each edge comes after two numbers, and after the edges before it
abbrev pub come_in_order : ℕ → ℕ → List PatternEdge → Bool
come_in_order low high [] = true
come_in_order low high (e ∷ es) = comes_after low high e && come_in_order e.low e.high es

-- a pattern has 1 to 8 vertices, and each of its edges once, ascending
abbrev pub is_pattern_within : Pattern → Bool
is_pattern_within s =
    nat_le 1 (length s.labels) && nat_le (length s.labels) most_pattern_vertices && list_all (is_pair_of (length s.labels)) s.edges && come_in_order 0 0 s.edges

-- each sum, each bound and each pattern of a condition is within these numbers
abbrev pub are_numbers_within_of : Cond-F Bool → Bool
are_numbers_within_of True = true
are_numbers_within_of False = true
are_numbers_within_of (Compare sum op bound) = is_sum_within sum && nat_le bound most_bound
are_numbers_within_of (Not c) = c
are_numbers_within_of (And c d) = c && d
are_numbers_within_of (Or c d) = c && d
are_numbers_within_of (Shape s) = is_pattern_within s

abbrev pub are_numbers_within : Cond → Bool
are_numbers_within c = fold-Cond Bool are_numbers_within_of c

-- the condition is no larger than one may be
pub record IsWithinLimits (c : Cond) : Type 0 where
  pub numbers : IsTrue (are_numbers_within c)
  pub depth : (written_size c).depth ≤ most_depth
  pub tokens : (written_size c).tokens ≤ most_tokens
