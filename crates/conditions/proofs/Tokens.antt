-- A factor has few tokens, so that few factors have few.
use Rattle.std.proofs.Common.{◌+◌, ◌*◌, ◌≤◌, true, false, List, [], ◌∷◌, length, None, Some, arith, eqb, if◌then◌else◌}
use Rattle.std.specs.List.{sum_by}
use Rattle.std.proofs.lemmas.List.Sums.{sum_by-cons}
use Rattle.conditions.specs.declared.condition.Factor.{Factor}
use Rattle.conditions.specs.declared.condition.Term.{Term}
use Rattle.conditions.specs.declared.condition.Term.TheVariants.{Vertices, Edges, Joins, Kinds, Degree, Missing, Least}
use Rattle.conditions.specs.meaning.Written.{factor_tokens, term_tokens}

term_tokens-le : (t : Term) → term_tokens t ≤ 6
term_tokens-le (Vertices None) = omega arith
term_tokens-le (Vertices (Some l)) = omega arith
term_tokens-le (Edges None) = omega arith
term_tokens-le (Edges (Some l)) = omega arith
term_tokens-le (Joins l m) = omega arith
term_tokens-le Kinds = omega arith
term_tokens-le Degree = omega arith
term_tokens-le Missing = omega arith
term_tokens-le Least = omega arith

factor_tokens-le : (f : Factor) → factor_tokens f ≤ 8
factor_tokens-le f =
    let term = term_tokens-le f.term in
    elim (eqb f.times 1) as (λ b. term_tokens f.term + (if b then 0 else 2) ≤ 8) [ true ↦ omega (arith, term) | false ↦ omega (arith, term) ]

pub sum_by-factor_tokens-le : (sum : List Factor) → sum_by factor_tokens sum ≤ 8 * length sum
sum_by-factor_tokens-le [] = omega arith
sum_by-factor_tokens-le (f ∷ sum) = omega (arith, factor_tokens-le f, sum_by-factor_tokens-le sum, sum_by-cons factor_tokens f sum)
