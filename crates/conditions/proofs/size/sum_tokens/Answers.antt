use Rattle.std.proofs.Common.{arith}
use Rattle.conditions.proofs.Tokens.{sum_by-factor_tokens-le}
use Rattle.conditions.proofs.size.sum_tokens.Goals as goal

pub overflow_add-result : goal.overflow_add-result
overflow_add-result c = let few = sum_by-factor_tokens-le c.args.sum.now in omega (arith, few, c.tokens_of_all.ensures, c.saturating_sub-pluses.ensures)

pub returns-clause-few : goal.returns-clause-few
returns-clause-few c = let few = sum_by-factor_tokens-le c.args.sum.now in omega (arith, few, c.tokens_of_all.ensures, c.saturating_sub-pluses.ensures)
