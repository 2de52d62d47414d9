use Rattle.std.proofs.Common.{length, ap, arith}
use Rattle.conditions.proofs.Patterns.{few_edges, pattern-within, sum_by-pair_tokens-le}
use Rattle.conditions.proofs.size.shape_tokens.Goals as goal

pub overflow_cast-commas : goal.overflow_cast-commas
overflow_cast-commas c =
    let few = few_edges c.args.pattern.now c.requires in
    omega (arith, few)

pub overflow_add-commas : goal.overflow_add-commas
overflow_add-commas c =
    let few = few_edges c.args.pattern.now c.requires in
    let is = pattern-within c.args.pattern.now c.requires in
    omega (arith, few, is)

pub tokens_of_pairs-requires : goal.tokens_of_pairs-requires
tokens_of_pairs-requires c =
    let few = few_edges c.args.pattern.now c.requires in
    omega (arith, few, ap length c.deref.ensures)

pub overflow_add-result-2 : goal.overflow_add-result-2
overflow_add-result-2 c =
    let few = few_edges c.args.pattern.now c.requires in
    let is = pattern-within c.args.pattern.now c.requires in
    let tokens = sum_by-pair_tokens-le c.deref.result.now in
    omega (arith, few, is, tokens, ap length c.deref.ensures)

pub overflow_add-result-3 : goal.overflow_add-result-3
overflow_add-result-3 c =
    let few = few_edges c.args.pattern.now c.requires in
    let is = pattern-within c.args.pattern.now c.requires in
    let tokens = sum_by-pair_tokens-le c.deref.result.now in
    omega (arith, few, is, tokens, ap length c.deref.ensures)
