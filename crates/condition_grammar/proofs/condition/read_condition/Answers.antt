use Rattle.std.proofs.Common.{◌≡◌, ◌≤◌, Some, map, length, rules, arith, sym, ap, ◌∙◌}
use Rattle.std.proofs.lemmas.List.{length-map}
use Rattle.std.proofs.lemmas.Result.{err_from_is_err_and}
use Rattle.conditions.specs.meaning.Written.{most_tokens}
use Rattle.condition_grammar.specs.calls.Cursor.{token_of}
use Rattle.condition_grammar.proofs.Limits.{condition_of-within}
use Rattle.condition_grammar.proofs.Whole.{condition_of-long, cut-fails, read-fails, read-more, read-done}
use Rattle.condition_grammar.proofs.condition.read_condition.Goals as goal

pub returns-in_err-tokens-clause-parses : goal.returns-in_err-tokens-clause-parses
returns-in_err-tokens-clause-parses c =
    let p = err_from_is_err_and c.from_residual.result c.from_residual.ensures.1 in
    rw (p.1, p.2) (cut-fails c.args.text.now c.args.names.now c.in_err-tokens.field-0.0 c.in_err-tokens.ensures)

pub returns-then-len-gt-MOST_TOKENS-clause-parses : goal.returns-then-len-gt-MOST_TOKENS-clause-parses
returns-then-len-gt-MOST_TOKENS-clause-parses c =
    let tokens = c.in_ok-tokens.tokens.items in
    let count : c.len.result ≡ length tokens = search rules in
    condition_of-long c.args.text.now c.args.names.now (map token_of tokens) c.in_ok-tokens.ensures (omega (arith, c.if-len-gt-MOST_TOKENS.true, count, length-map tokens token_of))

pub returns-in_err-cond-clause-parses : goal.returns-in_err-cond-clause-parses
returns-in_err-cond-clause-parses c =
    let p = err_from_is_err_and c.from_residual-in_err-cond.result c.from_residual-in_err-cond.ensures.1 in
    let tokens = c.as_slice.result.now in
    let cut = c.in_ok-tokens.ensures ∙ ap (λ ts. Some (map token_of ts)) (sym c.as_slice.ensures.value) in
    let count : c.len.result ≡ length c.in_ok-tokens.tokens.items = search rules in
    let few : length (map token_of tokens) ≤ most_tokens = omega (arith, c.if-len-gt-MOST_TOKENS.false, count, ap length c.as_slice.ensures.value, length-map tokens token_of) in
    rw (p.1, p.2) (
    read-fails c.args.text.now c.args.names.now (map token_of tokens) cut few c.new-reader.result c.new-reader.ensures
    c.in_err-cond.field-0.0 c.cond.new.self c.in_err-cond.ensures.reads
    )

pub returns-then-not-is_done-clause-parses : goal.returns-then-not-is_done-clause-parses
returns-then-not-is_done-clause-parses c =
    let tokens = c.as_slice.result.now in
    let cut = c.in_ok-tokens.ensures ∙ ap (λ ts. Some (map token_of ts)) (sym c.as_slice.ensures.value) in
    let count : c.len.result ≡ length c.in_ok-tokens.tokens.items = search rules in
    let few : length (map token_of tokens) ≤ most_tokens = omega (arith, c.if-len-gt-MOST_TOKENS.false, count, ap length c.as_slice.ensures.value, length-map tokens token_of) in
    read-more c.args.text.now c.args.names.now (map token_of tokens) cut few c.new-reader.result c.new-reader.ensures
    c.in_ok-cond.cond c.cond.new.self c.in_ok-cond.ensures.reads c.if-not-is_done.ensures

pub returns-clause-parses : goal.returns-clause-parses
returns-clause-parses c =
    let tokens = c.as_slice.result.now in
    let cut = c.in_ok-tokens.ensures ∙ ap (λ ts. Some (map token_of ts)) (sym c.as_slice.ensures.value) in
    let count : c.len.result ≡ length c.in_ok-tokens.tokens.items = search rules in
    let few : length (map token_of tokens) ≤ most_tokens = omega (arith, c.if-len-gt-MOST_TOKENS.false, count, ap length c.as_slice.ensures.value, length-map tokens token_of) in
    read-done c.args.text.now c.args.names.now (map token_of tokens) cut few c.new-reader.result c.new-reader.ensures
    c.in_ok-cond.cond c.cond.new.self c.in_ok-cond.ensures.reads _ c.if-not-is_done.ensures c.in_ok-cond.ensures.goes_on c.into_labels.ensures

pub returns-clause-within : goal.returns-clause-within
returns-clause-within c = condition_of-within c.args.text.now c.args.names.now (c.in_ok-cond.cond, _) (returns-clause-parses c).read
