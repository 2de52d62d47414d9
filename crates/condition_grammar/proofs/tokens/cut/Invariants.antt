use Rattle.std.proofs.Common.{◌≡◌, ◌++◌, length, map, option_map}
use Rattle.line_fields.specs.meaning.Fields.{trim_start}
use Rattle.condition_grammar.specs.calls.Cursor.{token_of}
use Rattle.condition_grammar.specs.meaning.Lexing.{tokens_of}
use Rattle.condition_grammar.proofs.tokens.cut.Given as goal

-- the tokens that were cut and those to come are those of the text
abbrev pub invariant-loop-front : goal.invariant-loop-front
invariant-loop-front l = record {
  so_far : tokens_of l.text ≡ option_map (λ ts. map token_of l.tokens.items ++ ts) (tokens_of l.front);
  trimmed : trim_start l.front ≡ l.front;
}

abbrev pub decreases-loop-front : goal.decreases-loop-front
decreases-loop-front l = length l.front
