use Rattle.std.proofs.Common.{◌≡◌, ◌++◌, IsTrue, length}
use Rattle.std.specs.List.{list_all}
use Rattle.condition_grammar.specs.meaning.Text.{knows_term, more_text, sum_text}
use Rattle.condition_grammar.proofs.writing.put_sum.Given as goal

-- what was written and what is left make the whole sum
abbrev pub invariant-loop-rest : goal.invariant-loop-rest
invariant-loop-rest l = record {
  same : l.line ++ more_text l.names l.rest ≡ l.fn.line ++ sum_text l.names l.sum;
  known : IsTrue (list_all (λ f. knows_term l.names f.term) l.rest);
}

abbrev pub decreases-loop-rest : goal.decreases-loop-rest
decreases-loop-rest l = length l.rest
