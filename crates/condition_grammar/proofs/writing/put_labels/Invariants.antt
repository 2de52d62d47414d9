use Rattle.std.proofs.Common.{◌≡◌, ◌++◌, IsTrue, length}
use Rattle.std.specs.List.{list_all}
use Rattle.condition_grammar.specs.meaning.Text.{comma_text, label_text, knows_label, list_text}
use Rattle.condition_grammar.proofs.writing.put_labels.Given as goal

-- what was written and what is left make the whole list
abbrev pub invariant-loop-rest : goal.invariant-loop-rest
invariant-loop-rest l = record {
  same : l.line ++ comma_text (label_text l.names) l.rest ≡ l.fn.line ++ list_text (label_text l.names) l.labels;
  known : IsTrue (list_all (knows_label l.names) l.rest);
}

abbrev pub decreases-loop-rest : goal.decreases-loop-rest
decreases-loop-rest l = length l.rest
