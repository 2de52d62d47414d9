use Rattle.std.proofs.Common.{◌≡◌, ◌++◌, IsTrue, length}
use Rattle.std.specs.List.{list_all}
use Rattle.condition_grammar.specs.meaning.Text.{comma_text, edge_text, knows_edge, list_text}
use Rattle.condition_grammar.proofs.writing.put_edges.Given as goal

-- what was written and what is left make the whole list
abbrev pub invariant-loop-rest : goal.invariant-loop-rest
invariant-loop-rest l = record {
  same : l.line ++ comma_text (edge_text l.names) l.rest ≡ l.fn.line ++ list_text (edge_text l.names) l.edges;
  known : IsTrue (list_all (knows_edge l.names) l.rest);
}

abbrev pub decreases-loop-rest : goal.decreases-loop-rest
decreases-loop-rest l = length l.rest
