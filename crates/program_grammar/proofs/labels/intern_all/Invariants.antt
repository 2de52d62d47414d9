use Rattle.std.proofs.Common.{◌≡◌, ◌++◌, ℕ, List, map, take, drop, Bor}
use Rattle.condition_grammar.specs.calls.Reading.{AreNew}
use Rattle.program_grammar.proofs.labels.intern_all.Given as goal

-- the labels so far stand after the names, and those to come are new
abbrev pub invariant-loop-label : goal.invariant-loop-label
invariant-loop-label l = record {
  so_far : l.names ≡ l.fn.names ++ map (λ (x : Bor (List ℕ)). x.now) (take l.label-index l.labels);
  new : AreNew l.names (map (λ (x : Bor (List ℕ)). x.now) (drop l.label-index l.labels));
}
