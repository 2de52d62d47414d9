use Rattle.std.proofs.Common.{rules, ◌≡◌, ◌++◌, ℕ, List, Bor, sym, ap, ◌∙◌}
use Rattle.std.proofs.lemmas.List.{take-map}
use Rattle.program_grammar.proofs.labels.intern_all.Goals as goal

pub returns-in-Err-NoMemory-clause-some : goal.returns-in-Err-NoMemory-clause-some
returns-in-Err-NoMemory-clause-some c =
    let unchanged : c.intern.new.self ≡ c.loop-label.names = search rules in
    let first = take-map (λ (x : Bor (List ℕ)). x.now) c.loop-label.label-index c.args.labels.now in
    (c.loop-label.label-index, unchanged ∙ c.loop-label.invariant.so_far ∙ ap (λ labels. c.args.names.now ++ labels) (sym first))
