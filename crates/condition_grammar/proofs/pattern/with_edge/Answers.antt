use Rattle.std.proofs.Common.{◌≡◌, ◌++◌, ◌∷◌, [], List, take, drop, rules, ap, ◌∙◌}
use Rattle.conditions.specs.declared.pattern.PatternEdge.{PatternEdge}
use Rattle.condition_grammar.proofs.Edges.{with_edge-made}
use Rattle.condition_grammar.proofs.pattern.with_edge.Goals as goal

pub returns : goal.returns
returns c =
    let edges = c.args.edges.now in
    let e = c.args.edge in
    let front = c.split_at.result.0.now in
    let back = c.split_at.result.1.now in
    let made : c.extend_from_slice.new.self ≡ (front ++ e ∷ []) ++ back = search rules in
    made
    ∙ ap (λ (xs : List PatternEdge). (xs ++ e ∷ []) ++ back) c.split_at.ensures.front
    ∙ ap (λ (xs : List PatternEdge). (take c.place_of.result edges ++ e ∷ []) ++ xs) c.split_at.ensures.back
    ∙ ap (λ k. (take k edges ++ e ∷ []) ++ drop k edges) c.place_of.ensures
    ∙ with_edge-made e edges
