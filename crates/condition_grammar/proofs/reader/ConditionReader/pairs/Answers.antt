use Rattle.std.proofs.Common.{◌≡◌, List, [], Ok, Err, sym, ap, subst, ◌∙◌, rules}
use Rattle.std.proofs.lemmas.Result.{err_from_is_err_and}
use Rattle.conditions.specs.declared.pattern.PatternEdge.{PatternEdge}
use Rattle.condition_grammar.specs.calls.Reading.{ReadsProduction}
use Rattle.condition_grammar.specs.meaning.Grammar.{pair_after}
use Rattle.condition_grammar.proofs.Chaining.{Items-err, Items-first, Items-more, Items-stop, Reads-err, pairs-fail, pairs-first, pairs-none}
use Rattle.condition_grammar.proofs.reader.ConditionReader.pairs.Goals as goal

pub returns-then-not-has_number-clause-reads : goal.returns-then-not-has_number-clause-reads
returns-then-not-has_number-clause-reads c =
    pairs-none c.args.self.now.tokens c.args.self.now.names c.args.count (sym c.has_number.ensures ∙ c.if-not-has_number.true)
    ∙ ap (λ (es : List PatternEdge). Ok (es, c.args.self.now.tokens, c.args.self.now.names)) (sym c.new-none.ensures)

pub loop-alloc-init : goal.loop-alloc-init
loop-alloc-init c =
    let none : c.deref.result.now ≡ [] = search rules in
    Items-first _ _ _ _ _ c.pair_after.new.self
    (pairs-first c.args.self.now.tokens c.args.self.now.names c.args.count c.in_ok-edges.edges c.pair_after.new.self.tokens c.pair_after.new.self.names
    (sym c.has_number.ensures ∙ c.if-not-has_number.false)
    (ap (λ es. pair_after c.args.count es c.args.self.now.tokens c.args.self.now.names) (sym none) ∙ c.in_ok-edges.ensures.reads)) c.in_ok-edges.ensures.goes_on

pub returns-in_err-edges-clause-reads : goal.returns-in_err-edges-clause-reads
returns-in_err-edges-clause-reads c =
    let p = err_from_is_err_and c.from_residual.result c.from_residual.ensures.1 in
    let none : c.deref.result.now ≡ [] = search rules in
    Reads-err c.from_residual.result c.in_err-edges.field-0.0 c.pair_after.new.self c.pair_after.new.self (pair_after c.args.count c.deref.result.now c.args.self.now.tokens c.args.self.now.names) _ (p.1 ∙ ap Err p.2)
    c.in_err-edges.ensures.reads
    (λ f read. pairs-fail c.args.self.now.tokens c.args.self.now.names c.args.count f (sym c.has_number.ensures ∙ c.if-not-has_number.false)
    (ap (λ es. pair_after c.args.count es c.args.self.now.tokens c.args.self.now.names) (sym none) ∙ read))

pub loop-alloc-preserved : goal.loop-alloc-preserved
loop-alloc-preserved c =
    let so_far : c.deref-in-loop-alloc.result.now ≡ c.loop-alloc.edges = search rules in
    Items-more _ _ _ _ _ _ c.loop-alloc.invariant _ c.loop-alloc-test.ensures c.in_ok-edges-2.edges _
    (ap (λ es. pair_after c.args.count es c.takes.new.self.tokens c.takes.new.self.names) (sym so_far) ∙ c.in_ok-edges-2.ensures.reads) c.in_ok-edges-2.ensures.goes_on

pub returns-in_err-edges-2-clause-reads : goal.returns-in_err-edges-2-clause-reads
returns-in_err-edges-2-clause-reads c =
    let p = err_from_is_err_and c.from_residual-in_err-edges-2.result c.from_residual-in_err-edges-2.ensures.1 in
    let so_far : c.deref-in-loop-alloc.result.now ≡ c.loop-alloc.edges = search rules in
    Items-err _ _ _ _ _ _ c.loop-alloc.invariant _ c.loop-alloc-test.ensures _ _ c.pair_after-in-loop-alloc.new.self (p.1 ∙ ap Err p.2)
    (subst (λ es. ReadsProduction (Err c.in_err-edges-2.field-0.0) c.pair_after-in-loop-alloc.new.self (pair_after c.args.count es c.takes.new.self.tokens c.takes.new.self.names)) so_far c.in_err-edges-2.ensures.reads)

pub returns-clause-reads : goal.returns-clause-reads
returns-clause-reads c = Items-stop _ _ _ _ _ _ c.loop-alloc.invariant _ c.loop-alloc-test.ensures
