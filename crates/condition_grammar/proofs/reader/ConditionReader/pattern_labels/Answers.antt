use Rattle.std.proofs.Common.{Err, sym, ap, ◌∙◌}
use Rattle.std.proofs.lemmas.Result.{err_from_is_err_and}
use Rattle.condition_grammar.specs.meaning.Grammar.{label_after}
use Rattle.condition_grammar.proofs.Chaining.{Items-err, Items-first, Items-more, Items-stop, Reads-err, labels-fail, labels-first}
use Rattle.condition_grammar.proofs.reader.ConditionReader.pattern_labels.Goals as goal

pub loop-self-init : goal.loop-self-init
loop-self-init c = record {
  left = Items-first _ _ _ _ _ c.label_after.new.self
      (labels-first c.args.self.now.tokens c.args.self.now.names c.in_ok-labels.labels c.label_after.new.self.tokens c.label_after.new.self.names
      (ap (λ ls. label_after ls c.args.self.now.tokens c.args.self.now.names) (sym c.new.ensures) ∙ c.in_ok-labels.ensures.reads)) c.in_ok-labels.ensures.goes_on;
  few = c.in_ok-labels.ensures.few;
}

pub returns-in_err-labels-clause-reads : goal.returns-in_err-labels-clause-reads
returns-in_err-labels-clause-reads c =
    let p = err_from_is_err_and c.from_residual.result c.from_residual.ensures.1 in
    Reads-err c.from_residual.result c.in_err-labels.field-0.0 c.label_after.new.self c.label_after.new.self (label_after c.new.result c.args.self.now.tokens c.args.self.now.names) _ (p.1 ∙ ap Err p.2) c.in_err-labels.ensures.reads
    (λ f read. labels-fail c.args.self.now.tokens c.args.self.now.names f (ap (λ ls. label_after ls c.args.self.now.tokens c.args.self.now.names) (sym c.new.ensures) ∙ read))

pub loop-self-preserved : goal.loop-self-preserved
loop-self-preserved c = record {
  left = Items-more _ _ _ _ _ _ c.loop-self.invariant.left _ c.loop-self-test.ensures c.in_ok-labels-2.labels _ c.in_ok-labels-2.ensures.reads c.in_ok-labels-2.ensures.goes_on;
  few = c.in_ok-labels-2.ensures.few;
}

pub returns-in_err-labels-2-clause-reads : goal.returns-in_err-labels-2-clause-reads
returns-in_err-labels-2-clause-reads c =
    let p = err_from_is_err_and c.from_residual-in_err-labels-2.result c.from_residual-in_err-labels-2.ensures.1 in
    Items-err _ _ _ _ _ _ c.loop-self.invariant.left _ c.loop-self-test.ensures _ _ c.label_after-in-loop-self.new.self (p.1 ∙ ap Err p.2) c.in_err-labels-2.ensures.reads

pub returns-clause-reads : goal.returns-clause-reads
returns-clause-reads c = Items-stop _ _ _ _ _ _ c.loop-self.invariant.left _ c.loop-self-test.ensures
