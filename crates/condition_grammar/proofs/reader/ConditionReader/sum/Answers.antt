use Rattle.std.proofs.Common.{Err, ap, ◌∙◌, arith}
use Rattle.std.proofs.lemmas.Result.{err_from_is_err_and}
use Rattle.condition_grammar.proofs.Chaining.{uses_more, uses_stop, uses_fail}
use Rattle.condition_grammar.proofs.reader.ConditionReader.sum.Goals as goal

pub returns-in_err-factor-clause-reads : goal.returns-in_err-factor-clause-reads
returns-in_err-factor-clause-reads c =
    let p = err_from_is_err_and c.from_residual-in_err-factor.result c.from_residual-in_err-factor.ensures.1 in
    uses_fail c.loop-sum.room c.loop-sum.sum c.loop-sum.self c.next_use.new.self c.from_residual-in_err-factor.result c.in_err-factor.field-0.0 _
    (p.1 ∙ ap Err p.2) c.in_err-factor.ensures.reads c.loop-sum.invariant.same

pub loop-sum-preserved : goal.loop-sum-preserved
loop-sum-preserved c =
    let reads = rw c.in-Some.is at c.in_ok-factor.ensures.reads in
    let old = c.loop-sum.self in
    record {
      same = c.loop-sum.invariant.same ∙ uses_more c.loop-sum.room c.loop-sum.sum old c.next_use.new.self c.in-Some.factor c.in_ok-sum-2.sum reads c.in_ok-sum-2.ensures;
      shorter = omega (arith, reads.1, c.loop-sum.invariant.shorter);
      known = c.in_ok-factor.ensures.goes_on.known ∙ c.loop-sum.invariant.known;
    }

pub loop-sum-smaller : goal.loop-sum-smaller
loop-sum-smaller c = (rw c.in-Some.is at c.in_ok-factor.ensures.reads).1

pub returns-clause-reads : goal.returns-clause-reads
returns-clause-reads c =
    c.loop-sum.invariant.same ∙ uses_stop c.loop-sum.room c.loop-sum.sum c.loop-sum.self c.next_use.new.self (rw c.in_default.is at c.in_ok-factor.ensures.reads)
