use Rattle.std.proofs.Common.{Ok, Err, sym, ap, ◌∙◌}
use Rattle.std.proofs.lemmas.Result.{err_from_is_err_and}
use Rattle.condition_grammar.specs.meaning.Grammar.{◌>>=◌, cond_within, neg, nested_within, operand}
use Rattle.condition_grammar.proofs.Chaining.{Chained-err, Items-first, Chained-more, Items-stop, Reads-err, Reads-refused, joined_by-fail, joined_by-first, neg-opened, neg-full, negated, atom-opened, atom-full, closed, closed-passed, closed-missed}
use Rattle.condition_grammar.proofs.reader.ConditionReader.+condition.Goals as goal

pub neg-returns-in_err-room-clause-reads : goal.neg-returns-in_err-room-clause-reads
neg-returns-in_err-room-clause-reads t c =
    let p = err_from_is_err_and c.from_residual.result c.from_residual.ensures.1 in
    Reads-refused c.from_residual.result c.in_err-room.field-0.0 c.takes.new.self _ (p.1 ∙ ap Err p.2)
    (neg-full c.args.room c.args.self.now c.takes.new.self c.in_err-room.ensures.0 c.if-takes.ensures ∙ ap Err (sym c.in_err-room.ensures.1))

pub neg-returns-in_err-operand-clause-reads : goal.neg-returns-in_err-operand-clause-reads
neg-returns-in_err-operand-clause-reads t c =
    let p = err_from_is_err_and c.from_residual-in_err-operand.result c.from_residual-in_err-operand.ensures.1 in
    Reads-err c.from_residual-in_err-operand.result c.in_err-operand.field-0.0 c.neg.new.self c.neg.new.self
    (neg (nested_within c.in_ok-room.room) c.takes.new.self.tokens c.takes.new.self.names) _ (p.1 ∙ ap Err p.2) c.in_err-operand.ensures.reads
    (λ f read. neg-opened c.args.room c.in_ok-room.room c.args.self.now c.takes.new.self c.in_ok-room.ensures c.if-takes.ensures ∙ ap (λ r. r >>= negated) read)

pub neg-returns-then-takes-clause-reads : goal.neg-returns-then-takes-clause-reads
neg-returns-then-takes-clause-reads t c =
    neg-opened c.args.room c.in_ok-room.room c.args.self.now c.takes.new.self c.in_ok-room.ensures c.if-takes.ensures
    ∙ ap (λ r. r >>= negated) c.in_ok-operand.ensures.reads
    ∙ ap (λ x. Ok (x, c.neg.new.self.tokens, c.neg.new.self.names)) (sym c.in_ok-cond.ensures)

pub atom-returns-in_err-room-clause-reads : goal.atom-returns-in_err-room-clause-reads
atom-returns-in_err-room-clause-reads t c =
    let p = err_from_is_err_and c.from_residual.result c.from_residual.ensures.1 in
    Reads-refused c.from_residual.result c.in_err-room.field-0.0 c.takes-3.new.self _ (p.1 ∙ ap Err p.2)
    (atom-full c.args.self.now c.takes.new.self c.takes-2.new.self c.takes-3.new.self c.if-takes.ensures c.if-takes-2.ensures c.if-takes-3.ensures c.args.room c.in_err-room.ensures.0
    ∙ ap Err (sym c.in_err-room.ensures.1))

pub atom-returns-in_err-cond-clause-reads : goal.atom-returns-in_err-cond-clause-reads
atom-returns-in_err-cond-clause-reads t c =
    let p = err_from_is_err_and c.from_residual-in_err-cond.result c.from_residual-in_err-cond.ensures.1 in
    Reads-err c.from_residual-in_err-cond.result c.in_err-cond.field-0.0 c.cond.new.self c.cond.new.self
    (cond_within (nested_within c.in_ok-room.room) c.takes-3.new.self.tokens c.takes-3.new.self.names) _ (p.1 ∙ ap Err p.2) c.in_err-cond.ensures.reads
    (λ f read. atom-opened c.args.self.now c.takes.new.self c.takes-2.new.self c.takes-3.new.self c.if-takes.ensures c.if-takes-2.ensures c.if-takes-3.ensures c.args.room c.in_ok-room.room c.in_ok-room.ensures
    ∙ ap (λ r. r >>= closed) read)

pub atom-returns-in_err-expect-clause-reads : goal.atom-returns-in_err-expect-clause-reads
atom-returns-in_err-expect-clause-reads t c =
    let p = err_from_is_err_and c.from_residual-in_err-expect.result c.from_residual-in_err-expect.ensures.1 in
    Reads-refused c.from_residual-in_err-expect.result c.in_err-expect.field-0.0 c.expect.new.self _ (p.1 ∙ ap Err p.2)
    (atom-opened c.args.self.now c.takes.new.self c.takes-2.new.self c.takes-3.new.self c.if-takes.ensures c.if-takes-2.ensures c.if-takes-3.ensures c.args.room c.in_ok-room.room c.in_ok-room.ensures
    ∙ ap (λ r. r >>= closed) c.in_ok-cond.ensures.reads
    ∙ closed-missed c.in_ok-cond.cond c.cond.new.self c.expect.new.self c.in_err-expect.field-0.0 c.in_err-expect.ensures.missed.0 c.in_err-expect.ensures.missed.1)

pub atom-returns-then-takes-3-clause-reads : goal.atom-returns-then-takes-3-clause-reads
atom-returns-then-takes-3-clause-reads t c =
    atom-opened c.args.self.now c.takes.new.self c.takes-2.new.self c.takes-3.new.self c.if-takes.ensures c.if-takes-2.ensures c.if-takes-3.ensures c.args.room c.in_ok-room.room c.in_ok-room.ensures
    ∙ ap (λ r. r >>= closed) c.in_ok-cond.ensures.reads
    ∙ closed-passed c.in_ok-cond.cond c.cond.new.self c.expect.new.self c.in_ok-expect.ensures.passed

pub chain-loop-alloc-init : goal.chain-loop-alloc-init
chain-loop-alloc-init t c =
    Items-first _ _ _ _ _ c.operand.new.self
    (joined_by-first c.args.joint (operand c.args.joint (nested_within c.args.room)) c.args.self.now.tokens c.operand.new.self.tokens c.args.self.now.names c.operand.new.self.names c.in_ok-left.left c.in_ok-left.ensures.reads) c.in_ok-left.ensures.goes_on

pub chain-returns-in_err-left-clause-reads : goal.chain-returns-in_err-left-clause-reads
chain-returns-in_err-left-clause-reads t c =
    let p = err_from_is_err_and c.from_residual.result c.from_residual.ensures.1 in
    let item = operand c.args.joint (nested_within c.args.room) in
    Reads-err c.from_residual.result c.in_err-left.field-0.0 c.operand.new.self c.operand.new.self (item c.args.self.now.tokens c.args.self.now.names) _ (p.1 ∙ ap Err p.2) c.in_err-left.ensures.reads
    (λ f read. joined_by-fail c.args.joint item c.args.self.now.tokens c.args.self.now.names f read)

pub chain-returns-in_err-right-clause-reads : goal.chain-returns-in_err-right-clause-reads
chain-returns-in_err-right-clause-reads t c =
    let p = err_from_is_err_and c.from_residual-in_err-right.result c.from_residual-in_err-right.ensures.1 in
    Chained-err c.args.joint (operand c.args.joint (nested_within c.args.room)) _ _ _ _ c.loop-alloc.invariant _ c.loop-alloc-test.ensures _ _ c.operand-in-loop-alloc.new.self (p.1 ∙ ap Err p.2) c.in_err-right.ensures.reads

pub chain-loop-alloc-preserved : goal.chain-loop-alloc-preserved
chain-loop-alloc-preserved t c =
    Chained-more c.args.joint (operand c.args.joint (nested_within c.args.room)) _ _ _ _ c.loop-alloc.invariant _ c.loop-alloc-test.ensures c.in_ok-right.right _ _ c.in_ok-right.ensures.reads c.in_ok-right.ensures.goes_on c.in_ok-left-2.ensures

pub chain-returns-clause-reads : goal.chain-returns-clause-reads
chain-returns-clause-reads t c = Items-stop _ _ _ _ _ _ c.loop-alloc.invariant _ c.loop-alloc-test.ensures
