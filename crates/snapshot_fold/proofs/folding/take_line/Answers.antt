use Rattle.std.proofs.Common.{Err, sym, ap, ◌∙◌}
use Rattle.std.proofs.lemmas.Result.{err_from_is_err_and}
use Rattle.std.proofs.lemmas.Bool.{and_parts}
use Rattle.snapshot_fold.proofs.Taken.{GivesNext-from, Takes-fault, Takes-none, Takes-line, Takes-stop}
use Rattle.snapshot_fold.proofs.folding.take_line.Goals as goal

pub returns-in_err-given-clause-takes : goal.returns-in_err-given-clause-takes
returns-in_err-given-clause-takes g c =
    let p = err_from_is_err_and c.from_residual.result c.from_residual.ensures.1 in
    let takes = Takes-fault c.args.reader.now c.next.new.self c.args.fold.now c.args.fold.now _ _ _ c.in_err-given.ensures.bytes in
    rw (p.1, p.2) takes

pub returns-then-not-is_whole-clause-takes : goal.returns-then-not-is_whole-clause-takes
returns-then-not-is_whole-clause-takes g c =
    let next = c.in_ok-given.ensures in
    Takes-none c.args.reader.now c.next.new.self c.args.fold.now _ _ c.requires.whole c.in_ok-given.given
    (sym c.is_whole.ensures ∙ c.if-not-is_whole.true) next.bytes next.line next.number next.live next.most next.bound

pub returns-in_err-fold_line-clause-takes : goal.returns-in_err-fold_line-clause-takes
returns-in_err-fold_line-clause-takes g c =
    let next = c.in_ok-given.ensures in
    let p = err_from_is_err_and c.from_residual-in_err-fold_line.result c.from_residual-in_err-fold_line.ensures.1 in
    let both = and_parts c.in_ok-given.given c.next.new.self.line.whole (sym c.is_whole.ensures ∙ c.if-not-is_whole.false) in
    let given =
    GivesNext-from c.args.reader.now c.next.new.self _ _ c.in_ok-given.given both.0 next.bytes next.line next.number
    next.live next.most next.bound in
    let takes =
    Takes-stop c.args.reader.now c.next.new.self c.args.fold.now c.fold_line.new.fold _ _ given
    both.1 c.number.result c.bytes.result.now c.number.ensures c.bytes.ensures _
    (λ e. c.in_err-fold_line.ensures.judged (ap Err e)) c.in_err-fold_line.ensures.stopped in
    rw (p.1, p.2) takes

pub returns-clause-takes : goal.returns-clause-takes
returns-clause-takes g c =
    let next = c.in_ok-given.ensures in
    let both = and_parts c.in_ok-given.given c.next.new.self.line.whole (sym c.is_whole.ensures ∙ c.if-not-is_whole.false) in
    let given =
    GivesNext-from c.args.reader.now c.next.new.self _ _ c.in_ok-given.given both.0 next.bytes next.line next.number
    next.live next.most next.bound in
    Takes-line c.args.reader.now c.next.new.self c.args.fold.now c.fold_line.new.fold _ _ given
    both.1 c.number.result c.bytes.result.now c.number.ensures c.bytes.ensures
    c.in_ok-fold_line.ensures.led
