use Rattle.std.proofs.Common.{subst, sym, ◌∙◌, ◌≤◌, ◌+◌, arith}
use Rattle.std.proofs.lemmas.Result.{err_from_is_err_and}
use Rattle.tesseract.proofs.Going.{Running-unsent}
use Rattle.tesseract.proofs.Heading.{goes_any, heading_turns}
use Rattle.tesseract.proofs.Turning.{Running-sent, ends_most}
use Rattle.tesseract.proofs.mine.take_line.Goals as goal

pub returns-in_err-send_before_wait-clause-runs : goal.returns-in_err-send_before_wait-clause-runs
returns-in_err-send_before_wait-clause-runs g c = λ left0 written0 p stands running.
    let e = err_from_is_err_and c.from_residual.result c.from_residual.ensures.1 in
    rw e.1 (Running-unsent c.args.terms left0 _ written0 _ _ c.args.page.now c.args.reader.now p c.in_err-send_before_wait.ensures.sent.front running)

pub returns-in-Some-clause-runs : goal.returns-in-Some-clause-runs
returns-in-Some-clause-runs g c = λ left0 written0 p stands running.
    let sent = Running-sent c.args.terms left0 _ written0 _ _ _ _ c.args.reader.now p c.in_ok-send_before_wait.ensures.sent.passed running in
    let ends = c.in-Some.ensures.advances p.stage stands.waits.at in
    c.close.ensures.runs left0 _ _ written0 c.args.reader.now c.advance.new.reader p ends.0
    (ends_most c.args.terms p.stage c.args.reader.now c.advance.new.reader _ _ c.in-Some.status c.requires.most ends.1) stands sent

pub take_update-requires-clause-counted : goal.take_update-requires-clause-counted
take_update-requires-clause-counted g c =
    let next = (c.in_default.ensures.advances c.requires.stands.0.stage c.requires.stands.2.waits.at).2 in
    let n = c.number-in-Streaming.ensures in
    let few = next.few in
    let same = next.same_most in
    let most = c.requires.most in omega (arith, n, few, same, most)

pub take_update-requires-clause-stands : goal.take_update-requires-clause-stands
take_update-requires-clause-stands g c =
    let next = (c.in_default.ensures.advances c.requires.stands.0.stage c.requires.stands.2.waits.at).2 in
    let stands = c.requires.stands.2 in (
      c.requires.stands.0,
      (let n = c.number-in-Streaming.ensures in let counted = next.counted in let lines = c.requires.stands.1 in omega (arith, n, counted, lines)),
      rw c.in-Streaming.is at stands,
    )

pub returns-in-Heading-clause-runs : goal.returns-in-Heading-clause-runs
returns-in-Heading-clause-runs g c = λ left0 written0 p stands running.
    let sent = Running-sent c.args.terms left0 _ written0 _ _ _ _ c.args.reader.now p c.in_ok-send_before_wait.ensures.sent.passed running in
    let given = c.in_default.ensures.advances p.stage stands.waits.at in
    heading_turns c.args.terms c.args.plan c.number.result c.in-Heading.header c.bytes.result.now c.args.run.waiting p (rw c.in-Heading.is at stands)
    c.args.reader.now c.advance.new.reader _ _
    (record { gives = given.0; fits = given.1; stands = given.2; number_is = c.number.ensures; text_is = c.bytes.ensures }) c.requires.most
    (let n = c.number.ensures in let few = given.2.few in let same = given.2.same_most in let most = c.requires.most in omega (arith, n, few, same, most))
    left0 written0 _ _ sent _ _ c.take_header.result c.take_header.ensures.takes

pub returns-in-Heading-clause-goes : goal.returns-in-Heading-clause-goes
returns-in-Heading-clause-goes g c =
    goes_any c.args.reader.now c.advance.new.reader c.take_header.result (c.in_default.ensures.advances c.requires.stands.0.stage c.requires.stands.2.waits.at).2

pub returns-in-Streaming-clause-runs : goal.returns-in-Streaming-clause-runs
returns-in-Streaming-clause-runs g c = λ left0 written0 p stands running.
    let sent = Running-sent c.args.terms left0 _ written0 _ _ _ _ c.args.reader.now p c.in_ok-send_before_wait.ensures.sent.passed running in
    let given = c.in_default.ensures.advances p.stage stands.waits.at in
    c.take_update.ensures.runs left0 _ _ written0 c.args.reader.now c.advance.new.reader p
    (record { gives = given.0; fits = given.1; stands = given.2; number_is = c.number-in-Streaming.ensures; text_is = c.bytes-in-Streaming.ensures }) c.requires.most
    (rw c.in-Streaming.is at stands) sent

pub returns-in-Streaming-clause-goes : goal.returns-in-Streaming-clause-goes
returns-in-Streaming-clause-goes g c =
    goes_any c.args.reader.now c.advance.new.reader c.take_update.result (c.in_default.ensures.advances c.requires.stands.0.stage c.requires.stands.2.waits.at).2
