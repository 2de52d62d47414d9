use Rattle.std.proofs.Common.{◌+◌, drop, Err, ap, ◌∙◌}
use Rattle.std.proofs.lemmas.Result.{err_from_is_err_and}
use Rattle.program_grammar.proofs.KnownLines.{program-known}
use Rattle.program_grammar.proofs.WholePrograms.{at_line, room-here, room-next, said-next, said-ready, said-fault, starves-later}
use Rattle.program_grammar.proofs.program.read_program.Goals as goal

pub take-requires : goal.take-requires
take-requires c =
    let lines = c.args.lines.now in
    let i = c.loop-i.i in
    let text = c.as_slice.result.now in
    let rest_is = at_line lines c.as_slice-line-items.result.now i c.line-item.result text c.as_slice-line-items.ensures c.line-item.is c.loop-i-test.true c.as_slice.ensures in
    room-here c.loop-i.header i (drop i lines) (drop (i + 1) lines) text c.loop-i.names rest_is c.loop-i.invariant.room

pub loop-i-preserved : goal.loop-i-preserved
loop-i-preserved c =
    let lines = c.args.lines.now in
    let i = c.loop-i.i in
    let text = c.as_slice.result.now in
    let rest_is = at_line lines c.as_slice-line-items.result.now i c.line-item.result text c.as_slice-line-items.ensures c.line-item.is c.loop-i-test.true c.as_slice.ensures in
    let answers = rw c.in-More.is at c.in_ok-next.ensures in
    let h = c.loop-i.header in
    let names = c.loop-i.names in
    record {
      same = c.loop-i.invariant.same ∙ said-next h i (drop i lines) (drop (i + 1) lines) text names rest_is c.in-More.next c.take.new.names answers.0;
      room = room-next h i (drop i lines) (drop (i + 1) lines) text names rest_is c.in-More.next c.take.new.names answers.0 answers.1 c.loop-i.invariant.room;
      starved = λ new starves. c.loop-i.invariant.starved new (starves-later h i (drop i lines) (drop (i + 1) lines) text names rest_is c.in-More.next c.take.new.names answers.0 new starves);
    }

pub returns-in_err-next-clause-reads : goal.returns-in_err-next-clause-reads
returns-in_err-next-clause-reads c =
    let lines = c.args.lines.now in
    let i = c.loop-i.i in
    let text = c.as_slice.result.now in
    let rest_is = at_line lines c.as_slice-line-items.result.now i c.line-item.result text c.as_slice-line-items.ensures c.line-item.is c.loop-i-test.true c.as_slice.ensures in
    let p = err_from_is_err_and c.from_residual.result c.from_residual.ensures.1 in
    said-fault c.loop-i.header i (drop i lines) (drop (i + 1) lines) text c.loop-i.names rest_is lines c.args.names.now c.take.new.names c.loop-i.invariant.same c.loop-i.invariant.starved
    c.from_residual.result c.in_err-next.field-0.0 (p.1 ∙ ap Err p.2) c.in_err-next.ensures

pub returns-in-Ready-clause-known : goal.returns-in-Ready-clause-known
returns-in-Ready-clause-known c =
    let lines = c.args.lines.now in
    let i = c.loop-i.i in
    let text = c.as_slice.result.now in
    let names = c.take.new.names in
    let p = c.in-Ready.program in
    let rest_is = at_line lines c.as_slice-line-items.result.now i c.line-item.result text c.as_slice-line-items.ensures c.line-item.is c.loop-i-test.true c.as_slice.ensures in
    let answers = rw c.in-Ready.is at c.in_ok-next.ensures in
    program-known lines c.args.names.now names p
    (c.loop-i.invariant.same ∙ said-ready c.loop-i.header i (drop i lines) (drop (i + 1) lines) text c.loop-i.names rest_is p names answers.0)
