use Rattle.std.proofs.Common.{◌+◌, sym, ◌∙◌, ap, subst, arith}
use Rattle.job_io.specs.meaning.Lines.{Reading}
use Rattle.job_io.specs.calls.Reading.{MovesBytes, TellsAny, IsAhead}
use Rattle.job_io.proofs.Ahead.{gives_line, gives_last, more_follows, long_line_follows}
use Rattle.job_io.proofs.line_reader.LineReader.next.Goals as goal

pub returns-then-branch-clause-bytes : goal.returns-then-branch-clause-bytes
returns-then-branch-clause-bytes g c =
    let old = c.args.self.now in
    let now = c.any_ahead.new.buffer.held in
    let was = g.S.Source.left c.args.src.now in
    let is = g.S.Source.left c.any_ahead.new.src in
    let number = ap (λ (r : Reading). r.number) c.self.view_is in
    let most = ap (λ (r : Reading). r.most) c.self.view_is in
    let taken = subst (λ held. MovesBytes held now was is) (ap (λ (r : Reading). r.held) c.self.view_is) c.in_ok-any_ahead.ensures.taken in
    let some = subst (TellsAny now is) c.if-branch.true c.in_ok-any_ahead.ensures.ok in
    (ap (λ n. n + 1) most, sym number ∙ c.if-self.true ∙ most, more_follows was is old old now taken some)

pub returns-in-TooLong-clause-bytes : goal.returns-in-TooLong-clause-bytes
returns-in-TooLong-clause-bytes g c =
    let old = c.args.self.now in
    let now = c.look_ahead.new.buffer.held in
    let was = g.S.Source.left c.args.src.now in
    let is = g.S.Source.left c.look_ahead.new.src in
    let number = ap (λ (r : Reading). r.number) c.self.view_is in
    let most = ap (λ (r : Reading). r.most) c.self.view_is in
    let taken = subst (λ held. MovesBytes held now was is) (ap (λ (r : Reading). r.held) c.self.view_is) c.in_ok-count.ensures.taken in
    let long = subst (IsAhead now is) c.in-TooLong.is c.in_ok-count.ensures.ok in
    (ap (λ n. n + 1) number, omega arith, long_line_follows was is old old now taken long.0 long.1)

pub returns-in-Whole-clause-bytes : goal.returns-in-Whole-clause-bytes
returns-in-Whole-clause-bytes g c =
    let old = c.args.self.now in
    let now = c.look_ahead.new.buffer.held in
    let was = g.S.Source.left c.args.src.now in
    let is = g.S.Source.left c.look_ahead.new.src in
    let taken = subst (λ held. MovesBytes held now was is) (ap (λ (r : Reading). r.held) c.self.view_is) c.in_ok-count.ensures.taken in
    let found = subst (IsAhead now is) c.in-Whole.is c.in_ok-count.ensures.ok in
    gives_line was is old c.give.new.self now c.in-Whole.count taken found.0 (ap (λ (r : Reading). r.line) c.give.ensures) (ap (λ (r : Reading). r.held) c.give.ensures)

pub returns-in-Last-clause-bytes : goal.returns-in-Last-clause-bytes
returns-in-Last-clause-bytes g c =
    let old = c.args.self.now in
    let now = c.look_ahead.new.buffer.held in
    let was = g.S.Source.left c.args.src.now in
    let is = g.S.Source.left c.look_ahead.new.src in
    let taken = subst (λ held. MovesBytes held now was is) (ap (λ (r : Reading). r.held) c.self.view_is) c.in_ok-count.ensures.taken in
    let last = subst (IsAhead now is) c.in-Last.is c.in_ok-count.ensures.ok in
    gives_last was is old c.give-in-Last.new.self now c.in-Last.count taken last.0 last.1 last.2 last.3 (ap (λ (r : Reading). r.line) c.give-in-Last.ensures) (ap (λ (r : Reading). r.held) c.give-in-Last.ensures)
