use Rattle.std.proofs.Common.{◌≡◌, ap, arith, refl, sym, subst, ◌∙◌, ◌+◌, ◌*◌, ◌^◌, ◌≤◌, length}
use Rattle.std.proofs.lemmas.Result.{err_from_is_err_and}
use Rattle.cond_eval.specs.meaning.Patterns.{pattern_of}
use Rattle.tesseract.proofs.Mined.{can_mine, emptied, few_deltas, full_at, last_stamp, next_window, waiting_deltas}
use Rattle.tesseract.proofs.mining.mine_waiting.Goals as goal

pub mine-requires : goal.mine-requires
mine-requires g c =
    can_mine c.args.terms c.args.plan (pattern_of c.args.program.now) c.requires.waits.0 c.args.waiting c.requires.waits.1

pub write_waiting-requires : goal.write_waiting-requires
write_waiting-requires g c =
    let p = c.requires.waits.0 in
    let under = c.requires.waits.1 in
    let few = few_deltas c.args.terms c.args.plan (pattern_of c.args.program.now) p c.args.waiting under c.in-Ok.mined
    (c.in-Ok.ensures p.mined under.waits.follows) c.requires.countable in
    record { few = subst (λ t. t + length c.deref.result.now ≤ 4 * 10 ^ 9) (sym c.first-first.ensures) (subst (λ ds. c.args.waiting.window.first + length ds ≤ 4 * 10 ^ 9) (sym c.deref.ensures.value) few) }

pub into_next-requires : goal.into_next-requires
into_next-requires g c =
    let early = last_stamp c.args.terms c.args.plan (pattern_of c.args.program.now) c.requires.waits.0 c.args.waiting c.requires.waits.1 c.requires.countable in
    record { first_in_range = omega (arith, early) }

pub returns-in_err-standing-clause-empties : goal.returns-in_err-standing-clause-empties
returns-in_err-standing-clause-empties g c = λ left0 left left' written0 reader p under tell running.
    let e = err_from_is_err_and c.from_residual.result c.from_residual.ensures.1 in
    let deltas = waiting_deltas c.args.terms c.args.plan (pattern_of c.args.program.now) p c.args.waiting under c.in-Ok.mined (c.in-Ok.ensures p.mined under.waits.follows) in
    rw e.1 ((rw c.deref.ensures.value at c.in_err-standing.ensures.writes) left0 left left' written0 reader p (pattern_of c.args.program.now)
    (sym under.waits.first ∙ sym c.first-first.ensures) deltas tell running)

pub returns-in-All-clause-empties : goal.returns-in-All-clause-empties
returns-in-All-clause-empties g c = λ left0 left left' written0 reader p under tell running.
    let mined = c.in-Ok.ensures p.mined under.waits.follows in
    let deltas = waiting_deltas c.args.terms c.args.plan (pattern_of c.args.program.now) p c.args.waiting under c.in-Ok.mined mined in
    let writes = rw c.in-All.is at c.in_ok-standing.ensures.writes in
    let wrote = (rw c.deref.ensures.value at writes) left0 left left' written0 reader p (pattern_of c.args.program.now)
    (sym under.waits.first ∙ sym c.first-first.ensures) deltas tell running in (
      emptied c.args.terms c.args.plan (pattern_of c.args.program.now) p c.args.waiting under c.in-Ok.mined mined
          (record { window = c.into_next.result; shards = c.in-Ok.mined.shards; standing = c.in-All.standing })
          (c.into_next.ensures ∙ next_window c.args.terms c.args.plan (pattern_of c.args.program.now) p c.args.waiting under) refl wrote.0,
      wrote.1,
    )

pub returns-in-Full-clause-empties : goal.returns-in-Full-clause-empties
returns-in-Full-clause-empties g c = λ left0 left left' written0 reader p under tell running.
    let deltas = waiting_deltas c.args.terms c.args.plan (pattern_of c.args.program.now) p c.args.waiting under c.in-Ok.mined (c.in-Ok.ensures p.mined under.waits.follows) in
    let writes = rw c.in-Full.is at c.in_ok-standing.ensures.writes in (
      tt,
      full_at (let v = c.t.view_is in let e : c.t.inside.0 ≡ c.in-Full.t = omega (arith, v) in e)
          ((rw c.deref.ensures.value at writes) left0 left left' written0 reader p (pattern_of c.args.program.now)
          (sym under.waits.first ∙ sym c.first-first.ensures) deltas tell running),
    )
