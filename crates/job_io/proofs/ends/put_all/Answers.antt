use Rattle.std.proofs.Common.{◌≡◌, length, inl, inr, refl, subst, arith, rules}
use Rattle.std.proofs.lemmas.List.{nil_from_length}
use Rattle.job_io.proofs.Gathering.{AppendsFront-kept, PassesOn-start, PassesOn-front, PassesOn-then, PassesOn-stops, Puts-front, WritesAll-stops}
use Rattle.job_io.specs.calls.WriteCalls.{Writes, none, more}
use Rattle.job_io.proofs.ends.put_all.Goals as goal

pub loop-rest-init : goal.loop-rest-init
loop-rest-init g c = record { passed = PassesOn-start _ _; calls = none; counted = omega arith }

pub returns-in_err-n-clause-written : goal.returns-in_err-n-clause-written
returns-in_err-n-clause-written g c = Puts-front _ c.from_residual.ensures.0
    (PassesOn-stops c.loop-rest.invariant.passed (AppendsFront-kept _ _ _ c.in_err-n.ensures.bytes))

pub returns-then-n-eq0-clause-written : goal.returns-then-n-eq0-clause-written
returns-then-n-eq0-clause-written g c = Puts-front _ refl
    (PassesOn-stops c.loop-rest.invariant.passed (record { len = _; written = c.in_ok-n.ensures.bytes }))

pub loop-rest-preserved : goal.loop-rest-preserved
loop-rest-preserved g c = record {
  passed = rw c.split_at.ensures.back (PassesOn-then c.loop-rest.invariant.passed
      (PassesOn-front _ _ _ _ c.in_ok-n.ensures.bytes));
  calls = rw c.split_at.ensures.back (more _ _ _ _ c.loop-rest.invariant.calls (search rules) c.in_ok-n.ensures.gives (omega arith));
  counted = omega (arith, c.in_ok-n.ensures.cause.kept);
}

pub returns-in_err-n-clause-calls : goal.returns-in_err-n-clause-calls
returns-in_err-n-clause-calls g c = WritesAll-stops _ c.from_residual.ensures.0 (record {
  mid = c.loop-rest.out;
  rest = c.loop-rest.rest.now;
  before = c.loop-rest.invariant.calls;
  some = search rules;
  last = inl c.in_err-n.ensures.gives;
})

pub returns-then-n-eq0-clause-calls : goal.returns-then-n-eq0-clause-calls
returns-then-n-eq0-clause-calls g c = record {
  mid = c.loop-rest.out;
  rest = c.loop-rest.rest.now;
  before = c.loop-rest.invariant.calls;
  some = search rules;
  last = inr (rw (← c.if-n-eq0.true) c.in_ok-n.ensures.gives);
}

pub returns-clause-calls : goal.returns-clause-calls
returns-clause-calls g c =
    let none_left : length c.loop-rest.rest.now ≡ 0 = search rules in
    subst (Writes g.O.Sink.write_gives c.args.out.now c.args.bytes.now c.loop-rest.out) (nil_from_length _ none_left) c.loop-rest.invariant.calls
