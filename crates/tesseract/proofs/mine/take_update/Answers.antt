use Rattle.std.proofs.Common.{◌∙◌, subst, sym, ap, box_value}
use Rattle.std.proofs.lemmas.Result.{err_from_is_err_and}
use Rattle.cond_eval.specs.meaning.Patterns.{pattern_of}
use Rattle.tesseract.specs.calls.Progress.{Progress, all_mined}
use Rattle.tesseract.specs.calls.Turning.{WaitsUnder}
use Rattle.tesseract.proofs.Going.{Running-starved}
use Rattle.tesseract.proofs.Standing.{item_kept}
use Rattle.tesseract.proofs.Taking.{fault_ends, keeps_under, runs_next, stands_emptied, stands_more, under_program}
use Rattle.tesseract.proofs.Turning.{tell_bytes}
use Rattle.tesseract.proofs.mine.take_update.Goals as goal

pub end-requires-clause-waits : goal.end-requires-clause-waits
end-requires-clause-waits g c =
    let stands = c.requires.stands.2 in (
      c.requires.stands.0,
      subst (λ program. WaitsUnder c.args.terms c.args.plan (pattern_of program) c.requires.stands.0 c.args.waiting) (sym (c.deref.ensures ∙ ap box_value c.take.ensures.program))
          (under_program c.args.terms c.args.plan c.requires.stands.0 c.args.stream c.args.waiting stands.waits stands.lines_are),
    )

pub returns-in-Err-clause-runs : goal.returns-in-Err-clause-runs
returns-in-Err-clause-runs g c = λ left0 was is written0 old new p given most stands running.
    let ends = fault_ends c.args.terms c.args.number c.args.text.now c.args.stream.names c.take.new.self p old new was is c.in-Err.fault c.from.result
    given most running.counted c.from.ensures (c.in-Err.ensures.judged p.stage stands.waits.at) in
    c.end.ensures.runs left0 was is written0 old new p ends.0 ends.1
    (subst (λ program. WaitsUnder c.args.terms c.args.plan (pattern_of program) p c.args.waiting) (sym (c.deref.ensures ∙ ap box_value c.take.ensures.program))
    (under_program c.args.terms c.args.plan p c.args.stream c.args.waiting stands.waits stands.lines_are)) running

pub mine_waiting-requires-clause-waits : goal.mine_waiting-requires-clause-waits
mine_waiting-requires-clause-waits g c =
    let p = c.requires.stands.0 in
    let stands = c.requires.stands.2 in
    let next = item_kept c.args.terms c.args.plan p c.args.stream c.take.new.self c.args.waiting c.keep.new.self c.in-Ok.item c.keep.new.graph
    stands.waits c.take.ensures.graph c.take.ensures.program c.keep.ensures.sound c.in-Ok-Ended.ensures.keeps
    c.args.number c.args.text.now c.in-Ok.ensures.counted (c.in-Ok.ensures.judged p.stage stands.waits.at) in
    subst (λ program. (q : Progress) × WaitsUnder c.args.terms c.args.plan (pattern_of program) q c.keep.new.self) (sym c.deref-in-Ok-Ended.ensures)
    (keeps_under c.args.terms c.args.plan p c.take.new.self c.keep.new.self c.keep.new.graph c.args.number c.args.text.now next c.requires.stands.1 c.requires.counted)

pub returns-in_err-waiting-in-Ok-Ended-clause-runs : goal.returns-in_err-waiting-in-Ok-Ended-clause-runs
returns-in_err-waiting-in-Ok-Ended-clause-runs g c = λ left0 was is written0 old new p given most stands running.
    let e = err_from_is_err_and c.from_residual.result c.from_residual.ensures.1 in
    let next = item_kept c.args.terms c.args.plan p c.args.stream c.take.new.self c.args.waiting c.keep.new.self c.in-Ok.item c.keep.new.graph
    stands.waits c.take.ensures.graph c.take.ensures.program c.keep.ensures.sound c.in-Ok-Ended.ensures.keeps
    c.args.number c.args.text.now c.in-Ok.ensures.counted (c.in-Ok.ensures.judged p.stage stands.waits.at) in
    let on = runs_next c.args.terms c.args.plan p c.take.new.self c.keep.new.self c.keep.new.graph c.args.number c.args.text.now next
    left0 was is written0 _ _ old new given most c.requires.counted (pattern_of (box_value c.args.stream.program)) stands.waits.at.mines running in
    rw e.1 ((rw c.deref-in-Ok-Ended.ensures at c.in_err-waiting-in-Ok-Ended.ensures.empties) left0 is is written0 new next.reached_to on.under on.tell on.running)

pub returns-in-Err-keep-clause-runs : goal.returns-in-Err-keep-clause-runs
returns-in-Err-keep-clause-runs g c = λ left0 was is written0 old new p given most stands running.
    (tt, Running-starved c.args.terms left0 was is written0 _ _ old p (tell_bytes was is _ given.gives) running)

pub returns-in-Ok-More-clause-runs : goal.returns-in-Ok-More-clause-runs
returns-in-Ok-More-clause-runs g c = λ left0 was is written0 old new p given most stands running.
    let next = item_kept c.args.terms c.args.plan p c.args.stream c.take.new.self c.args.waiting c.keep.new.self c.in-Ok.item c.keep.new.graph
    stands.waits c.take.ensures.graph c.take.ensures.program c.keep.ensures.sound c.in-Ok-More.ensures.keeps
    c.args.number c.args.text.now c.in-Ok.ensures.counted (c.in-Ok.ensures.judged p.stage stands.waits.at) in
    let on = runs_next c.args.terms c.args.plan p c.take.new.self c.keep.new.self c.keep.new.graph c.args.number c.args.text.now next
    left0 was is written0 _ _ old new given most c.requires.counted (pattern_of (box_value c.args.stream.program)) stands.waits.at.mines running in (
      next.reached_to,
      on.running,
      stands_more c.args.terms c.args.plan p c.take.new.self c.keep.new.self c.keep.new.graph c.args.number c.args.text.now next
          left0 was is written0 _ _ old new given most c.requires.counted (pattern_of (box_value c.args.stream.program)) stands.waits.at.mines running
          (rw c.in-Ok-More.field-0-is at c.in-Ok-More.ensures.ends),
    )

pub returns-in-Nothing-clause-runs : goal.returns-in-Nothing-clause-runs
returns-in-Nothing-clause-runs g c = λ left0 was is written0 old new p given most stands running.
    let next = item_kept c.args.terms c.args.plan p c.args.stream c.take.new.self c.args.waiting c.keep.new.self c.in-Ok.item c.keep.new.graph
    stands.waits c.take.ensures.graph c.take.ensures.program c.keep.ensures.sound c.in-Ok-Ended.ensures.keeps
    c.args.number c.args.text.now c.in-Ok.ensures.counted (c.in-Ok.ensures.judged p.stage stands.waits.at) in
    let on = runs_next c.args.terms c.args.plan p c.take.new.self c.keep.new.self c.keep.new.graph c.args.number c.args.text.now next
    left0 was is written0 _ _ old new given most c.requires.counted (pattern_of (box_value c.args.stream.program)) stands.waits.at.mines running in
    let emptied = rw c.deref-in-Ok-Ended.ensures at ((rw c.in-Nothing.is at (rw c.deref-in-Ok-Ended.ensures at c.in_ok-waiting-in-Ok-Ended.ensures.empties)) left0 is is written0 new next.reached_to on.under on.tell on.running) in (
      all_mined (pattern_of (box_value c.take.new.self.program)) next.reached_to,
      emptied.1,
      stands_emptied c.args.terms c.args.plan p c.take.new.self c.keep.new.self c.keep.new.graph c.args.number c.args.text.now next
          left0 was is written0 _ _ old new given most c.requires.counted (pattern_of (box_value c.args.stream.program)) stands.waits.at.mines running
          c.in-Nothing.waiting c.requires.planned (rw c.in-Ok-Ended.field-0-is at c.in-Ok-Ended.ensures.ends) emptied.0,
    )

pub returns-in-End-clause-runs : goal.returns-in-End-clause-runs
returns-in-End-clause-runs g c = λ left0 was is written0 old new p given most stands running.
    let next = item_kept c.args.terms c.args.plan p c.args.stream c.take.new.self c.args.waiting c.keep.new.self c.in-Ok.item c.keep.new.graph
    stands.waits c.take.ensures.graph c.take.ensures.program c.keep.ensures.sound c.in-Ok-Ended.ensures.keeps
    c.args.number c.args.text.now c.in-Ok.ensures.counted (c.in-Ok.ensures.judged p.stage stands.waits.at) in
    let on = runs_next c.args.terms c.args.plan p c.take.new.self c.keep.new.self c.keep.new.graph c.args.number c.args.text.now next
    left0 was is written0 _ _ old new given most c.requires.counted (pattern_of (box_value c.args.stream.program)) stands.waits.at.mines running in
    (rw c.in-End.is at (rw c.deref-in-Ok-Ended.ensures at c.in_ok-waiting-in-Ok-Ended.ensures.empties)) left0 is is written0 new next.reached_to on.under on.tell on.running
