use Rattle.std.proofs.Common.{sym, subst}
use Rattle.snapshot_fold.specs.declared.folding.FoldStop.TheVariants.{Refused}
use Rattle.snapshot_fold.specs.calls.Reading.{IsStopOf}
use Rattle.snapshot_fold.specs.meaning.Folding.{state_after_content}
use Rattle.snapshot_fold.specs.meaning.Taking.{IsRecordFault, state_after_record}
use Rattle.snapshot_fold.proofs.Judging.{refused_at}
use Rattle.record_migration.proofs.migrate.take_said.Goals as goal

pub returns-in-Err-Refused-clause-leads : goal.returns-in-Err-Refused-clause-leads
returns-in-Err-Refused-clause-leads g c =
    let n = c.args.number in
    let s = c.args.fold.now in (
      subst (λ o. IsStopOf (state_after_content n s o) (Refused n c.in-Err-Refused.why)) (sym c.in-Ok.ensures)
          (refused_at n (state_after_record s c.in-Ok.said) c.in-Err-Refused.why
          (subst (IsRecordFault (state_after_record s c.in-Ok.said)) c.in-Err-Refused.field-0-is c.in-Err-Refused.ensures.refused)),
      λ e. cc,
    )
