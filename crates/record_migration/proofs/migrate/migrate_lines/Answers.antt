use Rattle.std.proofs.Common.{Ok, refl, arith}
use Rattle.std.proofs.lemmas.Result.{err_from_is_err_and}
use Rattle.record_migration.specs.declared.migrate.Turn.TheVariants.{End}
use Rattle.record_migration.proofs.Turning.{HasMigrated-unbegun, IsMigrating-start, Turns-from, WritesMigrated-unbegun, number_bound}
use Rattle.record_migration.proofs.migrate.migrate_lines.Goals as goal

pub returns-in_err-write_head-clause-migrates : goal.returns-in_err-write_head-clause-migrates
returns-in_err-write_head-clause-migrates g c =
    let p = err_from_is_err_and c.from_residual.result c.from_residual.ensures.1 in
    let front = WritesMigrated-unbegun c.args.most_lines _ _ _ c.args.page.now c.requires.fresh c.in_err-write_head.ensures.text.front in
    rw p.1 front

pub returns-in_default-clause-migrates : goal.returns-in_default-clause-migrates
returns-in_default-clause-migrates g c =
    HasMigrated-unbegun c.args.most_lines _ _ _ c.args.page.now c.write_head.new.page c.requires.fresh c.in_ok-write_head.ensures.text

pub lines-init : goal.lines-init
lines-init g c = (
  IsMigrating-start c.args.most_lines _ _ _ c.args.page.now c.write_head.new.page c.in-Ok.reader c.new-fold.result
      c.requires.fresh c.new-fold.ensures c.in_ok-write_head.ensures.text
      c.in-Ok.ensures.line c.in-Ok.ensures.number c.in-Ok.ensures.most c.in-Ok.ensures.live c.in-Ok.ensures.held,
  omega arith,
  omega (arith, c.in_ok-write_head.ensures.cause.kept),
)

pub lines-smaller : goal.lines-smaller
lines-smaller g c =
    let counted = (rw c.in-More.is at c.in_ok-migrate_line.ensures.counts) refl in
    let bound =
    number_bound c.args.most_lines _ _ _ _ _ _ c.lines.page c.migrate_line.new.page c.lines.reader c.migrate_line.new.reader c.lines.fold c.migrate_line.new.fold
    c.lines.invariant.0 ((rw c.in-More.is at c.in_ok-migrate_line.ensures.turns) _ _) in
    omega (arith, counted, bound)

pub returns-in-End-clause-migrates : goal.returns-in-End-clause-migrates
returns-in-End-clause-migrates g c =
    Turns-from c.args.most_lines _ _ _ _ _ _ c.lines.page c.migrate_line.new.page c.lines.reader c.migrate_line.new.reader c.lines.fold c.migrate_line.new.fold
    (Ok (End c.in-End.end)) c.lines.invariant.0 ((rw c.in-End.is at c.in_ok-migrate_line.ensures.turns) _ _)
