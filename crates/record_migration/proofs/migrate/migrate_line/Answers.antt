use Rattle.std.proofs.Common.{sym, ◌∙◌}
use Rattle.std.proofs.lemmas.Bool.{and_parts}
use Rattle.std.proofs.lemmas.Result.{err_from_is_err_and}
use Rattle.snapshot_fold.proofs.Taken.{GivesNext-from, Takes-none}
use Rattle.record_migration.proofs.Turning.{HasMigrated-all, HasMigrated-fault, IsMigrating-sent, Turns-line, WritesMigrated-unsent, nothing_whole}
use Rattle.record_migration.proofs.migrate.migrate_line.Goals as goal

pub returns-in_err-send_before_wait-clause-turns : goal.returns-in_err-send_before_wait-clause-turns
returns-in_err-send_before_wait-clause-turns g c = λ left0 written0 goes.
    let p = err_from_is_err_and c.from_residual.result c.from_residual.ensures.1 in
    let front =
    WritesMigrated-unsent c.args.reader.now.most left0 _ written0 _ _ c.args.page.now c.args.reader.now c.args.fold.now goes
    c.in_err-send_before_wait.ensures.sent.front in
    rw p.1 front

pub returns-in-Err-clause-turns : goal.returns-in-Err-clause-turns
returns-in-Err-clause-turns g c = λ left0 written0 goes.
    let sent =
    IsMigrating-sent c.args.reader.now.most left0 _ written0 _ _ c.args.page.now c.args.reader.now c.args.fold.now goes
    c.send_before_wait.new.page c.in_ok-send_before_wait.ensures.sent in
    rw c.from.ensures
    (HasMigrated-fault left0 _ _ written0 _ c.send_before_wait.new.page c.args.reader.now c.next.new.self c.args.fold.now c.args.fold.now sent
    c.in-Err.fault c.in-Err.ensures.bytes)

pub returns-then-not-is_whole-clause-turns : goal.returns-then-not-is_whole-clause-turns
returns-then-not-is_whole-clause-turns g c = λ left0 written0 goes.
    let sent =
    IsMigrating-sent c.args.reader.now.most left0 _ written0 _ _ c.args.page.now c.args.reader.now c.args.fold.now goes
    c.send_before_wait.new.page c.in_ok-send_before_wait.ensures.sent in
    let next = c.in-Ok.ensures in
    let torn = sym c.is_whole.ensures ∙ c.if-not-is_whole.true in
    HasMigrated-all left0 _ _ written0 _ c.send_before_wait.new.page c.args.reader.now c.next.new.self c.args.fold.now c.args.fold.now sent
    (Takes-none c.args.reader.now c.next.new.self c.args.fold.now _ _ c.requires.whole c.in-Ok.given torn
    next.bytes next.line next.number next.live next.most next.bound)
    (nothing_whole _ _ c.args.reader.now c.next.new.self c.args.fold.now c.in-Ok.given c.requires.whole torn next.bytes)

pub returns-clause-turns : goal.returns-clause-turns
returns-clause-turns g c = λ left0 written0 goes.
    let sent =
    IsMigrating-sent c.args.reader.now.most left0 _ written0 _ _ c.args.page.now c.args.reader.now c.args.fold.now goes
    c.send_before_wait.new.page c.in_ok-send_before_wait.ensures.sent in
    let next = c.in-Ok.ensures in
    let both = and_parts c.in-Ok.given c.next.new.self.line.whole (sym c.is_whole.ensures ∙ c.if-not-is_whole.false) in
    let given =
    GivesNext-from c.args.reader.now c.next.new.self _ _ c.in-Ok.given both.0 next.bytes next.line next.number
    next.live next.most next.bound in
    Turns-line left0 _ _ written0 _ _ c.send_before_wait.new.page c.take_said.new.page c.args.reader.now c.next.new.self c.args.fold.now c.take_said.new.fold
    sent given both.1 c.number.result c.bytes.result.now c.number.ensures c.bytes.ensures
    c.take_said.result c.take_said.ensures.adds c.take_said.ensures.leads
