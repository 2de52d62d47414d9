use Rattle.record_migration.proofs.Turning.{WritesMigrated-all, WritesMigrated-front}
use Rattle.record_migration.proofs.migrate.migrate_records.Goals as goal

pub returns-in-Ok-send-clause-writes : goal.returns-in-Ok-send-clause-writes
returns-in-Ok-send-clause-writes g c =
    WritesMigrated-all c.args.most_lines _ _ _ _ _ c.migrate_lines.new.page c.in-Ok.end c.in-Ok.ensures.migrates c.in-Ok-send.ensures.sent.all

pub returns-in-Err-send-clause-writes : goal.returns-in-Err-send-clause-writes
returns-in-Err-send-clause-writes g c =
    WritesMigrated-front c.args.most_lines _ _ _ _ _ c.migrate_lines.new.page c.in-Ok.end c.in-Ok.ensures.migrates c.in-Err-send.ensures.sent.front
