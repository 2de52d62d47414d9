use Rattle.tesseract.proofs.Turning.{Nexts-long, Nexts-many, ends_at, same_number}
use Rattle.tesseract.proofs.mine.advance.Goals as goal

pub returns-in-Ok-false-clause-advances : goal.returns-in-Ok-false-clause-advances
returns-in-Ok-false-clause-advances g c = λ stage at.
    ends_at stage c.args.reader.now c.next.new.self _ _ c.number.result c.end_of.result (c.end_of.ensures.ends stage at)
    (same_number c.in-Ok-false.field-0 c.args.reader.now.number c.next.new.self.number c.number.result c.in-Ok-false.field-0-test c.in-Ok-false.ensures.number c.number.ensures)
    (rw c.in-Ok-false.field-0-test at c.in-Ok-false.ensures.bytes)

pub returns-in-Err-TooLong-clause-advances : goal.returns-in-Err-TooLong-clause-advances
returns-in-Err-TooLong-clause-advances g c = λ stage at.
    Nexts-long stage c.args.reader.now c.next.new.self _ _ c.in-Err-TooLong.at
    (rw c.in-Err-TooLong.field-0-is at c.in-Err-TooLong.ensures.bytes)

pub returns-in-Err-TooMany-clause-advances : goal.returns-in-Err-TooMany-clause-advances
returns-in-Err-TooMany-clause-advances g c = λ stage at.
    Nexts-many stage c.args.reader.now c.next.new.self _ _ c.in-Err-TooMany.at
    (rw c.in-Err-TooMany.field-0-is at c.in-Err-TooMany.ensures.bytes)
