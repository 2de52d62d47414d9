use Rattle.tesseract.proofs.Going.{Ended-sent, Ended-fails}
use Rattle.tesseract.proofs.Telling.{AppendsPrefix-all, WritesTold-front}
use Rattle.tesseract.proofs.mine.mine.Goals as goal

pub returns-in-Ok-send-clause-mined : goal.returns-in-Ok-send-clause-mined
returns-in-Ok-send-clause-mined g c =
    Ended-sent c.args.terms _ _ _ _ _ c.mine_lines.new.page c.in-Ok.status c.in-Ok.ensures.mined.0
    c.in-Ok-send.ensures.sent.all c.in-Ok.ensures.mined.1

pub returns-in-Err-send-clause-mined : goal.returns-in-Err-send-clause-mined
returns-in-Err-send-clause-mined g c =
    Ended-fails c.args.terms _ _ _ _ _ c.mine_lines.new.page c.in-Ok.status
    c.in-Err-send.ensures.sent.front c.in-Ok.ensures.mined.1

pub returns-in-Ok-send-clause-tells : goal.returns-in-Ok-send-clause-tells
returns-in-Ok-send-clause-tells g c =
    WritesTold-front c.args.terms _ _ _ _ c.requires.countable
    (Ended-fails c.args.terms _ _ _ _ _ c.mine_lines.new.page c.in-Ok.status
    (AppendsPrefix-all _ _ _ c.in-Ok-send.ensures.sent.all) c.in-Ok.ensures.mined.1)

pub returns-in-Err-send-clause-tells : goal.returns-in-Err-send-clause-tells
returns-in-Err-send-clause-tells g c =
    WritesTold-front c.args.terms _ _ _ _ c.requires.countable
    (Ended-fails c.args.terms _ _ _ _ _ c.mine_lines.new.page c.in-Ok.status
    c.in-Err-send.ensures.sent.front c.in-Ok.ensures.mined.1)

pub returns-in-Err-clause-tells : goal.returns-in-Err-clause-tells
returns-in-Err-clause-tells g c = WritesTold-front c.args.terms _ _ _ _ c.requires.countable c.in-Err.ensures.mined
