use Rattle.tesseract.proofs.Turning.{refused-read}
use Rattle.tesseract.proofs.mine.end_of.Goals as goal

pub returns-in-Some-clause-read : goal.returns-in-Some-clause-read
returns-in-Some-clause-read c = λ e. refused-read c.in-Some.why (rw c.from.ensures at e)
