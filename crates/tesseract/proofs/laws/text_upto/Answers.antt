use Rattle.tesseract.proofs.Outputs.{output-upto}
use Rattle.tesseract.proofs.laws.text_upto.Goals as goal

pub returns : goal.returns
returns c = λ terms v pattern is. output-upto terms v pattern is
