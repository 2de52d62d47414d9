use Rattle.tesseract.proofs.Jobs.{fold_text-job}
use Rattle.tesseract.proofs.laws.records_tell_embeddings.Goals as goal

pub returns : goal.returns
returns c = λ terms lines pattern m t few is upto within. fold_text-job terms lines few pattern is m t upto within
