use Rattle.record_text.proofs.Texts.{text_from-start}
use Rattle.record_text.proofs.laws.text_of_each_timestamp.Goals as goal

pub returns : goal.returns
returns c = text_from-start
