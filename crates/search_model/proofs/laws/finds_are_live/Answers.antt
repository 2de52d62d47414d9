use Rattle.search_model.proofs.Live.{finds_are_live}
use Rattle.search_model.proofs.laws.finds_are_live.Goals as goal

pub returns : goal.returns
returns c = λ target before after piece kept. finds_are_live target kept before after piece
