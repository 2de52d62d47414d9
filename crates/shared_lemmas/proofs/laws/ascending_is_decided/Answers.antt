use Rattle.shared_lemmas.proofs.Ascending.{is_ascending-is}
use Rattle.shared_lemmas.proofs.laws.ascending_is_decided.Goals as goal

pub returns : goal.returns
returns g c = is_ascending-is g.met.T.Ord.total
