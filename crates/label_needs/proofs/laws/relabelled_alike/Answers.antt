use Rattle.label_needs.proofs.Relabelling.{holds-alike}
use Rattle.label_needs.proofs.laws.relabelled_alike.Goals as goal

pub returns : goal.returns
returns c = λ cond g h free alike. holds-alike g h alike cond free
