use Rattle.mining_model.proofs.Listed.{IsEmbedding-listed, IsOfFirstAlone-listed, listed-IsEmbedding, listed-IsOfFirstAlone}
use Rattle.mining_model.proofs.laws.membership.Goals as goal

pub returns-clause-embedded : goal.returns-clause-embedded
returns-clause-embedded c = λ pattern g members. (IsEmbedding-listed pattern g members, listed-IsEmbedding pattern g members)

pub returns-clause-removed : goal.returns-clause-removed
returns-clause-removed c = λ pattern before now members. (IsOfFirstAlone-listed pattern before now members, listed-IsOfFirstAlone pattern before now members)

pub returns-clause-added : goal.returns-clause-added
returns-clause-added c = λ pattern before now members. (IsOfFirstAlone-listed pattern now before members, listed-IsOfFirstAlone pattern now before members)
