use Rattle.condition_offences.proofs.Refusals.{offences-same}
use Rattle.condition_offences.proofs.laws.first_offences_are_unique.Goals as goal

pub returns : goal.returns
returns c = offences-same
