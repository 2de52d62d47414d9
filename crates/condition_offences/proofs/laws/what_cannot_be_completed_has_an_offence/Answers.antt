use Rattle.condition_offences.proofs.Refusals.{completable-none, offence-there}
use Rattle.condition_offences.proofs.laws.what_cannot_be_completed_has_an_offence.Goals as goal

pub returns : goal.returns
returns c tokens names = (offence-there tokens names, completable-none tokens names)
