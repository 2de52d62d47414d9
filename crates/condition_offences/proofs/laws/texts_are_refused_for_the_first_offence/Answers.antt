use Rattle.condition_offences.proofs.Refusals.{reason-refused, refused-reason}
use Rattle.condition_offences.proofs.laws.texts_are_refused_for_the_first_offence.Goals as goal

pub returns : goal.returns
returns c text names kind = (refused-reason text names kind, reason-refused text names kind)
