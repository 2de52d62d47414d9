use Rattle.filter_polarity.proofs.Passing.{falling_passes}
use Rattle.filter_polarity.proofs.laws.falling_passes_to_parts.Goals as goal

pub returns : goal.returns
returns c = λ kind cond q members falls all. falling_passes kind q members all cond falls
