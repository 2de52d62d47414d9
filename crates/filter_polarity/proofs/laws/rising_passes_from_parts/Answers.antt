use Rattle.filter_polarity.proofs.Passing.{rising_passes}
use Rattle.filter_polarity.proofs.laws.rising_passes_from_parts.Goals as goal

pub returns : goal.returns
returns c = λ kind cond q members rises all. rising_passes kind q members all cond rises
