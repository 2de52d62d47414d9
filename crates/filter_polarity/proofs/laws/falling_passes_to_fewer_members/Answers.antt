use Rattle.filter_polarity.proofs.Smaller.{falling_passes_down}
use Rattle.filter_polarity.proofs.laws.falling_passes_to_fewer_members.Goals as goal

pub returns : goal.returns
returns c = λ kind cond g members some falls all within. falling_passes_down g members some within kind cond falls all
