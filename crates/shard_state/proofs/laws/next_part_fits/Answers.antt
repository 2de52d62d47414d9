use Rattle.shard_state.proofs.Told.{Fits-part}
use Rattle.shard_state.proofs.laws.next_part_fits.Goals as goal

pub returns : goal.returns
returns c = Fits-part
