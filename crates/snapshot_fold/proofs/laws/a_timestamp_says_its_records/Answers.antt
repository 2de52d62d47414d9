use Rattle.snapshot_fold.proofs.Telling.{step_text-says}
use Rattle.snapshot_fold.proofs.laws.a_timestamp_says_its_records.Goals as goal

pub returns : goal.returns
returns c = step_text-says
