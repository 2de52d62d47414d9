use Rattle.shard_events.proofs.Beginning.{Rule-begun}
use Rattle.shard_events.proofs.EachEvent.{Rule-after}
use Rattle.shard_events.proofs.Reading.{pair-fetched}
use Rattle.shard_events.proofs.laws.every_schedule_reads_the_graphs_of_its_task.Goals as goal

pub returns-clause-ruled : goal.returns-clause-ruled
returns-clause-ruled c = λ graphs first last events begins lead. Rule-after graphs first (Rule-begun graphs first begins) events last lead

pub returns-clause-read : goal.returns-clause-read
returns-clause-read c = λ graphs first mid next events t v begins lead fetch. pair-fetched graphs mid next t v (Rule-after graphs first (Rule-begun graphs first begins) events mid lead) fetch
