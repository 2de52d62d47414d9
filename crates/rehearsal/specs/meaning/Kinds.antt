-- Kinds of events, each of which is about a shard or about a task.
use Rattle.std.specs.Prelude.{ℕ}
use Rattle.rehearsal.specs.declared.event.Event.{Event}
use Rattle.rehearsal.specs.declared.event.Event.TheVariants as event
use Rattle.rehearsal.specs.declared.listing.ShardKind.{ShardKind}
use Rattle.rehearsal.specs.declared.listing.ShardKind.TheVariants as shards
use Rattle.rehearsal.specs.declared.listing.TaskKind.{TaskKind}
use Rattle.rehearsal.specs.declared.listing.TaskKind.TheVariants as tasks

abbrev pub event_of_shard : ShardKind → ℕ → Event
event_of_shard shards.IngestPut s = event.IngestPut s
event_of_shard shards.IngestTake s = event.IngestTake s
event_of_shard shards.PrunePut s = event.PrunePut s
event_of_shard shards.PruneTake s = event.PruneTake s

abbrev pub event_of_task : TaskKind → ℕ → Event
event_of_task tasks.Begin t = event.Begin t
event_of_task tasks.Explore t = event.Explore t
event_of_task tasks.Finish t = event.Finish t
event_of_task tasks.SeeDone t = event.SeeDone t
