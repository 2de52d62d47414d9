-- How many updates an open batch has after a line.
use Rattle.std.specs.Prelude.{ℕ, ◌+◌, nat_lt, Option, None, Some, Result, Ok, Err, if◌then◌else◌}
use Rattle.graph_types.specs.meaning.Graph.{Graph}
use Rattle.graph_types.specs.declared.refusal.Refusal.{Refusal}
use Rattle.mining_model.specs.meaning.Step.{step}
use Rattle.update_reader.specs.declared.Item.{Item}
use Rattle.update_reader.specs.declared.Item.TheVariants as item
use Rattle.job.specs.declared.fault.JobRefusal.{JobRefusal}
use Rattle.job.specs.declared.fault.JobRefusal.TheVariants as refusal
use Rattle.job.specs.meaning.Judging.{most_batch_updates}

-- the count with one update more, where one is counted and there is room
abbrev pub batch_with_update : ℕ → Option ℕ → Result (Option ℕ) JobRefusal
batch_with_update n None = Ok None
batch_with_update n (Some count) =
    if nat_lt count most_batch_updates then Ok (Some (count + 1)) else Err (refusal.Batch n)

-- that count, where the graph accepts the update
abbrev pub batch_if_accepted : ℕ → Result Graph Refusal → Result (Option ℕ) JobRefusal → Result (Option ℕ) JobRefusal
batch_if_accepted n stepped (Err why) = Err why
batch_if_accepted n (Ok after) (Ok batch) = Ok batch
batch_if_accepted n (Err why) (Ok batch) = Err (refusal.Update n why)

-- the count after line n, where it says this item, or why the item is refused
abbrev pub batch_after : ℕ → Graph → Option ℕ → Item → Result (Option ℕ) JobRefusal
batch_after n g batch item.Nothing = Ok batch
batch_after n g None item.Commit = Ok None
batch_after n g (Some count) item.Commit = Err (refusal.BadLine n)
batch_after n g None item.BatchBegin = Ok (Some 0)
batch_after n g (Some count) item.BatchBegin = Err (refusal.BadLine n)
batch_after n g None item.BatchEnd = Err (refusal.BadLine n)
batch_after n g (Some count) item.BatchEnd = Ok None
batch_after n g batch (item.Update u) = batch_if_accepted n (step g u) (batch_with_update n batch)
