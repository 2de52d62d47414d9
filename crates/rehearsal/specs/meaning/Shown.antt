-- The machine of events that a rehearsed one shows: what it does is what the rule speaks of.
use Rattle.std.specs.Prelude.{ℕ, ◌+◌, Bool, cond, List, [], ◌∷◌, map as mapped, length, take, Option, None, Some}
use Rattle.std.specs.List.{list_any, range_with_len}
use Rattle.std.specs.Prelude.{eqb}
use Rattle.group_window.specs.meaning.Windows.{WindowValue}
use Rattle.shard_events.specs.meaning.Events.{Event as Move, Take, PutPart, PutPruned, Stamp, Begin, Finish, SeeDone, Raise, SeeFront}
use Rattle.shard_events.specs.meaning.Machine.{Actor, State, Ingest, Watch}
use Rattle.shard_events.specs.meaning.Machine.{Stage as TaskStage, Waiting as Waits, Live as Lives, Finished as IsDone}
use Rattle.rehearsal.specs.declared.event.Event.{Event}
use Rattle.rehearsal.specs.declared.event.Event.TheVariants as event
use Rattle.rehearsal.specs.meaning.MachineState.{MachineState, Stage, Waiting, Live, Explored, Finished}
use Rattle.rehearsal.specs.meaning.Table.{group_parts, holds}

-- who holds shard s
abbrev pub holder_of : MachineState → ℕ → Option Actor
holder_of m s = cond (holds m.ingest s) (Some Ingest) (cond (holds m.watch s) (Some Watch) None)

-- a task that is explored is still live
abbrev pub shown_stage : Stage → TaskStage
shown_stage Waiting = Waits
shown_stage Live = Lives
shown_stage Explored = Lives
shown_stage Finished = IsDone

-- shard s took in its part of the next group
abbrev pub took_in : WindowValue → MachineState → ℕ → Bool
took_in w m s = list_any (λ part. eqb part.shard s) (take m.parts (group_parts w m))

abbrev pub shown : WindowValue → MachineState → State
shown w m =
    let numbers = range_with_len 0 (length m.shards) in
    record {
      shards = m.shards;
      holders = mapped (holder_of m) numbers;
      puts = mapped (took_in w m) numbers;
      stamped = w.first + m.stamped;
      stages = mapped shown_stage m.stages;
      known = w.first + m.known;
      front = w.first + m.front;
      seen = w.first + m.seen;
    }

-- What an event does there. A task that explores takes each shard, reads it and puts it back as it was, so nothing is
-- left of it.
abbrev pub moves_of : WindowValue → MachineState → Event → List Move
moves_of w m (event.IngestPut s) = PutPart s ∷ []
moves_of w m (event.IngestTake s) = Take Ingest s ∷ []
moves_of w m event.Stamp = Stamp ∷ []
moves_of w m (event.Begin t) = Begin t ∷ []
moves_of w m (event.Explore t) = []
moves_of w m (event.Finish t) = Finish t ∷ []
moves_of w m (event.SeeDone t) = SeeDone ∷ []
moves_of w m event.Raise = Raise ∷ []
moves_of w m event.SeeFront = SeeFront ∷ []
moves_of w m (event.PrunePut s) = PutPruned s (w.first + m.seen) ∷ []
moves_of w m (event.PruneTake s) = Take Watch s ∷ []
