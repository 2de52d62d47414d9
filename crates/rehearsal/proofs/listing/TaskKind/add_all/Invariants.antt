use Rattle.std.proofs.Common.{◌≡◌, ◌++◌, ◌+◌, map as mapped}
use Rattle.std.specs.List.{range_with_len}
use Rattle.rehearsal.specs.meaning.Kinds.{event_of_task}
use Rattle.rehearsal.proofs.listing.TaskKind.add_all.Given as goal

-- the events of the groups before this one are listed
abbrev pub invariant-loop-group : goal.invariant-loop-group
invariant-loop-group l = l.events ≡ l.initial.events ++ mapped (event_of_task l.self) (range_with_len (l.window.first + 1) l.group)
