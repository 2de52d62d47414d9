use Rattle.std.proofs.Common.{◌+◌, ap, ◌∙◌, arith}
use Rattle.rehearsal.specs.meaning.Kinds.{event_of_task}
use Rattle.rehearsal.proofs.Growing.{listed-next}
use Rattle.rehearsal.proofs.listing.TaskKind.add_all.Goals as goal

pub loop-group-preserved : goal.loop-group-preserved
loop-group-preserved c =
    listed-next (event_of_task c.args.self) (c.args.window.now.first + 1) c.loop-group.group (c.args.window.now.first + (c.loop-group.group + 1)) c.args.events.now c.loop-group.events c.push.new.self c.of.result
    (omega arith) (c.of.ensures ∙ ap (event_of_task c.args.self) c.stamp_after.ensures) c.loop-group.invariant c.in_ok-push.ensures.ok
