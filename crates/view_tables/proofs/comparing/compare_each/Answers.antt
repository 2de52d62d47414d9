use Rattle.std.proofs.Common.{◌<◌, ◌≤◌, sym, subst, ◌∙◌, arith}
use Rattle.shard_state.specs.calls.Viewing.{CanBeViewed}
use Rattle.shard_state.specs.meaning.Telling.{graphs_of}
use Rattle.shard_state.proofs.TellingOn.{CanBeViewed-taken}
use Rattle.view_tables.proofs.comparing.compare_each.Goals as goal

pub stamp_after-at-requires : goal.stamp_after-at-requires
stamp_after-at-requires c = let within = c.requires.tell.within in omega (arith, within)

pub compare_at-requires : goal.compare_at-requires
compare_at-requires c =
    let w = c.args.history.now.window in
    let s = c.args.shards.now in
    let above : s.floor ≤ c.loop-group.group = omega arith in
    let below : c.loop-group.group < s.taken = omega arith in
    subst (λ shards. CanBeViewed shards c.stamp_after-at.result) (sym c.deref.ensures.value)
    (subst (CanBeViewed s.items.items) (sym c.stamp_after-at.ensures) (CanBeViewed-taken (graphs_of w) s.taken s.floor s.items.items c.requires.tell c.loop-group.group above below))
