use Rattle.std.proofs.Common.{◌≡◌, ◌≤◌, length, sym, subst, arith}
use Rattle.std.proofs.lemmas.List.{with_items_is}
use Rattle.shard_state.specs.calls.Sharing.{TellGroups}
use Rattle.shard_state.proofs.TellingOn.{TellGroups-pruned}
use Rattle.view_tables.proofs.shards.Shards.prune.Goals as goal

pub stamp_after-requires : goal.stamp_after-requires
stamp_after-requires c = let within = c.requires.tell.within in omega (arith, within)

pub returns : goal.returns
returns c =
    let s = c.args.self.now in
    let w = c.args.window.now in
    let new = c.prune_all.new.shards in
    let f = c.max-self.result in
    let above : s.floor ≤ f = omega arith in
    let within : f ≤ s.taken = let earlier = c.requires.tell.earlier in omega (arith, earlier) in
    let same : length new ≡ s.items.len = first_of (cc, omega arith) in
    let is = with_items_is s.items new same in
    subst (TellGroups w s.taken f) (sym is)
    (TellGroups-pruned w s.taken s.floor f c.stamp_after.result s.items.items c.deref_mut.result.now new c.requires above within c.stamp_after.ensures c.deref_mut.ensures.value c.prune_all.ensures)
