use Rattle.std.proofs.Common.{sym, ap, subst}
use Rattle.group_window.specs.meaning.Windows.{IsSound, WindowValue}
use Rattle.group_window.specs.storage.Window.{IsKept}
use Rattle.group_window.proofs.GroupsInOrder.{IsSound-kept}
use Rattle.group_window.proofs.window.Window.sound.Goals as goal

pub returns : goal.returns
returns c =
    let s = c.self.inside in
    let w = c.args.self.now in
    let is = sym c.self.view_is in
    IsSound-kept w s.groups.items s.current (subst (λ (v : WindowValue). IsKept v.first v.shards s.groups.items s.current) c.self.view_is c.self.invariant) (ap (λ (v : WindowValue). v.base) is) (ap (λ (v : WindowValue). v.later) is)
