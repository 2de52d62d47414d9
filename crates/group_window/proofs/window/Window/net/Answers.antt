use Rattle.std.proofs.Common.{◌≡◌, ◌<◌, ◌+◌, length, subst, sym}
use Rattle.mining_model.specs.meaning.NetChange.{net_change}
use Rattle.group_window.specs.meaning.Windows.{WindowValue, graph_of}
use Rattle.group_window.proofs.GroupsInOrder.{told-at}
use Rattle.group_window.proofs.window.Window.net.Goals as goal

pub returns : goal.returns
returns c =
    let s = c.self.inside in
    subst (λ (w : WindowValue). c.index.result.now.difference.net ≡ net_change (graph_of w c.args.i) (graph_of w (c.args.i + 1))) c.self.view_is
    (told-at s.first s.shards s.groups.items s.current c.args.i c.index.result.now c.self.invariant (subst (λ (w : WindowValue). c.args.i < length w.later) (sym c.self.view_is) c.requires) c.index.ensures).net
