use Rattle.std.proofs.Common.{subst, sym}
use Rattle.group_window.specs.meaning.Windows.{StandsOn, WindowValue}
use Rattle.group_window.proofs.GroupsInOrder.{StandsOn-pushed}
use Rattle.group_window.proofs.window.Window.push_accepted.Goals as goal

pub returns-clause-stands : goal.returns-clause-stands
returns-clause-stands c =
    subst (λ (w : WindowValue). StandsOn w c.push_anywhere.new.graph) (sym c.in_ok-push_anywhere.ensures.ok) (StandsOn-pushed c.args.self.now c.args.self.now.current c.args.graph.now c.push_anywhere.new.graph)
