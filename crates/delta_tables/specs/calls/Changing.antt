-- A window whose one group changes a graph.
use Rattle.std.specs.Prelude.{◌≡◌, [], ◌∷◌, Option, None, Some}
use Rattle.graph_types.specs.meaning.Graph.{Graph}
use Rattle.group_window.specs.meaning.Windows.{RunValue, StandsOn, WindowValue, graph_before}

-- the updates of the open group led from one graph to another
abbrev pub LeadsFrom : Option (Option RunValue) → Graph → Graph → Type 0
LeadsFrom None before now = ⊥
LeadsFrom (Some run) before now = graph_before run now ≡ before

-- the window has no group but the open one, whose updates led from one graph to another
pub record IsChanging (w : WindowValue) (before now : Graph) : Type 0 where
  pub base : w.base ≡ None
  pub later : w.later ≡ []
  pub leads : LeadsFrom w.current before now
  pub stands : StandsOn w now

-- the window has one group, which led from one graph to another
pub record HasOneGroup (w : WindowValue) (before after : Graph) : Type 0 where
  pub base : w.base ≡ Some before
  pub later : w.later ≡ after ∷ []
