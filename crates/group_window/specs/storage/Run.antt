-- What is kept of the updates of an open group.
use Rattle.std.specs.Prelude.{ℕ, Option}
use Rattle.std.specs.BTreeMap.{BTreeMap}
use Rattle.graph_types.specs.meaning.Graph.{Graph}
use Rattle.graph_types.specs.meaning.Simple.{IsSimple}
use Rattle.update_rules.specs.calls.Overlays.{IsOverlaid}
use Rattle.update_rules.specs.meaning.Places.{Place}

-- `earlier` has each entry of the graph before the updates that differs from what stands there now
pub record Remembers (earlier : BTreeMap Place (Option ℕ)) (before now : Graph) : Type 0 where
  pub simple : IsSimple before
  pub overlaid : IsOverlaid earlier now before
