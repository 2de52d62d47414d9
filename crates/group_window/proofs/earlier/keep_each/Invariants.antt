use Rattle.std.proofs.Common.{◌||◌, IsTrue, is_some}
use Rattle.std.specs.BTreeMap.{get, is_at}
use Rattle.std.specs.Map.{lookup}
use Rattle.graph_types.specs.meaning.Graph.{Graph}
use Rattle.update_rules.specs.calls.Overlays.{IsOverlaid}
use Rattle.update_rules.specs.meaning.Places.{Place, place_cmp}
use Rattle.group_window.proofs.earlier.keep_each.Given as goal

abbrev pub invariant-loop-place : goal.invariant-loop-place
invariant-loop-place l = record {
  overlaid : (before : Graph) → IsOverlaid l.fn.earlier l.graph before → IsOverlaid l.earlier l.graph before;
  places : (p : Place) → IsTrue (is_some (get place_cmp l.entries p)) → IsTrue (is_some (get place_cmp l.earlier p) || is_some (lookup (is_at (place_cmp p)) l.place-iterator));
}
