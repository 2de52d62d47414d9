-- What is remembered of the graph before a group.
use Rattle.std.proofs.Common.{◌≡◌, ℕ, Option, sym, subst}
use Rattle.std.specs.BTreeMap.{BTreeMap}
use Rattle.graph_types.specs.meaning.Graph.{Graph}
use Rattle.update_rules.specs.calls.Overlays.{IsOverlaid}
use Rattle.group_window.specs.calls.Keeping.{HasPlaces}
use Rattle.update_rules.specs.meaning.Places.{Place}
use Rattle.group_window.specs.storage.Run.{Remembers}
use Rattle.group_window.proofs.Keeping.{IsOverlaid-next}

module _ (old new : BTreeMap Place (Option ℕ)) (before now g : Graph) (stands : g ≡ now) (was : Remembers old before now) (kept : (b : Graph) → IsOverlaid old g b → IsOverlaid new g b) where
  overlaid : IsOverlaid new g before
  overlaid = kept before (subst (λ a. IsOverlaid old a before) (sym stands) was.overlaid)

  -- some entries more are kept
  pub Remembers-kept : Remembers new before now
  Remembers-kept = record { simple = was.simple; overlaid = subst (λ a. IsOverlaid new a before) stands overlaid }

  -- and the graph goes on
  pub Remembers-next : (entries : BTreeMap Place (Option ℕ)) (next after : Graph) → IsOverlaid entries g next → HasPlaces new entries → after ≡ next → Remembers new before after
  Remembers-next entries next after changes places is = record {
    simple = was.simple;
    overlaid = subst (λ a. IsOverlaid new a before) (sym is) (IsOverlaid-next new entries before g next overlaid changes places);
  }
