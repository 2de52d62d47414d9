use Rattle.std.proofs.Common.{◌||◌, IsTrue, is_some, subst}
use Rattle.std.specs.BTreeMap.{get, is_at}
use Rattle.std.specs.Map.{lookup}
use Rattle.update_rules.specs.meaning.Places.{place_cmp}
use Rattle.group_window.proofs.Keeping.{nothing_left, places-step}
use Rattle.group_window.proofs.earlier.keep_each.Goals as goal

pub returns-clause-places : goal.returns-clause-places
returns-clause-places c = λ p has.
    nothing_left (is_some (get place_cmp c.loop-place.earlier p))
    (subst (λ es. IsTrue (is_some (get place_cmp c.loop-place.earlier p) || is_some (lookup (is_at (place_cmp p)) es))) c.in-None.ensures.steps.0 (c.loop-place.invariant.places p has))

pub loop-place-preserved : goal.loop-place-preserved
loop-place-preserved c = record {
  overlaid = λ before overlaid. c.in_ok-keep.ensures.overlaid before (c.loop-place.invariant.overlaid before overlaid);
  places = λ p has.
      places-step c.loop-place.earlier c.keep.new.earlier (c.in-Some.place.now, c.in-Some.field-0-1.now) c.next.new.self c.in_ok-keep.ensures.others c.in_ok-keep.ensures.own p
      (subst (λ es. IsTrue (is_some (get place_cmp c.loop-place.earlier p) || is_some (lookup (is_at (place_cmp p)) es))) c.in-Some.ensures.steps (c.loop-place.invariant.places p has));
}
