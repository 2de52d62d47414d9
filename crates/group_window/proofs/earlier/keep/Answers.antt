use Rattle.std.proofs.Common.{cond, Some, ap, ◌∙◌}
use Rattle.std.specs.BTreeMap.{get}
use Rattle.std.specs.Ordering.{eq_by_cmp}
use Rattle.update_rules.specs.meaning.Places.{place_cmp}
use Rattle.group_window.proofs.Keeping.{IsOverlaid-kept, kept_there, none_held}
use Rattle.group_window.proofs.earlier.keep.Goals as goal

pub returns-in_ok-insert-clause-overlaid : goal.returns-in_ok-insert-clause-overlaid
returns-in_ok-insert-clause-overlaid c = λ before overlaid.
    IsOverlaid-kept c.args.earlier.now c.insert.new.self c.args.graph.now before c.args.place
    (none_held _ _ c.contains_key-kept.ensures c.if-not-kept.true)
    (λ p. c.in_ok-insert.ensures.updates.0 p ∙ ap (λ o. cond (eq_by_cmp place_cmp c.args.place p) (Some o) (get place_cmp c.args.earlier.now p)) c.entry.ensures)
    overlaid

pub returns-in_ok-insert-clause-others : goal.returns-in_ok-insert-clause-others
returns-in_ok-insert-clause-others c = λ p has. kept_there (eq_by_cmp place_cmp c.args.place p) _ _ _ (c.in_ok-insert.ensures.updates.0 p) has
