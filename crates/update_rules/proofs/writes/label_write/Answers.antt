use Rattle.std.proofs.Common.{cond, None, Some, ap, ◌∙◌}
use Rattle.std.specs.Ordering.{eq_by_cmp}
use Rattle.update_rules.specs.meaning.Places.{place_cmp}
use Rattle.update_rules.proofs.Writing.{IsOverlaid-with_vertex, nothing_held}
use Rattle.update_rules.proofs.writes.label_write.Goals as goal

pub returns : goal.returns
returns c =
    IsOverlaid-with_vertex c.put.new.entries c.args.graph.now c.args.vertex c.args.label
    (λ p. c.in_ok-put.ensures p ∙ ap (cond (eq_by_cmp place_cmp p (c.args.vertex, None)) (Some (Some c.args.label))) (nothing_held c.new-entries.result c.new-entries.ensures.empty p))
