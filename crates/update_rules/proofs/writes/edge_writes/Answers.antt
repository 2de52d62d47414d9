use Rattle.std.proofs.Common.{cond, Some, ap, ◌∙◌}
use Rattle.std.specs.Ordering.{eq_by_cmp}
use Rattle.update_rules.specs.meaning.Places.{place_cmp}
use Rattle.update_rules.proofs.Writing.{IsOverlaid-with_edge, nothing_held}
use Rattle.update_rules.proofs.writes.edge_writes.Goals as goal

pub returns : goal.returns
returns c =
    IsOverlaid-with_edge c.put_both.new.entries c.args.graph.now c.args.from c.args.to c.args.label c.requires
    (λ p. c.in_ok-put_both.ensures p
    ∙ ap (λ o. cond (eq_by_cmp place_cmp p (c.args.to, Some c.args.from)) (Some (Some c.args.label)) (cond (eq_by_cmp place_cmp p (c.args.from, Some c.args.to)) (Some (Some c.args.label)) o))
    (nothing_held c.new-entries.result c.new-entries.ensures.empty p))
