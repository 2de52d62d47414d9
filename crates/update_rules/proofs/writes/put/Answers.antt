use Rattle.std.proofs.Common.{cond, Some, ap, ◌∙◌}
use Rattle.std.specs.BTreeMap.{get}
use Rattle.std.specs.Cmp.{eq_by_cmp_equiv}
use Rattle.update_rules.specs.meaning.Places.{place_cmp}
use Rattle.update_rules.proofs.Places.{place_cmp_total}
use Rattle.update_rules.proofs.writes.put.Goals as goal

pub returns : goal.returns
returns c = λ p.
    c.in_ok-insert.ensures.updates.0 p
    ∙ ap (λ b. cond b (Some c.args.label.now) (get place_cmp c.args.entries.now p)) ((eq_by_cmp_equiv place_cmp_total).symm c.args.place p)
