use Rattle.std.proofs.Common.{◌≤◌, drop, length, ap, sym, subst, ◌∙◌}
use Rattle.graph_types.proofs.Skipping.{count-below, drop-below}
use Rattle.graph_types.proofs.merge.skip_below.Goals as goal

pub split_at-requires : goal.split_at-requires
split_at-requires c = subst (λ n. n ≤ length c.args.vertices.now) (sym c.count_below.ensures) (count-below c.args.v c.args.vertices.now)

pub returns : goal.returns
returns c = c.split_at.ensures.back ∙ ap (λ n. drop n c.args.vertices.now) c.count_below.ensures ∙ drop-below c.args.v c.args.vertices.now
