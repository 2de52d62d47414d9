use Rattle.std.proofs.Common.{filter, ap, sym, subst, ◌∙◌}
use Rattle.std.specs.Option.{option_copied}
use Rattle.graph_types.specs.meaning.Neighbourhood.{leads_among}
use Rattle.graph_types.proofs.Skipping.{IsListing, ended, listed, passed}
use Rattle.graph_types.proofs.merge.list_among.Goals as goal

pub returns-in_default : goal.returns-in_default
returns-in_default c =
    ended _ _ _ _ c.loop-near.invariant _ _ _ c.in-Some.ensures.steps c.skip_below-rest.ensures
    (sym (ap option_copied c.in_default.is) ∙ c.first.ensures.value)

pub loop-near-preserved-in-Continue-1 : goal.loop-near-preserved-in-Continue-1
loop-near-preserved-in-Continue-1 c =
    subst (λ list. IsListing list c.next.new.self c.skip_below-rest.result.now (filter (leads_among c.args.among.now) c.args.merge)) (sym c.in_ok-push.ensures.ok)
    (listed _ _ _ _ c.loop-near.invariant _ _ _ c.in-Some.ensures.steps c.skip_below-rest.ensures
    _ c.in-Some-first.ensures.value (sym c.if-eq.ensures))

pub loop-near-preserved : goal.loop-near-preserved
loop-near-preserved c =
    passed _ _ _ _ c.loop-near.invariant _ _ _ c.in-Some.ensures.steps c.skip_below-rest.ensures
    _ c.in-Some-first.ensures.value (sym c.if-eq.ensures)
