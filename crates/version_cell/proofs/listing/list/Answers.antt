use Rattle.std.proofs.Common.{[], ◌∷◌, ◌++◌, sym, subst, ◌∙◌}
use Rattle.std.specs.FinMap as map
use Rattle.std.specs.Ordering.{nat_cmp}
use Rattle.version_cell.specs.storage.Around.{near_of_places}
use Rattle.version_cell.proofs.MergedLists.{IsListing, listing-init, listing-joined, listing-passed}
use Rattle.version_cell.proofs.listing.list.Goals as goal

pub loop-to-init : goal.loop-to-init
loop-to-init c =
    let whole = near_of_places (map.from_entries {R = nat_cmp} c.args.changes.now.entries) c.args.t (map.entries c.args.places.now) in
    let init = listing-init c.args.t c.args.changes.now.entries c.args.places.now c.of-later.ensures.ascending c.requires.have_places in
    subst (IsListing c.args.t whole c.in_ok-list.list c.of-later.result) (sym c.into_iter-to-iterator.ensures.into_iter_gives.0)
    (subst (λ later. IsListing c.args.t whole c.in_ok-list.list later (map.entries c.args.places.now)) (sym c.of-later.ensures.all)
    (subst (λ listed. IsListing c.args.t whole listed c.args.changes.now.entries (map.entries c.args.places.now)) (sym c.in_ok-list.ensures) init))

pub loop-to-preserved-in-Continue-branch-2 : goal.loop-to-preserved-in-Continue-branch-2
loop-to-preserved-in-Continue-branch-2 c =
    let whole = near_of_places (map.from_entries {R = nat_cmp} c.args.changes.now.entries) c.args.t (map.entries c.args.places.now) in
    let entry = subst (IsListing c.args.t whole c.loop-to.list c.loop-to.later) c.in-Some.ensures.steps c.loop-to.invariant in
    subst (λ listed. IsListing c.args.t whole listed c.near_around-near.new.self c.next.new.self) (sym c.in_ok-push.ensures.ok)
    (subst (λ later. IsListing c.args.t whole (c.loop-to.list ++ c.near_around-near.result ∷ []) later c.next.new.self) (sym c.near_around-near.ensures.left)
    (listing-joined c.args.t whole c.loop-to.list c.loop-to.later c.in-Some.to c.in-Some.at_floor.now c.next.new.self entry c.near_around-near.result c.near_around-near.ensures.near (sym c.is_joined.ensures ∙ c.if-is_joined.true)))

pub loop-to-preserved : goal.loop-to-preserved
loop-to-preserved c =
    let whole = near_of_places (map.from_entries {R = nat_cmp} c.args.changes.now.entries) c.args.t (map.entries c.args.places.now) in
    let entry = subst (IsListing c.args.t whole c.loop-to.list c.loop-to.later) c.in-Some.ensures.steps c.loop-to.invariant in
    subst (λ later. IsListing c.args.t whole c.loop-to.list later c.next.new.self) (sym c.near_around-near.ensures.left)
    (listing-passed c.args.t whole c.loop-to.list c.loop-to.later c.in-Some.to c.in-Some.at_floor.now c.next.new.self entry c.near_around-near.result c.near_around-near.ensures.near (sym c.is_joined.ensures ∙ c.if-is_joined.false))
