use Rattle.std.proofs.Common.{◌≡◌, true, nat_lt, sym, subst}
use Rattle.std.specs.List.{list_all}
use Rattle.std.specs.List.Sorted.{IsStrictlySortedBy}
use Rattle.std.specs.Ordering.{nat_cmp}
use Rattle.shard_tables.proofs.Ascent.{sorted-push}
use Rattle.shard_tables.proofs.vertices.push_after.Goals as goal

pub returns : goal.returns
returns c =
    subst (IsStrictlySortedBy nat_cmp) (sym c.in_ok-push.ensures.ok)
    (sorted-push c.args.v c.args.vertices.now (subst (λ ws. list_all (λ w. nat_lt w c.args.v) ws ≡ true) c.as_slice.ensures (sym c.if-not-are_below.ensures)) c.requires)
