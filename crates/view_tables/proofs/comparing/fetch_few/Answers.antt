use Rattle.std.proofs.Common.{◌<◌, ◌+◌, ◌/◌, ℕ, [], ◌∷◌, sym, arith}
use Rattle.std.specs.Cmp.{nat_cmp_is}
use Rattle.std.specs.List.Sorted.{IsStrictlySortedBy}
use Rattle.std.specs.Ordering.{nat_cmp}
use Rattle.std.specs.declared.cmp.Ordering.TheVariants.{Less}
use Rattle.view_tables.proofs.comparing.fetch_few.Goals as goal

three-rise : (a b c : ℕ) → a < b → b < c → IsStrictlySortedBy nat_cmp (a ∷ b ∷ c ∷ [])
unfolding IsStrictlySortedBy
three-rise a b c low high =
    let both : a < c = omega arith in
    ((sym (nat_cmp_is a b Less low), (sym (nat_cmp_is a c Less both), tt)), ((sym (nat_cmp_is b c Less high), tt), (tt, tt)))

pub fetch_among-requires : goal.fetch_among-requires
fetch_among-requires g c = three-rise 0 (c.v.inside.0 / 2 + 1) (c.v.inside.0 / 2 + 3) (omega arith) (omega arith)
