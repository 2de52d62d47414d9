-- Numbers that ascend.
use Rattle.std.proofs.Common.{◌≡◌, ◌<◌, ℕ, true, nat_lt, List, [], ◌∷◌, ◌++◌, sym, subst, arith}
use Rattle.std.specs.List.{AllByRecursion, list_all}
use Rattle.std.specs.List.Sorted.{IsStrictlySortedBy}
use Rattle.std.specs.Ordering.{nat_cmp}
use Rattle.std.specs.declared.cmp.Ordering.TheVariants.{Less}
use Rattle.std.proofs.lemmas.Bool.{and_parts}
use Rattle.std.proofs.lemmas.Bool.Decides.{nat_tests}
use Rattle.shared_lemmas.proofs.Ascending.{IsStrictlySortedBy-append, sorted-none, sorted-one}

below-all : (v : ℕ) (ws : List ℕ) → list_all (λ w. nat_lt w v) ws ≡ true → AllByRecursion (λ w. AllByRecursion (λ u. nat_cmp w u ≡ Less) (v ∷ [])) ws
below-all v [] below = tt
below-all v (w ∷ ws) below =
    let parts = and_parts (nat_lt w v) (list_all (λ u. nat_lt u v) ws) below in
    let less : w < v = grind (arith, nat_tests, parts.0) in
    let before : nat_cmp w v ≡ Less = grind (arith, nat_tests) in
    ((before, tt), below-all v ws parts.1)

pub sorted-new : (ws : List ℕ) → ws ≡ [] → IsStrictlySortedBy nat_cmp ws
sorted-new ws none = subst (IsStrictlySortedBy nat_cmp) (sym none) (sorted-none nat_cmp)

-- one more, behind those that are all below it
pub sorted-push : (v : ℕ) (ws : List ℕ) → list_all (λ w. nat_lt w v) ws ≡ true → IsStrictlySortedBy nat_cmp ws → IsStrictlySortedBy nat_cmp (ws ++ v ∷ [])
sorted-push v ws below sorted = IsStrictlySortedBy-append nat_cmp ws (v ∷ []) sorted (sorted-one nat_cmp v) (below-all v ws below)
