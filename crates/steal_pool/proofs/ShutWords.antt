-- Each step on the word that says that the feed is shut keeps its rule.
use Rattle.std.proofs.Common.{◌≡◌, ◌≢◌, ℕ, zero, suc, true, false, true≢false, eqb, List, [], ◌∷◌, set, slice_index, refl, sym, subst, ◌∙◌, ⊎_elim, eqb-true}
use mathlib.Core.Option.{some, some-injective, some-ne-none}
use lib.ListN.{get_elem?}
use Rattle.crossbeam_utils.specs.Register.{Turns, Forks}
use Rattle.atomic_table.proofs.Lists.{at_set, at_snoc, set_again}
use Rattle.steal_pool.specs.declared.shut_word.Notice.{Notice}
use Rattle.steal_pool.specs.storage.ShutWord.{notice, Fits, IsToldRight}

pub opens : IsToldRight (0 ∷ []) (notice true false ∷ [])
opens = (0, only)
  where
    only : (seat : ℕ) (n : Notice) → get_elem? (notice true false ∷ []) seat ≡ some n → Fits 0 0 seat n
    only zero n at = subst (Fits 0 0 0) (some-injective _ n at) ((λ _. (refl, refl)), λ no'. absurd (true≢false (sym no')))
    only (suc seat) n at = absurd (some-ne-none n (sym at))

-- who may set the word sets it
pub sets : (seat : ℕ) (n : Notice) → n.sets ≡ true → Turns IsToldRight seat n (λ _. 1 ∷ []) (λ n before after m. m ≡ notice n.sets true)
sets seat n may words notices told at = let m = notice n.sets true in (
  m,
  (
    told.0,
    λ j u at'. ⊎_elim (λ (here : (j ≡ seat) × (m ≡ u)). subst (Fits 1 told.0 j) here.1 ((λ _. (here.0 ∙ ((told.1 seat n at).0 may).0, refl)), λ _. refl))
        (λ (there : (j ≢ seat) × (get_elem? notices j ≡ some u)).
        ((λ too. absurd (there.0 (((told.1 j u there.1).0 too).0 ∙ sym ((told.1 seat n at).0 may).0))), λ _. refl))
        (at_set notices seat j m u at'),
  ),
  refl,
)

-- any pass reads the word
pub reads : (seat : ℕ) (n : Notice)
    → Turns IsToldRight seat n (λ words. words) (λ n before after m. m ≡ notice n.sets (eqb (slice_index after 0) 1))
reads seat n words notices told at = let m = notice n.sets (eqb (slice_index words 0) 1) in (
  m,
  (
    told.0,
    λ j u at'. ⊎_elim (λ (here : (j ≡ seat) × (m ≡ u)).
        subst (Fits (slice_index words 0) told.0 j) here.1 ((λ may. (here.0 ∙ ((told.1 seat n at).0 may).0, refl)), λ set'. eqb-true (slice_index words 0) 1 set'))
        (λ (there : (j ≢ seat) × (get_elem? notices j ≡ some u)). told.1 j u there.1) (at_set notices seat j m u at'),
  ),
  refl,
)

-- a new pass may only read
pub forks : (seat : ℕ) (n : Notice) → Forks IsToldRight seat n n (notice false false)
forks seat n words notices told at = (
  told.0,
  λ j u at'. ⊎_elim (λ before. told.1 j u (subst (λ (l : List Notice). get_elem? l j ≡ some u) (set_again notices seat n at) before))
      (λ (new : notice false false ≡ u). subst (Fits (slice_index words 0) told.0 j) new ((λ no'. absurd (true≢false (sym no'))), λ no'. absurd (true≢false (sym no'))))
      (at_snoc (set notices seat n) (notice false false) u j at'),
)
