-- Finite maps by ids that differ at one id.
use Rattle.std.proofs.Common.{◌≡◌, ℕ, true, false, eqb, cond, refl, sym, ap, ◌∙◌, None, Some}
use Rattle.std.specs.Cmp.{nat_cmp_total}
use Rattle.std.specs.FinMap as map
use Rattle.std.specs.Ordering.{nat_cmp}
use Rattle.std.proofs.lemmas.Bool.{eqb-true}
use Rattle.shared_lemmas.proofs.Orderings.{nat-test}

module _ {X : Type 0} (m : map.FinMap nat_cmp X) (id : ℕ) where
  pub get-put : (x : X) (q : ℕ) → map.get (map.insert m id x) q ≡ cond (eqb q id) (Some x) (map.get m q)
  get-put x q = map.get-insert nat_cmp_total m id x q ∙ ap (λ b. cond b (Some x) (map.get m q)) (nat-test q id)

  pub get-taken : (q : ℕ) → map.get (map.remove m id) q ≡ cond (eqb q id) None (map.get m q)
  get-taken q = map.get-remove nat_cmp_total m id q ∙ ap (λ b. cond b None (map.get m q)) (nat-test q id)

  -- a map that tells so is the one with the id put
  pub put_in : (n : map.FinMap nat_cmp X) (x : X) → ((q : ℕ) → map.get n q ≡ cond (eqb q id) (Some x) (map.get m q)) → n ≡ map.insert m id x
  put_in n x is = map.same_map nat_cmp_total map.nat_cmp-IsAntisymmetric _ _ (λ q. is q ∙ sym (get-put x q))

  -- and so with the id taken out
  pub taken_out : (n : map.FinMap nat_cmp X) → ((q : ℕ) → map.get n q ≡ cond (eqb q id) None (map.get m q)) → n ≡ map.remove m id
  taken_out n is = map.same_map nat_cmp_total map.nat_cmp-IsAntisymmetric _ _ (λ q. is q ∙ sym (get-taken q))

  pub remove-absent : map.get m id ≡ None → map.remove m id ≡ m
  remove-absent none = sym (taken_out m (λ q. elim (eqb q id) as (λ b. eqb q id ≡ b → map.get m q ≡ cond b None (map.get m q)) [
    | true ↦ λ e. ap (map.get m) (eqb-true q id e) ∙ none
    | false ↦ λ _. refl
  ] refl))
