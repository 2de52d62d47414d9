-- Look-ups in finite maps of what is known of some keys.
use Rattle.std.proofs.Common.{◌≡◌, Bool, true, false, ◌||◌, cond, IsTrue, List, [], ◌∷◌, Option, None, Some, refl, sym, ap, ◌∙◌}
use Rattle.std.specs.Cmp.{IsTotalOrder}
use Rattle.std.specs.FinMap as map
use Rattle.std.specs.List.{cons_option, filter_map, list_any}
use Rattle.std.specs.Option.{is_some, option_map, option_or}
use Rattle.std.specs.Ordering.{eq_by_cmp}
use Rattle.std.specs.declared.cmp.Ordering.{Ordering}
use Rattle.shared_lemmas.proofs.Booleans.{none_from}
use Rattle.shared_lemmas.proofs.Orderings.{same_item}
use Rattle.shard_state.specs.meaning.KnownMaps.{map_of_known}

once_or_twice : {A : Type 0} (o : Option A) (again : Bool) → option_or o (cond again o None) ≡ o
once_or_twice None true = refl
once_or_twice None false = refl
once_or_twice (Some x) again = refl

module _ {K X : Type 0} (R : K → K → Ordering) where
  find-next : (w v : K) (o : Option X) (rest : List (K × X)) (b : Bool) → eq_by_cmp R w v ≡ b →
      map.find R w (cons_option (option_map (λ x. (v, x)) o) rest) ≡ cond b (option_or o (map.find R w rest)) (map.find R w rest)
  find-next w v None rest true e = refl
  find-next w v None rest false e = refl
  find-next w v (Some x) rest true e = ap (λ b. cond b (Some x) (map.find R w rest)) e
  find-next w v (Some x) rest false e = ap (λ b. cond b (Some x) (map.find R w rest)) e

  find-known : map.IsAntisymmetric R → (known : K → Option X) (w : K) (ks : List K) →
      map.find R w (filter_map (λ k. option_map (λ x. (k, x)) (known k)) ks) ≡ cond (list_any (eq_by_cmp R w) ks) (known w) None
  find-known exact known w [] = refl
  find-known exact known w (v ∷ vs) =
      let rest : List K → Option X = λ us. map.find R w (filter_map (λ k. option_map (λ x. (k, x)) (known k)) us) in
      find-next w v (known v) _ _ refl
      ∙ elim (eq_by_cmp R w v) as (λ b. eq_by_cmp R w v ≡ b → cond b (option_or (known v) (rest vs)) (rest vs) ≡ cond (b || list_any (eq_by_cmp R w) vs) (known w) None) [
        | true ↦ λ e. (λ i. option_or (known (sym (same_item exact w v e) i)) (find-known exact known w vs i)) ∙ once_or_twice (known w) (list_any (eq_by_cmp R w) vs)
        | false ↦ λ _. find-known exact known w vs
      ] refl

module _ {K X : Type 0} {R : K → K → Ordering} (total : IsTotalOrder R) (exact : map.IsAntisymmetric R) (known : K → Option X) (ks : List K) where
  -- where each key of which something is known is among the keys, a look-up gives what is known
  pub get-map_of_known : ((k : K) → IsTrue (is_some (known k)) → IsTrue (list_any (eq_by_cmp R k) ks)) → (k : K) → map.get (map_of_known R known ks) k ≡ known k
  get-map_of_known has k =
      map.get-from_entries total _ k
      ∙ find-known R exact known k ks
      ∙ elim (list_any (eq_by_cmp R k) ks) as (λ b. list_any (eq_by_cmp R k) ks ≡ b → cond b (known k) None ≡ known k) [
        | true ↦ λ _. refl
        | false ↦ λ absent. sym (none_from _ (elim (is_some (known k)) as (λ c. is_some (known k) ≡ c → c ≡ false) [
          | true ↦ λ some. sym (has k some) ∙ absent
          | false ↦ λ _. refl
        ] refl))
      ] refl
