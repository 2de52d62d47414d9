-- What is still to come of the neighbours of a vertex.
use Rattle.std.proofs.Common.{◌≡◌, ◌≢◌, ◌≤◌, ◌<◌, ℕ, Bool, true, false, nat_lt, cond, IsTrue, ◌∷◌, refl, sym, ap, subst, ◌∙◌, Option, None, Some, ◌||◌, min, arith}
use Rattle.std.specs.Cmp.{nat_cmp_total, tied_itself}
use Rattle.std.specs.FinMap as map
use Rattle.std.specs.Map.{keys_of}
use Rattle.std.specs.Option.{MatchOption, is_some}
use Rattle.std.specs.Ordering.{nat_cmp, eq_by_cmp, is_eq}
use Rattle.std.specs.declared.cmp.Ordering.TheVariants.{Less}
use Rattle.std.proofs.lemmas.Bool.{eqb-true, false≢true}
use Rattle.std.proofs.lemmas.Bool.Decides.{nat_tests}
use Rattle.std.proofs.lemmas.Map.Keys.{sorted_head, sorted_tail}
use Rattle.graph_types.specs.storage.Ahead.{IsLowest, IsLowestOf, NoneBelow, ahead, lower_of}
use Rattle.graph_types.specs.storage.Few.{IsAscending, Pairs}
use Rattle.graph_types.proofs.Rows.{find-below, nat-test}
use Rattle.shared_lemmas.proofs.Ascending.{all-below}
use Rattle.shared_lemmas.proofs.FiniteMaps.{contains_key-inserted}

abbrev labels : Pairs ℕ → map.FinMap nat_cmp ℕ
labels pairs = map.from_entries pairs

or-true : (a : Bool) → (a || true) ≡ true
or-true true = refl
or-true false = refl

-- a map is made again of its entries
pub from-entries : {X : Type 0} (m : map.FinMap nat_cmp X) → map.from_entries (map.entries m) ≡ m
from-entries m = map.same_map nat_cmp_total map.nat_cmp-IsAntisymmetric _ _ (λ q. map.get-from_entries nat_cmp_total _ q ∙ sym (map.get-entries m q))

none-before : (n : ℕ × ℕ) (rest : Pairs ℕ) → IsAscending (n ∷ rest) → (w : ℕ) → w < n.0 → map.get (labels (n ∷ rest)) w ≡ None
none-before n rest ascending w below =
    let less : nat_cmp w n.0 ≡ Less = grind (arith, nat_tests) in
    map.get-from_entries nat_cmp_total (n ∷ rest) w
    ∙ find-below nat_cmp w (n ∷ rest) (less, all-below nat_cmp_total w n.0 (keys_of rest) less (sorted_head nat_cmp _ _ ascending))

-- the first of an ascending list is the lowest
pub first-lowest : (n : ℕ × ℕ) (rest : Pairs ℕ) → IsAscending (n ∷ rest) → IsLowestOf (labels (n ∷ rest)) n.0
first-lowest n rest ascending = record {
  there = contains_key-inserted nat_cmp_total (labels rest) n.0 n.1;
  lowest = λ w has.
      elim (nat_lt w n.0) as (λ b. nat_lt w n.0 ≡ b → n.0 ≤ w) [
        | true ↦ λ e. absurd (false≢true (sym (ap is_some (none-before n rest ascending w (grind (arith, nat_tests)))) ∙ has))
        | false ↦ λ e. grind (arith, nat_tests)
      ] refl;
}

-- past the first of an ascending list stands all but it
pub rest-removed : (n : ℕ × ℕ) (rest : Pairs ℕ) → IsAscending (n ∷ rest) → labels rest ≡ map.remove (labels (n ∷ rest)) n.0
rest-removed n rest ascending =
    map.same_map nat_cmp_total map.nat_cmp-IsAntisymmetric _ _ (λ q.
    elim (eq_by_cmp nat_cmp q n.0) as (λ b. eq_by_cmp nat_cmp q n.0 ≡ b → map.get (labels rest) q ≡ cond b None (map.get (labels (n ∷ rest)) q)) [
      | true ↦ λ e.
          ap (map.get (labels rest)) (eqb-true q n.0 (sym (nat-test q n.0) ∙ e))
          ∙ map.get-from_entries nat_cmp_total rest n.0
          ∙ find-below nat_cmp n.0 rest (sorted_head nat_cmp _ _ ascending)
      | false ↦ λ e. ap (λ b. cond b (Some n.1) (map.get (labels rest) q)) (sym e) ∙ sym (map.get-insert nat_cmp_total (labels rest) n.0 n.1 q)
    ] refl
    ∙ sym (map.get-remove nat_cmp_total (labels (n ∷ rest)) n.0 q))

pub first-label : (n : ℕ × ℕ) (rest : Pairs ℕ) → Some n.1 ≡ map.get (labels (n ∷ rest)) n.0
first-label n rest =
    ap (λ r. cond (is_eq r) (Some n.1) (map.get (labels rest) n.0)) (sym (tied_itself nat_cmp_total n.0))
    ∙ sym (map.get-insert nat_cmp_total (labels rest) n.0 n.1 n.0)

-- where none is below v, and the first isn't v, v isn't there
pub others-absent : (n : ℕ × ℕ) (rest : Pairs ℕ) → IsAscending (n ∷ rest) → (v : ℕ) → NoneBelow v (labels (n ∷ rest)) → n.0 ≢ v → map.get (labels (n ∷ rest)) v ≡ None
others-absent n rest ascending v none apart =
    let least = none n.0 (first-lowest n rest ascending).there in
    none-before n rest ascending v (omega arith)

-- to take out what isn't there changes nothing
pub removed-absent : {X : Type 0} (m : map.FinMap nat_cmp X) (v : ℕ) → map.get m v ≡ None → m ≡ map.remove m v
removed-absent m v none =
    map.same_map nat_cmp_total map.nat_cmp-IsAntisymmetric _ _ (λ q.
    elim (eq_by_cmp nat_cmp q v) as (λ b. eq_by_cmp nat_cmp q v ≡ b → map.get m q ≡ cond b None (map.get m q)) [
      | true ↦ λ e. ap (map.get m) (eqb-true q v (sym (nat-test q v) ∙ e)) ∙ none
      | false ↦ λ _. refl
    ] refl
    ∙ sym (map.get-remove nat_cmp_total m v q))

-- what a cursor sees that stands at `first`
module _ (first : Option (ℕ × ℕ)) (rest : Pairs ℕ) (m : map.FinMap nat_cmp ℕ) (seen : labels (ahead first rest) ≡ m) where
  pub nothing-ahead : first ≡ None → m ≡ map.empty
  nothing-ahead none = sym seen ∙ ap (λ f. labels (ahead f rest)) none

  pub absent-ahead : first ≡ None → (v : ℕ) → map.get m v ≡ None
  absent-ahead none v = ap (λ k. map.get k v) (nothing-ahead none) ∙ map.get-empty nat_cmp v

  module _ (ascending : IsAscending (ahead first rest)) (n : ℕ × ℕ) (at : first ≡ Some n) where
    ascends : IsAscending (n ∷ rest)
    ascends = subst (λ f. IsAscending (ahead f rest)) at ascending

    sees : labels (n ∷ rest) ≡ m
    sees = ap (λ f. labels (ahead f rest)) (sym at) ∙ seen

    pub lowest-ahead : IsLowestOf m n.0
    lowest-ahead = subst (λ k. IsLowestOf k n.0) sees (first-lowest n rest ascends)

    pub other-ahead : (v : ℕ) → NoneBelow v m → n.0 ≢ v → map.get m v ≡ None
    other-ahead v none apart = ap (λ k. map.get k v) (sym sees) ∙ others-absent n rest ascends v (subst (NoneBelow v) (sym sees) none) apart

    pub label-ahead : (v : ℕ) → n.0 ≡ v → Some n.1 ≡ map.get m v
    label-ahead v is = first-label n rest ∙ (λ i. map.get (sees i) (is i))

    pub rest-ahead : (v : ℕ) → n.0 ≡ v → (next : Option (ℕ × ℕ)) (left : Pairs ℕ) → ahead next left ≡ rest → labels (ahead next left) ≡ map.remove m v
    rest-ahead v is next left stepped = ap labels stepped ∙ rest-removed n rest ascends ∙ (λ i. map.remove (sees i) (is i))

    pub ascending-ahead : (next : Option (ℕ × ℕ)) (left : Pairs ℕ) → ahead next left ≡ rest → IsAscending (ahead next left)
    ascending-ahead next left stepped = subst IsAscending (sym stepped) (sorted_tail nat_cmp _ _ ascends)

-- the lowest of two maps, from that of each
lowest-none : (m : map.FinMap nat_cmp ℕ) (v : ℕ) → m ≡ map.empty → NoneBelow v m
lowest-none m v nothing w has = absurd (false≢true (sym (ap is_some (map.get-empty nat_cmp w)) ∙ subst (λ k. IsTrue (map.contains_key k w)) nothing has))

lowest-first : (m n : map.FinMap nat_cmp ℕ) (x : ℕ) → IsLowestOf m x → NoneBelow x n → IsLowest m n x
lowest-first m n x low none = record { there = ap (λ b. b || map.contains_key n x) low.there; first = low.lowest; second = none }

lowest-second : (m n : map.FinMap nat_cmp ℕ) (x : ℕ) → NoneBelow x m → IsLowestOf n x → IsLowest m n x
lowest-second m n x none low = record { there = ap (λ b. map.contains_key m x || b) low.there ∙ or-true _; first = none; second = low.lowest }

lowest-both : (m n : map.FinMap nat_cmp ℕ) (x y : ℕ) → IsLowestOf m x → IsLowestOf n y → IsLowest m n (min x y)
lowest-both m n x y first second =
    elim (nat_lt y x) as (λ b. nat_lt y x ≡ b → IsLowest m n (min x y)) [
      | true ↦ λ e.
          let is : y ≡ min x y = grind (arith, nat_tests) in
          subst (IsLowest m n) is (lowest-second m n y (λ w has. let above = first.lowest w has in grind (arith, nat_tests)) second)
      | false ↦ λ e.
          let is : x ≡ min x y = grind (arith, nat_tests) in
          subst (IsLowest m n) is (lowest-first m n x first (λ w has. let above = second.lowest w has in grind (arith, nat_tests)))
    ] refl

-- the lowest of two maps is the lower of their lowest ones
lowest-lower : (m n : map.FinMap nat_cmp ℕ) (x y : Option ℕ) →
    MatchOption x (m ≡ map.empty) (IsLowestOf m) → MatchOption y (n ≡ map.empty) (IsLowestOf n) →
    MatchOption (lower_of x y) ((m ≡ map.empty) × (n ≡ map.empty)) (IsLowest m n)
lowest-lower m n None None first second = (first, second)
lowest-lower m n None (Some y) first second = lowest-second m n y (lowest-none m y first) second
lowest-lower m n (Some x) None first second = lowest-first m n x first (lowest-none n x second)
lowest-lower m n (Some x) (Some y) first second = lowest-both m n x y first second

module _ (m n : map.FinMap nat_cmp ℕ) (x y : Option ℕ) (first : MatchOption x (m ≡ map.empty) (IsLowestOf m)) (second : MatchOption y (n ≡ map.empty) (IsLowestOf n)) where
  pub lowest-at : (v : ℕ) → Some v ≡ lower_of x y → IsLowest m n v
  lowest-at v is = subst (λ o. MatchOption o ((m ≡ map.empty) × (n ≡ map.empty)) (IsLowest m n)) (sym is) (lowest-lower m n x y first second)

  pub nothing-at : None ≡ lower_of x y → (m ≡ map.empty) × (n ≡ map.empty)
  nothing-at is = subst (λ o. MatchOption o ((m ≡ map.empty) × (n ≡ map.empty)) (IsLowest m n)) (sym is) (lowest-lower m n x y first second)
