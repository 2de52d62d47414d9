-- What an update leaves at the entries of a graph.
use Rattle.std.proofs.Common.{◌≡◌, ◌≢◌, ◌<◌, ◌≤◌, ◌⊎◌, ℕ, Bool, true, false, not, ◌&&◌, ◌||◌, cond, if◌then◌else◌, eqb, IsTrue, List, [], ◌∷◌, Option, None, Some, min, max, unwrap_or, eq-eqb, refl, sym, ap, subst, ◌∙◌, ⊎_elim, arith}
use Rattle.std.specs.BTreeMap.{BTreeMap, get, is_at}
use Rattle.std.specs.Map.{lookup}
use Rattle.std.specs.Cmp.{nat_cmp_total}
use Rattle.std.specs.FinMap as finite
use Rattle.std.specs.List.{list_any}
use Rattle.std.specs.Option.{is_some}
use Rattle.std.specs.Ordering.{eq_by_cmp, is_eq, nat_cmp, ordering_then}
use Rattle.std.specs.declared.cmp.Ordering.{Ordering}
use Rattle.std.specs.declared.cmp.Ordering.TheVariants.{Less, Equal, Greater}
use Rattle.std.proofs.lemmas.Bool.{false≢true, eqb-true, cases_eq, cases_lt, or_from, and_from, and_parts}
use Rattle.std.proofs.lemmas.Bool.Decides.{nat_tests}
use Rattle.graph_types.specs.meaning.Graph.{Graph, edge_between, label_between, pair_cmp, with_vertex, with_edge, without_edge, without_vertex, has_edge, is_joined, neighbours, ends_at}
use Rattle.graph_types.specs.meaning.Simple.{IsSimple}
use Rattle.graph_types.specs.meaning.Orders.{pair_cmp_total}
use Rattle.graph_types.proofs.Graph.{pair_cmp-IsAntisymmetric}
use Rattle.graph_types.proofs.Rows.{nat-test, pair-test}
use Rattle.shared_lemmas.proofs.FiniteMaps.{IsIn-keys, get-kept}
use Rattle.shared_lemmas.proofs.Membership.{IsIn-filter, list_any_at}
use Rattle.update_rules.proofs.Differing.{end_second}
use Rattle.update_rules.specs.calls.Overlays.{IsOverlaid}
use Rattle.update_rules.specs.meaning.Places.{Place, place_cmp, label_at}

-- places that tie

abbrev pub same_place : Place → Place → Bool
same_place = eq_by_cmp place_cmp

label-test : (a v : ℕ) → same_place (a, None) (v, None) ≡ eqb a v
label-test a v = tie (nat_cmp a v) ∙ nat-test a v
  where
    tie : (r : Ordering) → is_eq (ordering_then r Equal) ≡ is_eq r
    tie Less = refl
    tie Equal = refl
    tie Greater = refl

label_near : (a v w : ℕ) → same_place (a, None) (v, Some w) ≡ false
label_near a v w = apart (nat_cmp a v)
  where
    apart : (r : Ordering) → is_eq (ordering_then r Less) ≡ false
    apart Less = refl
    apart Equal = refl
    apart Greater = refl

near_label : (a b v : ℕ) → same_place (a, Some b) (v, None) ≡ false
near_label a b v = apart (nat_cmp a v)
  where
    apart : (r : Ordering) → is_eq (ordering_then r Greater) ≡ false
    apart Less = refl
    apart Equal = refl
    apart Greater = refl

near-test : (a b v w : ℕ) → same_place (a, Some b) (v, Some w) ≡ (eqb a v && eqb b w)
near-test a b v w = pair-test (a, b) (v, w)

put_over : {X : Type 0} (b : Bool) (o x : X) → unwrap_or (cond b (Some o) None) x ≡ cond b o x
put_over true o x = refl
put_over false o x = refl

module _ (m : BTreeMap Place (Option ℕ)) (g h : Graph) where
  -- one label is put
  pub IsOverlaid-label : (v : ℕ) (o : Option ℕ) → ((q : ℕ) → finite.get h.labels q ≡ cond (eq_by_cmp nat_cmp q v) o (finite.get g.labels q)) → h.edges ≡ g.edges
      → ((p : Place) → get place_cmp m p ≡ cond (same_place p (v, None)) (Some o) None) → IsOverlaid m g h
  IsOverlaid-label v o labels edges is = λ p. at p.0 p.1
    where
      at : (a : ℕ) (to : Option ℕ) → label_at h a to ≡ unwrap_or (get place_cmp m (a, to)) (label_at g a to)
      at a None =
          labels a
          ∙ ap (λ b. cond b o (finite.get g.labels a)) (nat-test a v ∙ sym (label-test a v))
          ∙ sym (put_over (same_place (a, None) (v, None)) o (finite.get g.labels a))
          ∙ ap (λ x. unwrap_or x (finite.get g.labels a)) (sym (is (a, None)))
      at a (Some b) =
          ap (λ es. cond (eqb a b) None (finite.get es (edge_between a b))) edges
          ∙ ap (λ x. unwrap_or x (label_between g a b)) (sym (is (a, Some b) ∙ ap (λ t. cond t (Some o) None) (near_label a b v)))

  -- one edge is put, or taken
  pub IsOverlaid-edge : (x y : ℕ) (o : Option ℕ) → x ≢ y → h.labels ≡ g.labels → ((f : ℕ × ℕ) → finite.get h.edges f ≡ cond (eq_by_cmp pair_cmp f (edge_between x y)) o (finite.get g.edges f))
      → ((p : Place) → get place_cmp m p ≡ cond (same_place p (y, Some x)) (Some o) (cond (same_place p (x, Some y)) (Some o) None)) → IsOverlaid m g h
  IsOverlaid-edge x y o apart labels edges is = λ p. at p.0 p.1
    where
      ends-test : (a b : ℕ) → a ≢ b → eq_by_cmp pair_cmp (edge_between a b) (edge_between x y) ≡ ((eqb a y && eqb b x) || (eqb a x && eqb b y))
      ends-test a b ne = pair-test (edge_between a b) (edge_between x y) ∙ sides (cases_lt a b) (cases_lt x y)
        where
          sides : (a < b) ⊎ (b ≤ a) → (x < y) ⊎ (y ≤ x) → (eqb (min a b) (min x y) && eqb (max a b) (max x y)) ≡ ((eqb a y && eqb b x) || (eqb a x && eqb b y))
          sides first second = grind (arith, nat_tests)

      both : (s t : Bool) (w : Option ℕ) → cond (s || t) o w ≡ unwrap_or (cond s (Some o) (cond t (Some o) None)) w
      both true t w = refl
      both false true w = refl
      both false false w = refl

      neither : (a : ℕ) → unwrap_or (cond (eqb a y && eqb a x) (Some o) (cond (eqb a x && eqb a y) (Some o) None)) None ≡ None
      neither a =
          let first : (eqb a y && eqb a x) ≡ false = grind (arith, nat_tests) in
          let second : (eqb a x && eqb a y) ≡ false = grind (arith, nat_tests) in
          λ i. unwrap_or (cond (first i) (Some o) (cond (second i) (Some o) None)) None

      found : (a b : ℕ) → get place_cmp m (a, Some b) ≡ cond (eqb a y && eqb b x) (Some o) (cond (eqb a x && eqb b y) (Some o) None)
      found a b = is (a, Some b) ∙ (λ i. cond (near-test a b y x i) (Some o) (cond (near-test a b x y i) (Some o) None))

      at : (a : ℕ) (to : Option ℕ) → label_at h a to ≡ unwrap_or (get place_cmp m (a, to)) (label_at g a to)
      at a None =
          ap (λ ls. finite.get ls a) labels
          ∙ ap (λ u. unwrap_or u (finite.get g.labels a)) (sym (is (a, None) ∙ (λ i. cond (label_near a y x i) (Some o) (cond (label_near a x y i) (Some o) None))))
      at a (Some b) = ⊎_elim
          (λ e. let tied : eqb a b ≡ true = grind (arith, nat_tests) in
          ap (λ t. cond t None (finite.get h.edges (edge_between a b))) tied
          ∙ sym (neither a)
          ∙ (λ i. unwrap_or (cond (eqb a y && eqb (e i) x) (Some o) (cond (eqb a x && eqb (e i) y) (Some o) None)) None)
          ∙ (λ i. unwrap_or (sym (found a b) i) (cond (sym tied i) None (finite.get g.edges (edge_between a b)))))
          (λ ne. let differ : eqb a b ≡ false = grind (arith, nat_tests) in
          ap (λ t. cond t None (finite.get h.edges (edge_between a b))) differ
          ∙ edges (edge_between a b)
          ∙ ap (λ t. cond t o (finite.get g.edges (edge_between a b))) (ends-test a b ne)
          ∙ both (eqb a y && eqb b x) (eqb a x && eqb b y) (finite.get g.edges (edge_between a b))
          ∙ (λ i. unwrap_or (sym (found a b) i) (cond (sym differ i) None (finite.get g.edges (edge_between a b)))))
          (cases_eq a b)

pub nothing_held : (m : BTreeMap Place (Option ℕ)) → m.entries ≡ [] → (p : Place) → get place_cmp m p ≡ None
nothing_held m none p = ap (lookup (is_at (place_cmp p))) none

pub IsOverlaid-with_vertex : (m : BTreeMap Place (Option ℕ)) (g : Graph) (v l : ℕ) → ((p : Place) → get place_cmp m p ≡ cond (same_place p (v, None)) (Some (Some l)) None) → IsOverlaid m g (with_vertex g v l)
IsOverlaid-with_vertex m g v l is = IsOverlaid-label m g (with_vertex g v l) v (Some l) (finite.get-insert nat_cmp_total g.labels v l) refl is

pub IsOverlaid-with_edge : (m : BTreeMap Place (Option ℕ)) (g : Graph) (x y l : ℕ) → x ≢ y
    → ((p : Place) → get place_cmp m p ≡ cond (same_place p (y, Some x)) (Some (Some l)) (cond (same_place p (x, Some y)) (Some (Some l)) None)) → IsOverlaid m g (with_edge g (edge_between x y) l)
IsOverlaid-with_edge m g x y l apart is = IsOverlaid-edge m g (with_edge g (edge_between x y) l) x y (Some l) apart refl (finite.get-insert pair_cmp_total g.edges (edge_between x y) l) is

pub IsOverlaid-without_edge : (m : BTreeMap Place (Option ℕ)) (g : Graph) (x y : ℕ) → x ≢ y
    → ((p : Place) → get place_cmp m p ≡ cond (same_place p (y, Some x)) (Some None) (cond (same_place p (x, Some y)) (Some None) None)) → IsOverlaid m g (without_edge g (edge_between x y))
IsOverlaid-without_edge m g x y apart is = IsOverlaid-edge m g (without_edge g (edge_between x y)) x y None apart refl (finite.get-remove pair_cmp_total g.edges (edge_between x y)) is

-- to take a vertex out with its edges

-- what has been put at both ends of edges from v, one after the other
abbrev pub put_each : ℕ → (Place → Option (Option ℕ)) → List ℕ → Place → Option (Option ℕ)
put_each v f [] p = f p
put_each v f (w ∷ ws) p = put_each v (λ q. if same_place q (w, Some v) then Some None else (if same_place q (v, Some w) then Some None else f q)) ws p

abbrev pub put_at : ℕ → List ℕ → Place → Bool
put_at v [] p = false
put_at v (w ∷ ws) p = put_at v ws p || (same_place p (w, Some v) || same_place p (v, Some w))

pub put_each-is : (v : ℕ) (f : Place → Option (Option ℕ)) (ws : List ℕ) (p : Place) → put_each v f ws p ≡ cond (put_at v ws p) (Some None) (f p)
put_each-is v f [] p = refl
put_each-is v f (w ∷ ws) p = put_each-is v (λ q. if same_place q (w, Some v) then Some None else (if same_place q (v, Some w) then Some None else f q)) ws p ∙ chosen (put_at v ws p) (same_place p (w, Some v)) (same_place p (v, Some w)) (f p)
  where
    chosen : (a b c : Bool) (o : Option (Option ℕ)) → cond a (Some None) (if b then Some None else (if c then Some None else o)) ≡ cond (a || (b || c)) (Some None) o
    chosen true b c o = refl
    chosen false true c o = refl
    chosen false false true o = refl
    chosen false false false o = refl

not_at_label : (v : ℕ) (ws : List ℕ) (a : ℕ) → put_at v ws (a, None) ≡ false
not_at_label v [] a = refl
not_at_label v (w ∷ ws) a = or_from _ _ (not_at_label v ws a) (or_from _ _ (label_near a w v) (label_near a v w))

put_at-near : (v : ℕ) (ws : List ℕ) (a b : ℕ) → put_at v ws (a, Some b) ≡ ((eqb b v && list_any (eqb a) ws) || (eqb a v && list_any (eqb b) ws))
put_at-near v [] a b = none (eqb b v) (eqb a v)
  where
    none : (s t : Bool) → false ≡ ((s && false) || (t && false))
    none true true = refl
    none true false = refl
    none false true = refl
    none false false = refl
put_at-near v (w ∷ ws) a b =
    (λ i. put_at-near v ws a b i || (near-test a b w v i || near-test a b v w i))
    ∙ joined (eqb b v) (eqb a v) (list_any (eqb a) ws) (list_any (eqb b) ws) (eqb a w) (eqb b w)
  where
    joined : (s t c d x y : Bool) → (((s && c) || (t && d)) || ((x && s) || (t && y))) ≡ ((s && (x || c)) || (t && (y || d)))
    joined true true true d x true = grind arith
    joined true true true d x false = grind arith
    joined true true false d true y = grind arith
    joined true true false d false y = grind arith
    joined true false c d x y = grind arith
    joined false true c d x y = grind arith
    joined false false c d true y = refl
    joined false false c d false y = refl

-- without the vertex, its edges are gone and the others stay
module _ (m : BTreeMap Place (Option ℕ)) (g : Graph) (v : ℕ) (simple : IsSimple g) where
  turned : (x y : ℕ) → edge_between x y ≡ edge_between y x
  turned x y = let low : min x y ≡ min y x = omega arith in let high : max x y ≡ max y x = omega arith in λ i. (low i, high i)

  is_near : (w : ℕ) → IsTrue (is_joined g v w) → IsTrue (list_any (eqb w) (neighbours g v))
  is_near w j =
      list_any_at (eqb w) w (neighbours g v)
      (IsIn-filter (is_joined g v) w (finite.keys g.labels) (IsIn-keys nat_cmp_total g.labels finite.nat_cmp-IsAntisymmetric w (end_second g v w (simple.ends (edge_between v w) (and_parts (not (eqb v w)) _ j).1))) j)
      (eq-eqb w w refl)

  ends-test : (a b : ℕ) → ends_at v (edge_between a b) ≡ (eqb a v || eqb b v)
  ends-test a b = sides (cases_lt a b)
    where
      sides : (a < b) ⊎ (b ≤ a) → (eqb v (min a b) || eqb v (max a b)) ≡ (eqb a v || eqb b v)
      sides order = grind (arith, nat_tests)

  resolved : (same t s c d : Bool) (found : Option ℕ) → (same ≡ false → s ≡ true → IsTrue (is_some found) → c ≡ true) → (same ≡ false → t ≡ true → IsTrue (is_some found) → d ≡ true)
      → cond same None (cond (not (t || s)) found None) ≡ cond ((s && c) || (t && d)) None (cond same None found)
  resolved true t s c d found h k = none ((s && c) || (t && d))
    where
      none : (b : Bool) → ◌≡◌ {A = Option ℕ} None (cond b None None)
      none true = refl
      none false = refl
  resolved false false false c d found h k = refl
  resolved false true false c true found h k = refl
  resolved false true false c false None h k = refl
  resolved false true false c false (Some x) h k = absurd (false≢true (k refl refl refl))
  resolved false false true true d found h k = refl
  resolved false false true false d None h k = refl
  resolved false false true false d (Some x) h k = absurd (false≢true (h refl refl refl))
  resolved false true true true d found h k = refl
  resolved false true true false true found h k = refl
  resolved false true true false false None h k = refl
  resolved false true true false false (Some x) h k = absurd (false≢true (h refl refl refl))

  near_of : (w : ℕ) → eqb w v ≡ false → IsTrue (is_some (finite.get g.edges (edge_between v w))) → list_any (eqb w) (neighbours g v) ≡ true
  near_of w differ has =
      let apart : eqb v w ≡ false = grind (arith, nat_tests) in
      is_near w (and_from (not (eqb v w)) (has_edge g (edge_between v w)) (ap not apart) has)

  pub IsOverlaid-without_vertex : ((p : Place) → get place_cmp m p ≡ cond (put_at v (neighbours g v) p) (Some None) (cond (same_place p (v, None)) (Some None) None)) → IsOverlaid m g (without_vertex g v)
  IsOverlaid-without_vertex is = λ p. at p.0 p.1
    where
      at : (a : ℕ) (to : Option ℕ) → label_at (without_vertex g v) a to ≡ unwrap_or (get place_cmp m (a, to)) (label_at g a to)
      at a None =
          finite.get-remove nat_cmp_total g.labels v a
          ∙ ap (λ b. cond b None (finite.get g.labels a)) (nat-test a v ∙ sym (label-test a v))
          ∙ sym (put_over (same_place (a, None) (v, None)) None (finite.get g.labels a))
          ∙ ap (λ x. unwrap_or x (finite.get g.labels a)) (sym (is (a, None) ∙ ap (λ t. cond t (Some None) (cond (same_place (a, None) (v, None)) (Some None) None)) (not_at_label v (neighbours g v) a)))
      at a (Some b) =
          let found = finite.get g.edges (edge_between a b) in
          let told = (eqb b v && list_any (eqb a) (neighbours g v)) || (eqb a v && list_any (eqb b) (neighbours g v)) in
          ap (cond (eqb a b) None) (get-kept pair_cmp-IsAntisymmetric g.edges (λ f. not (ends_at v f)) (edge_between a b) ∙ ap (λ t. cond (not t) found None) (ends-test a b))
          ∙ resolved (eqb a b) (eqb a v) (eqb b v) (list_any (eqb a) (neighbours g v)) (list_any (eqb b) (neighbours g v)) found
          (λ differ here has. let apart : eqb a v ≡ false = grind (arith, nat_tests) in let is_v = eqb-true b v here in near_of a apart (subst (λ e. IsTrue (is_some (finite.get g.edges e))) (ap (edge_between a) is_v ∙ turned a v) has))
          (λ differ here has. let apart : eqb b v ≡ false = grind (arith, nat_tests) in let is_v = eqb-true a v here in near_of b apart (subst (λ e. IsTrue (is_some (finite.get g.edges e))) (ap (λ x. edge_between x b) is_v) has))
          ∙ sym (put_over told None (label_between g a b))
          ∙ ap (λ x. unwrap_or x (label_between g a b)) (sym (is (a, Some b) ∙ (λ i. cond (put_at-near v (neighbours g v) a b i) (Some None) (cond (near_label a b v i) (Some None) None))))
