-- A falling condition passes from a picture to its parts, and a rising one back.
use Rattle.std.proofs.Common.{ℕ, ◌*◌, ◌≤◌, Bool, true, false, not, ◌&&◌, ◌||◌, IsTrue, List, [], ◌∷◌, refl, sym, subst, ⊎_elim, arith, mul-le-mul_left}
use Rattle.std.specs.List.{All}
use Rattle.std.proofs.lemmas.Bool.{and_parts, and_from, false≢true, or_cases, or_left, or_right, ltb-true, leb-true, lt-ltb, le-leb}
use Rattle.std.proofs.lemmas.List.Sums.{sum_by-cons}
use Rattle.graph_types.specs.meaning.Graph.{Graph}
use Rattle.graph_types.specs.meaning.Piece.{IsOfMode}
use Rattle.graph_types.specs.declared.ids.Mode.{Mode}
use Rattle.graph_types.specs.declared.member.Member.{Member}
use Rattle.mining_model.specs.meaning.Picture.{picture}
use Rattle.conditions.specs.declared.condition.Cond.{Cond}
use Rattle.conditions.specs.declared.condition.Cond.TheOpen.{Cond-F, True, False, Compare, Not, And, Or, Shape}
use Rattle.conditions.specs.declared.condition.Cond.TheFolds.{map-Cond}
use Rattle.conditions.specs.declared.condition.Factor.{Factor}
use Rattle.conditions.specs.declared.condition.Op.{Op}
use Rattle.conditions.specs.declared.condition.Op.TheVariants.{AtMost, Below, AtLeast, Above, Equal, Unequal}
use Rattle.conditions.specs.meaning.Counts.{term_count}
use Rattle.conditions.specs.meaning.Conditions.{comparison_holds, holds, holds_by, sum_value}
use Rattle.filter_polarity.specs.meaning.Polarity.{Polarity, bounds_above, bounds_below, is_falling, is_rising_sum, is_rising_term, polarity, polarity_of, is_rising}
use Rattle.conditions.proofs.Forms.{by_form, fold-form, of_form}
use Rattle.filter_polarity.proofs.Parts.{count-picture}

-- comparisons

less_passes : (op : Op) (m n bound : ℕ) → m ≤ n → IsTrue (bounds_above op) → IsTrue (comparison_holds op n bound) → IsTrue (comparison_holds op m bound)
less_passes AtMost m n bound less above h = le-leb m bound (omega (arith, leb-true n bound h))
less_passes Below m n bound less above h = lt-ltb m bound (omega (arith, ltb-true n bound h))
less_passes AtLeast m n bound less above h = absurd (false≢true above)
less_passes Above m n bound less above h = absurd (false≢true above)
less_passes Equal m n bound less above h = absurd (false≢true above)
less_passes Unequal m n bound less above h = absurd (false≢true above)

more_passes : (op : Op) (m n bound : ℕ) → m ≤ n → IsTrue (bounds_below op) → IsTrue (comparison_holds op m bound) → IsTrue (comparison_holds op n bound)
more_passes AtMost m n bound less below h = absurd (false≢true below)
more_passes Below m n bound less below h = absurd (false≢true below)
more_passes AtLeast m n bound less below h = le-leb bound n (omega (arith, leb-true bound m h))
more_passes Above m n bound less below h = lt-ltb bound n (omega (arith, ltb-true bound m h))
more_passes Equal m n bound less below h = absurd (false≢true below)
more_passes Unequal m n bound less below h = absurd (false≢true below)

-- both of a pair of implications, at each form

-- a test that passes from one to the other, and back, where it may
record Passes (falls rises here there : Bool) : Type 0 where
  forth : IsTrue falls → IsTrue here → IsTrue there
  back : IsTrue rises → IsTrue there → IsTrue here

turned : (falls rises here there : Bool) → Passes falls rises here there → Passes rises falls (not here) (not there)
turned falls rises here there p = record { forth = λ r. other _ _ (p.back r); back = λ f. other _ _ (p.forth f) }
  where
    other : (a b : Bool) → (IsTrue a → IsTrue b) → IsTrue (not b) → IsTrue (not a)
    other true true h t = t
    other true false h t = absurd (false≢true (h refl))
    other false b h t = refl

both : (f r h t f' r' h' t' : Bool) → Passes f r h t → Passes f' r' h' t' → Passes (f && f') (r && r') (h && h') (t && t')
both f r h t f' r' h' t' p q = record {
  forth = λ a b. let fs = and_parts f f' a in let hs = and_parts h h' b in and_from t t' (p.forth fs.0 hs.0) (q.forth fs.1 hs.1);
  back = λ a b. let rs = and_parts r r' a in let ts = and_parts t t' b in and_from h h' (p.back rs.0 ts.0) (q.back rs.1 ts.1);
}

either : (f r h t f' r' h' t' : Bool) → Passes f r h t → Passes f' r' h' t' → Passes (f && f') (r && r') (h || h') (t || t')
either f r h t f' r' h' t' p q = record {
  forth = λ a b. let fs = and_parts f f' a in ⊎_elim (λ x. or_left t t' (p.forth fs.0 x)) (λ x. or_right t t' (q.forth fs.1 x)) (or_cases h h' b);
  back = λ a b. let rs = and_parts r r' a in ⊎_elim (λ x. or_left h h' (p.back rs.0 x)) (λ x. or_right h h' (q.back rs.1 x)) (or_cases t t' b);
}

module _ (kind : Mode) (q : Graph) (members : List Member) (all : All (IsOfMode kind) members) where
  value-picture : (sum : List Factor) → IsTrue (is_rising_sum kind sum) → sum_value sum (picture q members) ≤ sum_value sum q
  value-picture [] rises = omega arith
  value-picture (f ∷ sum) rises =
      let parts = and_parts (is_rising_term kind f.term) (is_rising_sum kind sum) rises in
      let here = mul-le-mul_left f.times (count-picture kind f.term q members all parts.0) in
      let rest = value-picture sum parts.1 in
      omega (arith, here, rest, sum_by-cons (λ (e : Factor). e.times * term_count e.term q) f sum, sum_by-cons (λ (e : Factor). e.times * term_count e.term (picture q members)) f sum)

  abbrev PassesBy : Polarity → (Graph → Bool) → Type 0
  PassesBy p h = Passes p.falls p.rises (h q) (h (picture q members))

  abbrev PassesHere : Cond → Type 0
  PassesHere c = PassesBy (polarity kind c) (holds c)

  at_form : (x : Cond-F Cond) → PassesBy (polarity_of kind (map-Cond Cond Polarity (polarity kind) x)) (holds_by (map-Cond Cond (Graph → Bool) holds x)) → PassesHere (of_form x)
  at_form x passes =
      subst (λ (p : Polarity). PassesBy p (holds (of_form x))) (sym (fold-form Polarity (polarity_of kind) x))
      (subst (λ (h : Graph → Bool). PassesBy (polarity_of kind (map-Cond Cond Polarity (polarity kind) x)) h) (sym (fold-form (Graph → Bool) holds_by x)) passes)

  passes : (c : Cond) → PassesHere c
  passes = by_form PassesHere
      (at_form True (record { forth = λ _ h. h; back = λ _ h. h }))
      (at_form False (record { forth = λ _ h. h; back = λ _ h. h }))
      (λ sum op bound. at_form (Compare sum op bound) (record {
        forth = λ f h. let parts = and_parts (bounds_above op) _ f in less_passes op _ _ bound (value-picture sum parts.1) parts.0 h;
        back = λ r h. let parts = and_parts (bounds_below op) _ r in more_passes op _ _ bound (value-picture sum parts.1) parts.0 h;
      }))
      (λ c p. at_form (Not c) (turned _ _ _ _ p))
      (λ c d p q. at_form (And c d) (both _ _ _ _ _ _ _ _ p q))
      (λ c d p q. at_form (Or c d) (either _ _ _ _ _ _ _ _ p q))
      (λ s. at_form (Shape s) (record { forth = λ falls _. absurd (false≢true falls); back = λ rises _. absurd (false≢true rises) }))

  pub falling_passes : (c : Cond) → IsTrue (is_falling kind c) → IsTrue (holds c q) → IsTrue (holds c (picture q members))
  falling_passes c f h = (passes c).forth f h

  pub rising_passes : (c : Cond) → IsTrue (is_rising kind c) → IsTrue (holds c (picture q members)) → IsTrue (holds c q)
  rising_passes c r h = (passes c).back r h
