-- Two changes that are parted among shards.
use Rattle.std.proofs.Common.{◌≡◌, ◌<◌, ◌≤◌, ℕ, Bool, true, false, ◌||◌, cond, eqb, [], ◌∷◌, refl, sym, ap, subst, ◌∙◌, arith}
use Rattle.std.specs.Cmp.{nat_cmp_is}
use Rattle.std.specs.List.Sorted.{IsStrictlySortedBy}
use Rattle.std.specs.Ordering.{eq_by_cmp, nat_cmp}
use Rattle.std.specs.declared.cmp.Ordering.TheVariants.{Less}
use Rattle.std.proofs.lemmas.Bool.Decides.{nat_tests}
use Rattle.graph_types.proofs.Rows.{nat-test}
use Rattle.update_rules.specs.calls.Sharing.{in_shard}
use Rattle.update_rules.specs.declared.changes.Change.{Change}
use Rattle.update_rules.specs.meaning.Parts.{is_some_list, part_of, parts_of, shard_of}
use Rattle.update_rules.proofs.PartsOfChanges.{parts-given}

or-none : (a : Bool) → (a || false) ≡ a
or-none true = refl
or-none false = refl

or-turned : (a b : Bool) → (a || b) ≡ (b || a)
or-turned true true = refl
or-turned true false = refl
or-turned false true = refl
or-turned false false = refl

or-twice : (a : Bool) → a ≡ (a || a)
or-twice true = refl
or-twice false = refl

-- a number is that one
test-turned : (w s : ℕ) → eq_by_cmp nat_cmp w s ≡ eqb s w
test-turned w s = nat-test w s ∙ turned
  where
    turned : eqb w s ≡ eqb s w
    turned = grind (arith, nat_tests)

itself : (s : ℕ) → eqb s s ≡ true
itself s = grind (arith, nat_tests)

module _ (shards : ℕ) (some : 1 ≤ shards) (c d : Change) where
  has-two : (w : ℕ) → is_some_list (in_shard shards w (c ∷ d ∷ [])) ≡ (eqb (shard_of shards c) w || eqb (shard_of shards d) w)
  has-two w = elim (eqb (shard_of shards c) w) as (λ a. is_some_list (cond a (c ∷ in_shard shards w (d ∷ [])) (in_shard shards w (d ∷ []))) ≡ (a || eqb (shard_of shards d) w)) [
    | true ↦ refl
    | false ↦ elim (eqb (shard_of shards d) w) as (λ b. is_some_list (cond b (d ∷ []) []) ≡ b) [ true ↦ refl | false ↦ refl ]
  ]

  ascending-two : (s t : ℕ) → s < t → IsStrictlySortedBy nat_cmp (s ∷ t ∷ [])
  unfolding IsStrictlySortedBy
  ascending-two s t less = ((sym (nat_cmp_is s t Less less), tt), (tt, tt))

  ascending-one : (s : ℕ) → IsStrictlySortedBy nat_cmp (s ∷ [])
  unfolding IsStrictlySortedBy
  ascending-one s = (tt, tt)

  members-two : (s t w : ℕ) → (eq_by_cmp nat_cmp w s || (eq_by_cmp nat_cmp w t || false)) ≡ (eqb s w || eqb t w)
  members-two s t w = λ i. test-turned w s i || (or-none (eq_by_cmp nat_cmp w t) ∙ test-turned w t) i

  part-first : eqb (shard_of shards d) (shard_of shards c) ≡ false → record { shard = shard_of shards c; changes = c ∷ [] } ≡ part_of shards (c ∷ d ∷ []) (shard_of shards c)
  part-first apart = sym (λ i. record { shard = shard_of shards c; changes = cond (itself (shard_of shards c) i) (c ∷ cond (apart i) (d ∷ []) []) (cond (apart i) (d ∷ []) []) })

  part-second : eqb (shard_of shards c) (shard_of shards d) ≡ false → record { shard = shard_of shards d; changes = d ∷ [] } ≡ part_of shards (c ∷ d ∷ []) (shard_of shards d)
  part-second apart = sym (λ i. record {
    shard = shard_of shards d;
    changes = cond (apart i) (c ∷ cond (itself (shard_of shards d) i) (d ∷ []) []) (cond (itself (shard_of shards d) i) (d ∷ []) []);
  })

  -- both at one shard
  parts-together : shard_of shards c ≡ shard_of shards d → record { shard = shard_of shards c; changes = c ∷ d ∷ [] } ∷ [] ≡ parts_of shards (c ∷ d ∷ [])
  parts-together same =
      let own : eqb (shard_of shards d) (shard_of shards c) ≡ true = ap (λ t. eqb t (shard_of shards c)) (sym same) ∙ itself (shard_of shards c) in
      sym (λ i. record { shard = shard_of shards c; changes = cond (itself (shard_of shards c) i) (c ∷ cond (own i) (d ∷ []) []) (cond (own i) (d ∷ []) []) } ∷ [])
      ∙ parts-given shards (c ∷ d ∷ []) some (shard_of shards c ∷ []) (ascending-one (shard_of shards c)) (λ w.
      or-none (eq_by_cmp nat_cmp w (shard_of shards c))
      ∙ test-turned w (shard_of shards c)
      ∙ or-twice (eqb (shard_of shards c) w)
      ∙ ap (λ t. eqb (shard_of shards c) w || eqb t w) same
      ∙ sym (has-two w))

  -- the first at the lower shard, and the second
  parts-apart : shard_of shards c < shard_of shards d → record { shard = shard_of shards c; changes = c ∷ [] } ∷ record { shard = shard_of shards d; changes = d ∷ [] } ∷ [] ≡ parts_of shards (c ∷ d ∷ [])
  parts-apart less =
      let apart : eqb (shard_of shards c) (shard_of shards d) ≡ false = grind (arith, nat_tests) in
      let other : eqb (shard_of shards d) (shard_of shards c) ≡ false = grind (arith, nat_tests) in
      (λ i. part-first other i ∷ part-second apart i ∷ [])
      ∙ parts-given shards (c ∷ d ∷ []) some (shard_of shards c ∷ shard_of shards d ∷ []) (ascending-two _ _ less) (λ w. members-two (shard_of shards c) (shard_of shards d) w ∙ sym (has-two w))

  parts-turned : shard_of shards d < shard_of shards c → record { shard = shard_of shards d; changes = d ∷ [] } ∷ record { shard = shard_of shards c; changes = c ∷ [] } ∷ [] ≡ parts_of shards (c ∷ d ∷ [])
  parts-turned less =
      let apart : eqb (shard_of shards c) (shard_of shards d) ≡ false = grind (arith, nat_tests) in
      let other : eqb (shard_of shards d) (shard_of shards c) ≡ false = grind (arith, nat_tests) in
      (λ i. part-second apart i ∷ part-first other i ∷ [])
      ∙ parts-given shards (c ∷ d ∷ []) some (shard_of shards d ∷ shard_of shards c ∷ []) (ascending-two _ _ less) (λ w.
      members-two (shard_of shards d) (shard_of shards c) w ∙ or-turned (eqb (shard_of shards d) w) (eqb (shard_of shards c) w) ∙ sym (has-two w))

  -- the same where these are the shards
  module _ (at other : ℕ) (at_is : at ≡ shard_of shards c) (other_is : other ≡ shard_of shards d) where
    pub parts-one : at ≡ other → record { shard = at; changes = c ∷ d ∷ [] } ∷ [] ≡ parts_of shards (c ∷ d ∷ [])
    parts-one same = (λ i. record { shard = at_is i; changes = c ∷ d ∷ [] } ∷ []) ∙ parts-together (sym at_is ∙ same ∙ other_is)

    pub parts-two : at < other → record { shard = at; changes = c ∷ [] } ∷ record { shard = other; changes = d ∷ [] } ∷ [] ≡ parts_of shards (c ∷ d ∷ [])
    parts-two less =
        (λ i. record { shard = at_is i; changes = c ∷ [] } ∷ record { shard = other_is i; changes = d ∷ [] } ∷ [])
        ∙ parts-apart (subst (λ n. n < shard_of shards d) at_is (subst (λ n. at < n) other_is less))

    pub parts-two_turned : other < at → record { shard = other; changes = d ∷ [] } ∷ record { shard = at; changes = c ∷ [] } ∷ [] ≡ parts_of shards (c ∷ d ∷ [])
    parts-two_turned less =
        (λ i. record { shard = other_is i; changes = d ∷ [] } ∷ record { shard = at_is i; changes = c ∷ [] } ∷ [])
        ∙ parts-turned (subst (λ n. n < shard_of shards c) other_is (subst (λ n. other < n) at_is less))
