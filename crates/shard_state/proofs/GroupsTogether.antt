-- Shards that take in the parts of a group together.
use Rattle.std.proofs.Common.{◌≡◌, ◌<◌, ◌≤◌, ◌+◌, ◌-◌, ℕ, zero, suc, true, false, cond, eqb, eq-eqb, List, [], ◌∷◌, map as mapped, filter, length, drop, get_or, set, refl, sym, ap, subst, ◌∙◌, arith}
use Rattle.std.specs.Cmp.{nat_cmp_is}
use Rattle.std.specs.List.{AllByRecursion, range_with_len}
use Rattle.std.specs.List.Sorted.{IsStrictlySortedBy}
use Rattle.std.specs.Ordering.{nat_cmp}
use Rattle.std.specs.declared.cmp.Ordering.TheVariants.{Less}
use Rattle.std.proofs.lemmas.Bool.{eqb-true, false≢true}
use Rattle.std.proofs.lemmas.Bool.Decides.{nat_tests}
use Rattle.std.proofs.lemmas.List.{drop_more, get_or-map, length-map}
use Rattle.shared_lemmas.specs.meaning.Membership.{IsIn}
use Rattle.shared_lemmas.proofs.Claims.{all-filter, all-map, all-weaker}
use Rattle.shared_lemmas.proofs.Membership.{IsIn-get_or, all-at}
use Rattle.update_rules.specs.declared.changes.Change.{Change}
use Rattle.update_rules.specs.declared.shards.Part.{Part}
use Rattle.update_rules.specs.meaning.Parts.{changes_between, is_some_list, part_of, parts_between}
use Rattle.shard_state.specs.calls.Fitting.{Fits}
use Rattle.shard_state.specs.calls.Together.{FitTogether, FitsOne, with_part}
use Rattle.shard_state.specs.meaning.Joining.{AreNumbered, shard_at}
use Rattle.shard_state.specs.meaning.Shards.{ShardValue, applied, empty_shard, pruned}
use Rattle.shard_state.specs.meaning.Telling.{AreSimple, Graphs, Tells, graph_of, last_of}
use Rattle.shard_state.proofs.GroupChanges.{sorted-map-filter}
use Rattle.shard_state.proofs.Told.{Fits-part, Tells-applied, Tells-passed, Tells-pruned}

-- shards that are each changed, but keep their numbers, stay numbered
pub AreNumbered-mapped : (f : ShardValue → ShardValue) → ((shard : ShardValue) → ((f shard).number ≡ shard.number) × ((f shard).shards ≡ shard.shards)) → (shards : List ShardValue) → AreNumbered shards → AreNumbered (mapped f shards)
AreNumbered-mapped f keeps shards numbered i within =
    let few : i < length shards = subst (λ n. i < n) (length-map shards f) within in
    let at = get_or-map f shards i (empty_shard 0 1) (empty_shard 0 1) few in
    (ap (λ s. s.number) at ∙ (keeps (shard_at shards i)).0 ∙ (numbered i few).0, ap (λ s. s.shards) at ∙ (keeps (shard_at shards i)).1 ∙ (numbered i few).1 ∙ sym (length-map shards f))

-- one part

module _ (part : Part) (at : ℕ) where
  abbrev with_one : ShardValue → ShardValue
  with_one shard = cond (eqb part.shard shard.number) (applied shard part.changes at) shard

  keeps-one : (shard : ShardValue) → ((with_one shard).number ≡ shard.number) × ((with_one shard).shards ≡ shard.shards)
  keeps-one shard = elim (eqb part.shard shard.number) as (λ b. ((cond b (applied shard part.changes at) shard).number ≡ shard.number) × ((cond b (applied shard part.changes at) shard).shards ≡ shard.shards)) [ true ↦ (refl, refl) | false ↦ (refl, refl) ]

  -- numbered from a on
  FromNumber : ℕ → List ShardValue → Type 0
  FromNumber a [] = Unit {0}
  FromNumber a (shard ∷ shards) = (shard.number ≡ a) × FromNumber (a + 1) shards

  others-stay : (a : ℕ) (shards : List ShardValue) → part.shard < a → FromNumber a shards → mapped with_one shards ≡ shards
  unfolding FromNumber
  others-stay a [] above from = refl
  others-stay a (shard ∷ shards) above from =
      let number = from.0 in
      let apart : eqb part.shard shard.number ≡ false = grind (arith, nat_tests) in
      let more : part.shard < a + 1 = omega arith in
      λ i. cond (apart i) (applied shard part.changes at) shard ∷ others-stay (a + 1) shards more from.1 i

  set-one : (i a : ℕ) (shards : List ShardValue) → FromNumber a shards → part.shard ≡ a + i → i < length shards → set shards i (applied (get_or shards i (empty_shard 0 1)) part.changes at) ≡ mapped with_one shards
  unfolding FromNumber
  set-one i a [] from is within = absurd (omega (arith, within))
  set-one zero a (shard ∷ shards) from is within =
      let number = from.0 in
      let same : part.shard ≡ shard.number = omega arith in
      let more : part.shard < a + 1 = omega arith in
      λ i. cond (sym (eq-eqb part.shard shard.number same) i) (applied shard part.changes at) shard ∷ sym (others-stay (a + 1) shards more from.1) i
  set-one (suc i) a (shard ∷ shards) from is within =
      let number = from.0 in
      let apart : eqb part.shard shard.number ≡ false = grind (arith, nat_tests) in
      let next : part.shard ≡ a + 1 + i = omega arith in
      let few : i < length shards = omega (arith, within) in
      λ j. cond (sym apart j) (applied shard part.changes at) shard ∷ set-one i (a + 1) shards from.1 next few j

  from-numbered : (a : ℕ) (shards : List ShardValue) → ((i : ℕ) → i < length shards → (shard_at shards i).number ≡ a + i) → FromNumber a shards
  unfolding FromNumber
  from-numbered a [] numbers = tt
  from-numbered a (shard ∷ shards) numbers =
      let some : 0 < length (shard ∷ shards) = omega arith in
      let first = numbers 0 some in
      (omega (arith, first), from-numbered (a + 1) shards (λ i within. let few : suc i < length (shard ∷ shards) = omega (arith, within) in let next = numbers (suc i) few in omega (arith, next)))

  -- to change the one shard is to let each take in its own
  pub changed-one : (shards : List ShardValue) → AreNumbered shards → part.shard < length shards → set shards part.shard (applied (shard_at shards part.shard) part.changes at) ≡ mapped with_one shards
  changed-one shards numbered within =
      set-one part.shard 0 shards (from-numbered 0 shards (λ i few. let is = (numbered i few).0 in omega (arith, is))) (omega arith) within

mapped-twice : {A B C : Type 0} (f : B → C) (g : A → B) (xs : List A) → mapped f (mapped g xs) ≡ mapped (λ x. f (g x)) xs
mapped-twice f g [] = refl
mapped-twice f g (x ∷ xs) = ap (λ ys. f (g x) ∷ ys) (mapped-twice f g xs)

-- parts one after the other

pub record IsTakingIn (at : ℕ) (old shards : List ShardValue) (all rest : List Part) : Type 0 where
  pub done : mapped (with_part rest at) shards ≡ mapped (with_part all at) old
  pub fit : FitTogether shards rest at

pub taking-init : (at : ℕ) (shards : List ShardValue) (parts : List Part) → FitTogether shards parts at → IsTakingIn at shards shards parts parts
taking-init at shards parts fit = record { done = refl; fit = fit }

mapped-none : (at : ℕ) (shards : List ShardValue) → mapped (with_part [] at) shards ≡ shards
mapped-none at [] = refl
mapped-none at (shard ∷ shards) = ap (λ ss. shard ∷ ss) (mapped-none at shards)

pub taking-done : (at : ℕ) (old shards : List ShardValue) (all rest : List Part) → rest ≡ [] → IsTakingIn at old shards all rest → shards ≡ mapped (with_part all at) old
taking-done at old shards all rest none taking = sym (mapped-none at shards) ∙ ap (λ ps. mapped (with_part ps at) shards) (sym none) ∙ taking.done

-- what fits the others still fits them
fits-others : (at : ℕ) (shards new : List ShardValue) (part : Part) → new ≡ mapped (with_one part at) shards → (rest : List Part) → AllByRecursion (λ m. nat_cmp part.shard m ≡ Less) (mapped (λ (p : Part). p.shard) rest) →
    AreNumbered shards → AllByRecursion (FitsOne shards at) rest → AllByRecursion (FitsOne new at) rest
fits-others at shards new part is [] below numbered fit = tt
fits-others at shards new part is (next ∷ rest) below numbered fit =
    let lower : part.shard < next.shard = grind (arith, nat_tests, below.0) in
    let number = (numbered next.shard fit.0.there).0 in
    let apart : eqb part.shard (shard_at shards next.shard).number ≡ false = grind (arith, nat_tests) in
    let same : shard_at new next.shard ≡ shard_at shards next.shard =
    ap (λ ss. shard_at ss next.shard) is
    ∙ get_or-map (with_one part at) shards next.shard (empty_shard 0 1) (empty_shard 0 1) fit.0.there
    ∙ ap (λ b. cond b (applied (shard_at shards next.shard) part.changes at) (shard_at shards next.shard)) apart in (
      record {
        there = subst (λ n. next.shard < n) (sym (ap length is ∙ length-map shards (with_one part at))) fit.0.there;
        fits = subst (λ s. Fits s next at) (sym same) fit.0.fits;
      },
      fits-others at shards new part is rest below.1 numbered fit.1,
    )

pub taking-step : (at : ℕ) (old shards new : List ShardValue) (all rest : List Part) (part : Part) → IsTakingIn at old shards all (part ∷ rest) →
    new ≡ set shards part.shard (applied (shard_at shards part.shard) part.changes at) → IsTakingIn at old new all rest
unfolding IsStrictlySortedBy
taking-step at old shards new all rest part taking is =
    let here : new ≡ mapped (with_one part at) shards = is ∙ changed-one part at shards taking.fit.numbered taking.fit.each.0.there in
    record {
      done = ap (mapped (with_part rest at)) here ∙ mapped-twice (with_part rest at) (with_one part at) shards ∙ taking.done;
      fit = record {
        numbered = subst AreNumbered (sym here) (AreNumbered-mapped (with_one part at) (keeps-one part at) shards taking.fit.numbered);
        each = fits-others at shards new part here rest taking.fit.apart.0 taking.fit.numbered taking.fit.each.1;
        apart = taking.fit.apart.1;
      };
    }

-- numbers in a row

above-range : (a b n : ℕ) → a < b → AllByRecursion (λ y. nat_cmp a y ≡ Less) (range_with_len b n)
above-range a b zero below = tt
above-range a b (suc n) below = (sym (nat_cmp_is a b Less below), above-range a (b + 1) n (omega arith))

range-rises : (a n : ℕ) → IsStrictlySortedBy nat_cmp (range_with_len a n)
unfolding IsStrictlySortedBy
range-rises a zero = tt
range-rises a (suc n) = (above-range a (a + 1) n (omega arith), range-rises (a + 1) n)

within-range : (a n : ℕ) → AllByRecursion (λ m. m < a + n) (range_with_len a n)
within-range a zero = tt
within-range a (suc n) = (omega arith, all-weaker (λ m. m < a + 1 + n) (λ m. m < a + suc n) (λ m less. omega (arith, less)) (range_with_len (a + 1) n) (within-range (a + 1) n))

-- the parts of a group, and a shard that tells the graphs

module _ (k : ℕ) (changes : List Change) where
  abbrev made : ℕ → Part
  made m = part_of k changes m

  abbrev kept : List ℕ → List Part
  kept ms = filter (λ part. is_some_list part.changes) (mapped made ms)

  shards-made : (ms : List ℕ) → mapped (λ (p : Part). p.shard) (mapped made ms) ≡ ms
  shards-made [] = refl
  shards-made (m ∷ ms) = ap (λ ns. m ∷ ns) (shards-made ms)

  kept-apart : (n : ℕ) → IsStrictlySortedBy nat_cmp (mapped (λ (p : Part). p.shard) (kept (range_with_len 0 n)))
  kept-apart n =
      sorted-map-filter nat_cmp (λ (p : Part). p.shard) (λ part. is_some_list part.changes) (mapped made (range_with_len 0 n))
      (subst (IsStrictlySortedBy nat_cmp) (sym (shards-made (range_with_len 0 n))) (range-rises 0 n))

  -- a shard that has no part among them
  with-none : (at : ℕ) (shard : ShardValue) (ms : List ℕ) → AllByRecursion (λ m. eqb m shard.number ≡ false) ms → with_part (kept ms) at shard ≡ shard
  with-none at shard [] apart = refl
  with-none at shard (m ∷ ms) apart =
      elim (is_some_list (made m).changes) as (λ b. with_part (cond b (made m ∷ kept ms) (kept ms)) at shard ≡ shard) [
        | true ↦ ap (λ b. with_part (kept ms) at (cond b (applied shard (made m).changes at) shard)) apart.0 ∙ with-none at shard ms apart.1
        | false ↦ with-none at shard ms apart.1
      ]

no-changes : (changes : List Change) → is_some_list changes ≡ false → changes ≡ []
no-changes [] none = refl
no-changes (change ∷ changes) none = absurd (false≢true (sym none))

module _ (graphs : Graphs) (n : ℕ) (simple : AreSimple graphs) (more : n < last_of graphs) where
  abbrev changed : List Change
  changed = changes_between (graph_of graphs (n + 1 - 1)) (graph_of graphs (n + 1))

  module _ (shard : ShardValue) (tells : Tells graphs n shard) (floor : shard.floor ≤ n) where
    abbrev after_parts : List ℕ → ShardValue
    after_parts ms = with_part (kept shard.shards changed ms) (n + 1) shard

    -- the part of the shard, and then those of others
    own-part : (ms : List ℕ) → AllByRecursion (λ m. eqb m shard.number ≡ false) ms → Tells graphs (n + 1) (after_parts (shard.number ∷ ms))
    own-part ms apart =
        elim (is_some_list (part_of shard.shards changed shard.number).changes) as (λ b. is_some_list (part_of shard.shards changed shard.number).changes ≡ b →
        Tells graphs (n + 1) (with_part (cond b (part_of shard.shards changed shard.number ∷ kept shard.shards changed ms) (kept shard.shards changed ms)) (n + 1) shard)) [
          | true ↦ λ _.
              subst (Tells graphs (n + 1))
              (sym (ap (λ b. with_part (kept shard.shards changed ms) (n + 1) (cond b (applied shard (part_of shard.shards changed shard.number).changes (n + 1)) shard)) (eq-eqb shard.number shard.number refl)
              ∙ with-none shard.shards changed (n + 1) (applied shard (part_of shard.shards changed shard.number).changes (n + 1)) ms apart))
              (Tells-applied graphs n shard tells simple more floor)
          | false ↦ λ none.
              subst (Tells graphs (n + 1)) (sym (with-none shard.shards changed (n + 1) shard ms apart))
              (Tells-passed graphs n shard tells simple more (no-changes (part_of shard.shards changed shard.number).changes none))
        ] refl

    -- the part of another before
    other-part : (m : ℕ) (ms : List ℕ) → eqb m shard.number ≡ false → Tells graphs (n + 1) (after_parts ms) → Tells graphs (n + 1) (after_parts (m ∷ ms))
    other-part m ms apart rest =
        elim (is_some_list (part_of shard.shards changed m).changes) as (λ b.
        Tells graphs (n + 1) (with_part (cond b (part_of shard.shards changed m ∷ kept shard.shards changed ms) (kept shard.shards changed ms)) (n + 1) shard)) [
          | true ↦ subst (λ b. Tells graphs (n + 1) (with_part (kept shard.shards changed ms) (n + 1) (cond b (applied shard (part_of shard.shards changed m).changes (n + 1)) shard))) (sym apart) rest
          | false ↦ rest
        ]

    apart-above : (a count : ℕ) → shard.number < a → AllByRecursion (λ m. eqb m shard.number ≡ false) (range_with_len a count)
    apart-above a zero below = tt
    apart-above a (suc count) below =
        let apart : eqb a shard.number ≡ false = grind (arith, nat_tests) in
        let next : shard.number < a + 1 = omega (arith, below) in
        (apart, apart-above (a + 1) count next)

    -- the parts of shards from number a on
    tells-from : (a count : ℕ) → a ≤ shard.number → shard.number < a + count → Tells graphs (n + 1) (after_parts (range_with_len a count))
    tells-from a zero from to = absurd (omega (arith, from, to))
    tells-from a (suc count) from to =
        elim (eqb a shard.number) as (λ b. eqb a shard.number ≡ b → Tells graphs (n + 1) (after_parts (a ∷ range_with_len (a + 1) count))) [
          | true ↦ λ same.
              let is = eqb-true a shard.number same in
              let next : shard.number < a + 1 = omega (arith, is) in
              subst (λ m. Tells graphs (n + 1) (after_parts (m ∷ range_with_len (a + 1) count))) (sym is) (own-part (range_with_len (a + 1) count) (apart-above (a + 1) count next))
          | false ↦ λ apart.
              let above : a + 1 ≤ shard.number = grind (arith, nat_tests) in
              let below : shard.number < a + 1 + count = omega (arith, to) in
              other-part a (range_with_len (a + 1) count) apart (tells-from (a + 1) count above below)
        ] refl

all-from_index : (P : ShardValue → Type 0) (shards : List ShardValue) → ((i : ℕ) → i < length shards → P (shard_at shards i)) → AllByRecursion P shards
all-from_index P [] each = tt
all-from_index P (shard ∷ shards) each =
    let some : 0 < length (shard ∷ shards) = omega arith in
    (each 0 some, all-from_index P shards (λ i within. let few : suc i < length (shard ∷ shards) = omega (arith, within) in each (suc i) few))

module _ (graphs : Graphs) (n : ℕ) (shards : List ShardValue) (numbered : AreNumbered shards) (tell : AllByRecursion (Tells graphs n) shards) (floors : AllByRecursion (λ shard. shard.floor ≤ n) shards)
    (simple : AreSimple graphs) (more : n < last_of graphs) where
  abbrev changed_now : List Change
  changed_now = changes_between (graph_of graphs (n + 1 - 1)) (graph_of graphs (n + 1))

  abbrev parts_now : List Part
  parts_now = kept (length shards) changed_now (range_with_len 0 (length shards))

  among : (i : ℕ) → i < length shards → IsIn (shard_at shards i) shards
  among i within = IsIn-get_or shards i (empty_shard 0 1) within

  fits-one : (m : ℕ) → m < length shards → FitsOne shards (n + 1) (part_of (length shards) changed_now m)
  fits-one m within =
      let shard = shard_at shards m in
      let is = numbered m within in
      record {
        there = within;
        fits = subst (λ k. Fits shard (part_of k changed_now m) (n + 1)) is.1 (subst (λ l. Fits shard (part_of shard.shards changed_now l) (n + 1)) is.0
            (Fits-part graphs n shard (all-at (Tells graphs n) shard shards tell (among m within)) (all-at (λ s. s.floor ≤ n) shard shards floors (among m within))));
      }

  fits-now : FitTogether shards parts_now (n + 1)
  fits-now = record {
    numbered = numbered;
    each =
        all-filter (λ part. is_some_list part.changes) (FitsOne shards (n + 1)) (mapped (part_of (length shards) changed_now) (range_with_len 0 (length shards)))
        (all-map (λ m. m < 0 + length shards) (FitsOne shards (n + 1)) (part_of (length shards) changed_now) (λ m within. fits-one m (omega (arith, within))) (range_with_len 0 (length shards)) (within-range 0 (length shards)));
    apart = kept-apart (length shards) changed_now (length shards);
  }

  tells-now : AllByRecursion (Tells graphs (n + 1)) (mapped (with_part parts_now (n + 1)) shards)
  tells-now =
      all-map (λ shard. Tells graphs (n + 1) (with_part parts_now (n + 1) shard)) (Tells graphs (n + 1)) (with_part parts_now (n + 1)) (λ shard told. told) shards
      (all-from_index (λ shard. Tells graphs (n + 1) (with_part parts_now (n + 1) shard)) shards (λ i within.
      let shard = shard_at shards i in
      let is = numbered i within in
      subst (λ k. Tells graphs (n + 1) (with_part (kept k changed_now (range_with_len 0 (length shards))) (n + 1) shard)) is.1
      (tells-from graphs n simple more shard (all-at (Tells graphs n) shard shards tell (among i within)) (all-at (λ s. s.floor ≤ n) shard shards floors (among i within)) 0 (length shards)
      (omega arith) (let number = is.0 in omega (arith, number, within)))))

  parts-are : parts_between (graph_of graphs n) (graph_of graphs (n + 1)) (length shards) ≡ parts_now
  parts-are = let same : n ≡ n + 1 - 1 = omega arith in ap (λ m. parts_between (graph_of graphs m) (graph_of graphs (n + 1)) (length shards)) same

  pub FitTogether-next : FitTogether shards (parts_between (graph_of graphs n) (graph_of graphs (n + 1)) (length shards)) (n + 1)
  FitTogether-next = subst (λ parts. FitTogether shards parts (n + 1)) (sym parts-are) fits-now

  pub Tell-next : AllByRecursion (Tells graphs (n + 1)) (mapped (with_part (parts_between (graph_of graphs n) (graph_of graphs (n + 1)) (length shards)) (n + 1)) shards)
  Tell-next = subst (λ parts. AllByRecursion (Tells graphs (n + 1)) (mapped (with_part parts (n + 1)) shards)) (sym parts-are) tells-now

-- each takes in its own, and none gets another number
keeps-with_part : (at : ℕ) (parts : List Part) (shard : ShardValue) → ((with_part parts at shard).number ≡ shard.number) × ((with_part parts at shard).shards ≡ shard.shards)
keeps-with_part at [] shard = (refl, refl)
keeps-with_part at (part ∷ parts) shard =
    let rest = keeps-with_part at parts (with_one part at shard) in
    let first = keeps-one part at shard in
    (rest.0 ∙ first.0, rest.1 ∙ first.1)

pub AreNumbered-with_parts : (at : ℕ) (parts : List Part) (shards : List ShardValue) → AreNumbered shards → AreNumbered (mapped (with_part parts at) shards)
AreNumbered-with_parts at parts = AreNumbered-mapped (with_part parts at) (keeps-with_part at parts)

pub AreNumbered-pruned : (f : ℕ) (shards : List ShardValue) → AreNumbered shards → AreNumbered (mapped (λ shard. pruned shard f) shards)
AreNumbered-pruned f = AreNumbered-mapped (λ shard. pruned shard f) (λ shard. (refl, refl))

pub Tell-pruned : (graphs : Graphs) (n : ℕ) (shards : List ShardValue) → AllByRecursion (Tells graphs n) shards → (f : ℕ) → AllByRecursion (Tells graphs n) (mapped (λ shard. pruned shard f) shards)
Tell-pruned graphs n shards tell f = all-map (Tells graphs n) (Tells graphs n) (λ shard. pruned shard f) (λ shard tells. Tells-pruned graphs n shard tells f) shards tell

-- the part at a place is the first of the rest
pub taking-at : (at : ℕ) (old shards : List ShardValue) (parts : List Part) (i : ℕ) (part : Part) → i < length parts → part ≡ get_or parts i part → IsTakingIn at old shards parts (drop i parts) → IsTakingIn at old shards parts (part ∷ drop (i + 1) parts)
taking-at at old shards parts i part within is taking = subst (IsTakingIn at old shards parts) (drop_more parts i part within ∙ ap (λ p. p ∷ drop (i + 1) parts) (sym is)) taking

-- a part leaves the floor
pub floor-with_part : (at : ℕ) (parts : List Part) (shard : ShardValue) → (with_part parts at shard).floor ≡ shard.floor
floor-with_part at [] shard = refl
floor-with_part at (part ∷ parts) shard =
    floor-with_part at parts (with_one part at shard)
    ∙ elim (eqb part.shard shard.number) as (λ b. (cond b (applied shard part.changes at) shard).floor ≡ shard.floor) [ true ↦ refl | false ↦ refl ]
