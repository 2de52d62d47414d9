-- The parts of a group, one after another.
use Rattle.std.proofs.Common.{◌≡◌, ◌≢◌, ◌<◌, ◌≤◌, ◌+◌, ℕ, zero, suc, true, false, ◌||◌, cond, eqb, eq-eqb, List, [], ◌∷◌, map as mapped, filter, take, drop, refl, sym, ap, subst, ◌∙◌, ⊎_elim, arith}
use Rattle.std.specs.List.{AllByRecursion, list_any, range_with_len}
use Rattle.std.proofs.lemmas.Bool.{cases_lt, false≢true, ne_eqb, or_right}
use Rattle.graph_types.specs.meaning.Graph.{Graph}
use Rattle.update_rules.specs.declared.changes.Change.{Change}
use Rattle.update_rules.specs.declared.shards.Part.{Part}
use Rattle.update_rules.specs.meaning.Parts.{changes_between, is_some_list, part_of, parts_between}

-- parts for shards from a on, each for a later one than that before
Rise : ℕ → List Part → Type 0
Rise a [] = Unit {0}
Rise a (part ∷ parts) = (a ≤ part.shard) × Rise (part.shard + 1) parts

lower : (a b : ℕ) (parts : List Part) → a ≤ b → Rise b parts → Rise a parts
unfolding Rise
lower a b [] less rise = tt
lower a b (part ∷ parts) less rise = let first = rise.0 in (omega (arith, less, first), rise.1)

-- the first of those that are left is for a later shard than those before it
later-first : (k a : ℕ) (parts : List Part) (part : Part) (rest : List Part) → Rise a parts → drop k parts ≡ part ∷ rest → (a + k ≤ part.shard) × (list_any (λ (p : Part). eqb p.shard part.shard) (take k parts) ≡ false)
unfolding Rise
later-first zero a [] part rest rise is = absurd (cc)
later-first zero a (first ∷ parts) part rest rise is =
    let same : first ≡ part = cc in
    let from = subst (λ (p : Part). a ≤ p.shard) same rise.0 in
    (omega (arith, from), refl)
later-first (suc k) a [] part rest rise is = absurd (cc)
later-first (suc k) a (first ∷ parts) part rest rise is =
    let after = later-first k (first.shard + 1) parts part rest rise.1 is in
    let less = after.0 in
    let from = rise.0 in
    let apart : eqb first.shard part.shard ≡ false = ne_eqb first.shard part.shard (λ same. omega (arith, less, same)) in
    (omega (arith, less, from), ap (λ b. b || list_any (λ (p : Part). eqb p.shard part.shard) (take k parts)) apart ∙ after.1)

-- what holds of each part holds of the first of those that are left
pub holds-first : (P : Part → Type 0) (k : ℕ) (parts : List Part) (part : Part) (rest : List Part) → AllByRecursion P parts → drop k parts ≡ part ∷ rest → P part
holds-first P zero [] part rest all is = absurd (cc)
holds-first P zero (first ∷ parts) part rest all is = let same : first ≡ part = cc in subst P same all.0
holds-first P (suc k) [] part rest all is = absurd (cc)
holds-first P (suc k) (first ∷ parts) part rest all is = holds-first P k parts part rest all.1 is

module _ (count : ℕ) (changes : List Change) where
  abbrev kept : List ℕ → List Part
  kept numbers = filter (λ part. is_some_list part.changes) (mapped (part_of count changes) numbers)

  rise-kept : (a n : ℕ) → Rise a (kept (range_with_len a n))
  unfolding Rise
  rise-kept a zero = tt
  rise-kept a (suc n) =
      elim (is_some_list (part_of count changes a).changes) as (λ b. Rise a (cond b (part_of count changes a ∷ kept (range_with_len (a + 1) n)) (kept (range_with_len (a + 1) n)))) [
        | true ↦ (omega arith, rise-kept (a + 1) n)
        | false ↦ lower a (a + 1) (kept (range_with_len (a + 1) n)) (omega arith) (rise-kept (a + 1) n)
      ]

  -- each is what is changed in its shard, and something is
  pub record IsMade (part : Part) : Type 0 where
    pub same : part ≡ part_of count changes part.shard
    pub within : part.shard < count
    pub some : is_some_list part.changes ≡ true

  each-made : (a n : ℕ) → a + n ≡ count → AllByRecursion IsMade (kept (range_with_len a n))
  each-made a zero end = tt
  each-made a (suc n) end =
      let next : a + 1 + n ≡ count = omega (arith, end) in
      elim (is_some_list (part_of count changes a).changes) as (λ b. is_some_list (part_of count changes a).changes ≡ b →
      AllByRecursion IsMade (cond b (part_of count changes a ∷ kept (range_with_len (a + 1) n)) (kept (range_with_len (a + 1) n)))) [
        | true ↦ λ some. (record { same = refl; within = omega (arith, end); some = some }, each-made (a + 1) n next)
        | false ↦ λ _. each-made (a + 1) n next
      ] refl

  -- a shard in which something is changed has its part among them
  has-part : (a n s : ℕ) → a ≤ s → s < a + n → is_some_list (part_of count changes s).changes ≡ true → list_any (λ (p : Part). eqb p.shard s) (kept (range_with_len a n)) ≡ true
  has-part a zero s from below some = absurd (omega (arith, from, below))
  has-part a (suc n) s from below some =
      ⊎_elim
      (λ less.
      let rest = has-part (a + 1) n s (omega (arith, less)) (omega (arith, below)) some in
      elim (is_some_list (part_of count changes a).changes) as (λ b. list_any (λ (p : Part). eqb p.shard s) (cond b (part_of count changes a ∷ kept (range_with_len (a + 1) n)) (kept (range_with_len (a + 1) n))) ≡ true) [
        | true ↦ or_right (eqb a s) (list_any (λ (p : Part). eqb p.shard s) (kept (range_with_len (a + 1) n))) rest
        | false ↦ rest
      ])
      (λ most.
      let here : s ≡ a = omega (arith, from, most) in
      let first : is_some_list (part_of count changes a).changes ≡ true = subst (λ k. is_some_list (part_of count changes k).changes ≡ true) here some in
      subst (λ b. list_any (λ (p : Part). eqb p.shard s) (cond b (part_of count changes a ∷ kept (range_with_len (a + 1) n)) (kept (range_with_len (a + 1) n))) ≡ true) (sym first)
      (ap (λ b. b || list_any (λ (p : Part). eqb p.shard s) (kept (range_with_len (a + 1) n))) (eq-eqb a s (sym here))))
      (cases_lt a s)

some-list : (changes : List Change) → changes ≢ [] → is_some_list changes ≡ true
some-list [] some = absurd (some refl)
some-list (change ∷ changes) some = refl

pub list-some : (changes : List Change) → is_some_list changes ≡ true → changes ≢ []
list-some [] some = absurd (false≢true some)
list-some (change ∷ changes) some = λ none. cc

module _ (before after : Graph) (count : ℕ) where
  abbrev changed : List Change
  changed = changes_between before after

  -- the first part that is left
  pub first-made : (k : ℕ) (part : Part) (rest : List Part) → drop k (parts_between before after count) ≡ part ∷ rest → IsMade count changed part
  first-made k part rest = holds-first (IsMade count changed) k (parts_between before after count) part rest (each-made count changed 0 count (omega arith))

  pub first-later : (k : ℕ) (part : Part) (rest : List Part) → drop k (parts_between before after count) ≡ part ∷ rest →
      list_any (λ (p : Part). eqb p.shard part.shard) (take k (parts_between before after count)) ≡ false
  first-later k part rest is = (later-first k 0 (parts_between before after count) part rest (rise-kept count changed 0 count) is).1

  pub first-least : (k : ℕ) (part : Part) (rest : List Part) → drop k (parts_between before after count) ≡ part ∷ rest → k ≤ part.shard
  first-least k part rest is = let least = (later-first k 0 (parts_between before after count) part rest (rise-kept count changed 0 count) is).0 in omega (arith, least)

  -- a shard in which something is changed
  pub part-among : (s : ℕ) → s < count → (part_of count changed s).changes ≢ [] → list_any (λ (p : Part). eqb p.shard s) (parts_between before after count) ≡ true
  part-among s within some = has-part count changed 0 count s (omega arith) (omega (arith, within)) (some-list (part_of count changed s).changes some)
