-- Vertices that are skipped on the way up, and the neighbours that lead to those that are left.
use Rattle.std.proofs.Common.{◌≡◌, ◌<◌, ◌≤◌, ◌+◌, ℕ, suc, Bool, true, false, ◌||◌, eqb, nat_lt, cond, List, [], ◌∷◌, ◌++◌, length, drop, take_while, map as mapped, filter, slice_get, append-nil, append_assoc, None, Some, refl, sym, ap, subst, ◌∙◌, arith}
use Rattle.std.specs.FinMap as map
use Rattle.std.specs.List.{AllByRecursion, list_any, prefix_len}
use Rattle.std.specs.List.Sorted.{IsStrictlySortedBy}
use Rattle.std.specs.Option.{is_some, unwrap_or}
use Rattle.std.specs.Ordering.{nat_cmp}
use Rattle.std.specs.declared.cmp.Ordering.TheVariants.{Less}
use Rattle.std.proofs.lemmas.Bool.{false≢true}
use Rattle.std.proofs.lemmas.Bool.Decides.{nat_tests}
use Rattle.std.proofs.lemmas.List.Folds.{length-prefix_len}
use Rattle.std.proofs.lemmas.List.Sums.{prefix_len-le-length}
use Rattle.std.proofs.lemmas.Map.Keys.{sorted_head, sorted_tail}
use Rattle.graph_types.specs.declared.near.Near.{Near}
use Rattle.graph_types.specs.meaning.Neighbourhood.{either_near, leads_among, near_at, near_of}
use Rattle.graph_types.specs.storage.Ahead.{above, near_ends}
use Rattle.graph_types.proofs.Merging.{Lists-either}

none_at : (v : ℕ) (ws : List ℕ) → AllByRecursion (λ w. nat_cmp v w ≡ Less) ws → list_any (eqb v) ws ≡ false
none_at v [] higher = refl
none_at v (w ∷ ws) higher =
    let less = higher.0 in
    let apart : eqb v w ≡ false = grind (arith, nat_tests) in
    ap (λ b. b || list_any (eqb v) ws) apart ∙ none_at v ws higher.1

all_higher : (v x : ℕ) (ws : List ℕ) → v < x → AllByRecursion (λ w. nat_cmp x w ≡ Less) ws → AllByRecursion (λ w. nat_cmp v w ≡ Less) ws
all_higher v x [] below higher = tt
all_higher v x (w ∷ ws) below higher =
    let less = higher.0 in
    (grind (arith, nat_tests), all_higher v x ws below higher.1)

drop_prefix : (v : ℕ) (ws : List ℕ) → drop (prefix_len (λ w. nat_lt w v) ws) ws ≡ above v ws
drop_prefix v [] = refl
drop_prefix v (w ∷ ws) =
    let k = prefix_len (λ u. nat_lt u v) ws in
    let one : 1 + k ≡ suc k = omega arith in
    elim (nat_lt w v) as (λ b. drop (cond b (1 + k) 0) (w ∷ ws) ≡ cond b (above v ws) (w ∷ ws)) [
      | true ↦ ap (λ n. drop n (w ∷ ws)) one ∙ drop_prefix v ws
      | false ↦ refl
    ]

-- to drop as many as are below v first leaves those not below it
pub drop-below : (v : ℕ) (ws : List ℕ) → drop (length (take_while (λ w. nat_lt w v) ws)) ws ≡ above v ws
drop-below v ws = ap (λ n. drop n ws) (length-prefix_len (λ w. nat_lt w v) ws) ∙ drop_prefix v ws

pub count-below : (v : ℕ) (ws : List ℕ) → length (take_while (λ w. nat_lt w v) ws) ≤ length ws
count-below v ws = subst (λ n. n ≤ length ws) (sym (length-prefix_len (λ w. nat_lt w v) ws)) (prefix_len-le-length (λ w. nat_lt w v) ws)

abbrev starts_with : ℕ → List ℕ → Bool
starts_with v [] = false
starts_with v (w ∷ ws) = eqb v w

-- v is among them where it is the first of those not below it
starts_with-above : (v : ℕ) (ws : List ℕ) → IsStrictlySortedBy nat_cmp ws → list_any (eqb v) ws ≡ starts_with v (above v ws)
starts_with-above v [] sorted = refl
starts_with-above v (w ∷ ws) sorted =
    elim (nat_lt w v) as (λ b. nat_lt w v ≡ b → (eqb v w || list_any (eqb v) ws) ≡ starts_with v (cond b (above v ws) (w ∷ ws))) [
      | true ↦ λ e.
          let apart : eqb v w ≡ false = grind (arith, nat_tests) in
          ap (λ b. b || list_any (eqb v) ws) apart ∙ starts_with-above v ws (sorted_tail nat_cmp _ _ sorted)
      | false ↦ λ e. elim (eqb v w) as (λ b. eqb v w ≡ b → (b || list_any (eqb v) ws) ≡ b) [
        | true ↦ λ _. refl
        | false ↦ λ apart.
            let below : v < w = grind (arith, nat_tests) in
            none_at v ws (all_higher v w ws below (sorted_head nat_cmp _ _ sorted))
      ] refl
    ] refl

-- to skip those below v takes none that is above it
kept_above : (v u : ℕ) (ws : List ℕ) → v < u → list_any (eqb u) ws ≡ list_any (eqb u) (above v ws)
kept_above v u [] below = refl
kept_above v u (w ∷ ws) below =
    elim (nat_lt w v) as (λ b. nat_lt w v ≡ b → (eqb u w || list_any (eqb u) ws) ≡ list_any (eqb u) (cond b (above v ws) (w ∷ ws))) [
      | true ↦ λ e.
          let apart : eqb u w ≡ false = grind (arith, nat_tests) in
          ap (λ b. b || list_any (eqb u) ws) apart ∙ kept_above v u ws below
      | false ↦ λ e. refl
    ] refl

sorted-above : (v : ℕ) (ws : List ℕ) → IsStrictlySortedBy nat_cmp ws → IsStrictlySortedBy nat_cmp (above v ws)
sorted-above v [] sorted = sorted
sorted-above v (w ∷ ws) sorted =
    elim (nat_lt w v) as (λ b. IsStrictlySortedBy nat_cmp (cond b (above v ws) (w ∷ ws))) [
      | true ↦ sorted-above v ws (sorted_tail nat_cmp _ _ sorted)
      | false ↦ sorted
    ]

filter-alike : {A : Type 0} (p q : A → Bool) (xs : List A) → AllByRecursion (λ x. p x ≡ q x) xs → filter p xs ≡ filter q xs
filter-alike p q [] alike = refl
filter-alike p q (x ∷ xs) alike = λ i. cond (alike.0 i) (x ∷ filter-alike p q xs alike.1 i) (filter-alike p q xs alike.1 i)

later : (v : ℕ) (ws : List ℕ) (near : List Near) → AllByRecursion (λ u. nat_cmp v u ≡ Less) (near_ends near) → AllByRecursion (λ n. leads_among ws n ≡ leads_among (above v ws) n) near
later v ws [] higher = tt
later v ws (n ∷ near) higher =
    let less = higher.0 in
    let below : v < n.to = grind (arith, nat_tests) in
    (kept_above v n.to ws below, later v ws near higher.1)

-- one neighbour more, of which it is told whether it leads to one of the vertices
filter-above : (n : Near) (near : List Near) (ws : List ℕ) → IsStrictlySortedBy nat_cmp (n.to ∷ near_ends near) → IsStrictlySortedBy nat_cmp ws →
    filter (leads_among ws) (n ∷ near) ≡ cond (starts_with n.to (above n.to ws)) (n ∷ filter (leads_among (above n.to ws)) near) (filter (leads_among (above n.to ws)) near)
filter-above n near ws ascending sorted =
    let rest = filter-alike _ _ near (later n.to ws near (sorted_head nat_cmp _ _ ascending)) in
    λ i. cond (starts_with-above n.to ws sorted i) (n ∷ rest i) (rest i)

-- no neighbour leads to none
filter-nothing : (near : List Near) → filter (leads_among []) near ≡ []
filter-nothing [] = refl
filter-nothing (n ∷ near) = filter-nothing near

starts-first : (v w : ℕ) (ws : List ℕ) → Some w ≡ slice_get ws 0 → starts_with v ws ≡ eqb v w
starts-first v w [] at = absurd (false≢true (sym (ap is_some at)))
starts-first v w (x ∷ ws) at = ap (λ o. eqb v (unwrap_or o x)) (sym at)

nothing-first : (ws : List ℕ) → None ≡ slice_get ws 0 → ws ≡ []
nothing-first [] at = refl
nothing-first (w ∷ ws) at = absurd (false≢true (ap is_some at))

-- what is listed, and what of `ahead` leads to one of the vertices, is the whole; both ascend
pub record IsListing (list ahead : List Near) (ws : List ℕ) (whole : List Near) : Type 0 where
  pub same : list ++ filter (leads_among ws) ahead ≡ whole
  pub ascending : IsStrictlySortedBy nat_cmp (near_ends ahead)
  pub sorted : IsStrictlySortedBy nat_cmp ws

-- the next neighbour is taken, and the vertices below it are skipped
module _ (list ahead : List Near) (ws : List ℕ) (whole : List Near) (listing : IsListing list ahead ws whole)
    (n : Near) (near : List Near) (left : List ℕ) (is : ahead ≡ n ∷ near) (skipped : left ≡ above n.to ws) where
  ascends : IsStrictlySortedBy nat_cmp (n.to ∷ near_ends near)
  ascends = subst (λ ns. IsStrictlySortedBy nat_cmp (near_ends ns)) is listing.ascending

  comes : list ++ cond (starts_with n.to left) (n ∷ filter (leads_among left) near) (filter (leads_among left) near) ≡ whole
  comes =
      (λ i. list ++ cond (starts_with n.to (skipped i)) (n ∷ filter (leads_among (skipped i)) near) (filter (leads_among (skipped i)) near))
      ∙ ap (λ ns. list ++ ns) (sym (filter-above n near ws ascends listing.sorted))
      ∙ ap (λ ns. list ++ filter (leads_among ws) ns) (sym is)
      ∙ listing.same

  goes_on : (longer : List Near) → longer ++ filter (leads_among left) near ≡ whole → IsListing longer near left whole
  goes_on longer same = record {
    same = same;
    ascending = sorted_tail nat_cmp _ _ ascends;
    sorted = subst (IsStrictlySortedBy nat_cmp) (sym skipped) (sorted-above n.to ws listing.sorted);
  }

  pub listed : (w : ℕ) → Some w ≡ slice_get left 0 → eqb n.to w ≡ true → IsListing (list ++ n ∷ []) near left whole
  listed w first alike =
      goes_on (list ++ n ∷ [])
      (append_assoc list (n ∷ []) _
      ∙ ap (λ b. list ++ cond b (n ∷ filter (leads_among left) near) (filter (leads_among left) near)) (sym (starts-first n.to w left first ∙ alike))
      ∙ comes)

  pub passed : (w : ℕ) → Some w ≡ slice_get left 0 → eqb n.to w ≡ false → IsListing list near left whole
  passed w first apart =
      goes_on list
      (ap (λ b. list ++ cond b (n ∷ filter (leads_among left) near) (filter (leads_among left) near)) (sym (starts-first n.to w left first ∙ apart))
      ∙ comes)

  pub ended : None ≡ slice_get left 0 → list ≡ whole
  ended none =
      sym (append-nil list)
      ∙ ap (λ ns. list ++ ns) (sym (filter-nothing near))
      ∙ ap (λ vs. list ++ cond (starts_with n.to vs) (n ∷ filter (leads_among vs) near) (filter (leads_among vs) near)) (sym (nothing-first left none))
      ∙ comes

near_ends-map : (m n : map.FinMap nat_cmp ℕ) (ws : List ℕ) → near_ends (mapped (near_at m n) ws) ≡ ws
near_ends-map m n [] = refl
near_ends-map m n (w ∷ ws) = ap (λ vs. w ∷ vs) (near_ends-map m n ws)

pub near_ends-near_of : (m n : map.FinMap nat_cmp ℕ) → near_ends (near_of m n) ≡ either_near m n
near_ends-near_of m n = near_ends-map m n (either_near m n)

-- the neighbours in two graphs ascend
pub near_of-ascends : (m n : map.FinMap nat_cmp ℕ) → IsStrictlySortedBy nat_cmp (near_ends (near_of m n))
near_of-ascends m n = subst (IsStrictlySortedBy nat_cmp) (sym (near_ends-near_of m n)) (Lists-either m n).ascending
