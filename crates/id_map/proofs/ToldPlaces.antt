-- What the table and the ordered map tell of an id, and that all that they tell ascends.
use Rattle.std.proofs.Common.{◌≡◌, ◌<◌, ◌≤◌, ◌+◌, ◌-◌, ℕ, zero, suc, true, false, eqb, cond, List, [], ◌∷◌, ◌++◌, length, get_or, set, refl, sym, ap, subst, ◌∙◌, Option, None, Some, arith}
use Rattle.std.specs.BTreeMap.{is_at}
use Rattle.std.specs.Cmp.{nat_cmp_total}
use Rattle.std.specs.FinMap as maps
use Rattle.std.specs.FinMap.Entries.{find}
use Rattle.std.specs.List.{AllByRecursion}
use Rattle.std.specs.List.Sorted.{IsStrictlySortedBy}
use Rattle.std.specs.Map.{keys_of}
use Rattle.std.specs.Option.{is_some, option_or}
use Rattle.std.specs.Ordering.{nat_cmp}
use Rattle.std.specs.declared.cmp.Ordering.TheVariants.{Less}
use Rattle.std.proofs.lemmas.Bool.{false≢true, eqb-true}
use Rattle.std.proofs.lemmas.Bool.Decides.{nat_tests}
use Rattle.std.proofs.lemmas.List.{get_or_past, get_or-set_same, get_or-set_other, map-append}
use Rattle.id_map.specs.storage.Places.{place_told, places_from, all_places, far_place, table_bound, IsSplit}
use Rattle.id_map.proofs.OneChange.{put_in, taken_out}
use Rattle.shared_lemmas.proofs.Ascending.{AllBelow, IsStrictlySortedBy-append}
use Rattle.shared_lemmas.proofs.Claims.{all-weaker}
use Rattle.shared_lemmas.proofs.OrderedMaps.{entries-seen, find-append, lookup-find}
use Rattle.shared_lemmas.proofs.Orderings.{nat-test}

pub told-next : (place : ℕ) → place_told (place + 1) ≡ Some place
told-next place =
    let some : eqb (place + 1) 0 ≡ false = grind (arith, nat_tests) in
    let back : place + 1 - 1 ≡ place = omega arith in
    ap (λ b. cond b None (Some (place + 1 - 1))) some ∙ ap Some back

-- no id before the first has a place
find-before : (q id : ℕ) (entries : List ℕ) → q < id → find nat_cmp q (places_from id entries) ≡ None
find-before q id [] below = refl
find-before q id (entry ∷ entries) below =
    let rest = find-before q (id + 1) entries (omega arith) in
    let other : eqb q id ≡ false = grind (arith, nat_tests) in
    elim (eqb entry 0) as (λ b. find nat_cmp q (cond b (places_from (id + 1) entries) ((id, entry - 1) ∷ places_from (id + 1) entries)) ≡ None) [
      | true ↦ rest
      | false ↦ ap (λ b. cond b (Some (entry - 1)) (find nat_cmp q (places_from (id + 1) entries))) (nat-test q id ∙ other) ∙ rest
    ]

find-from : (id k : ℕ) (entries : List ℕ) → find nat_cmp (id + k) (places_from id entries) ≡ place_told (get_or entries k 0)
find-from id k [] = refl
find-from id zero (entry ∷ entries) =
    let first : id + 0 ≡ id = omega arith in
    let itself : eqb id id ≡ true = grind (arith, nat_tests) in
    rw first (elim (eqb entry 0) as (λ b. find nat_cmp id (cond b (places_from (id + 1) entries) ((id, entry - 1) ∷ places_from (id + 1) entries)) ≡ cond b None (Some (entry - 1))) [
      | true ↦ find-before id (id + 1) entries (omega arith)
      | false ↦ ap (λ b. cond b (Some (entry - 1)) (find nat_cmp id (places_from (id + 1) entries))) (nat-test id id ∙ itself)
    ])
find-from id (suc k) (entry ∷ entries) =
    let next : id + 1 + k ≡ id + suc k = omega arith in
    let other : eqb (id + suc k) id ≡ false = grind (arith, nat_tests) in
    let rest : find nat_cmp (id + suc k) (places_from (id + 1) entries) ≡ place_told (get_or entries k 0) = subst (λ q. find nat_cmp q (places_from (id + 1) entries) ≡ place_told (get_or entries k 0)) next (find-from (id + 1) k entries) in
    elim (eqb entry 0) as (λ b. find nat_cmp (id + suc k) (cond b (places_from (id + 1) entries) ((id, entry - 1) ∷ places_from (id + 1) entries)) ≡ place_told (get_or entries k 0)) [
      | true ↦ rest
      | false ↦ ap (λ b. cond b (Some (entry - 1)) (find nat_cmp (id + suc k) (places_from (id + 1) entries))) (nat-test (id + suc k) id ∙ other) ∙ rest
    ]

find-table : (near : List ℕ) (q : ℕ) → find nat_cmp q (places_from 0 near) ≡ place_told (get_or near q 0)
find-table near q =
    let first : 0 + q ≡ q = omega arith in
    subst (λ id. find nat_cmp id (places_from 0 near) ≡ place_told (get_or near q 0)) first (find-from 0 q near)

-- what both tell of an id
abbrev told_of : List ℕ → List (ℕ × ℕ) → ℕ → Option ℕ
told_of near far id = option_or (place_told (get_or near id 0)) (far_place far id)

get-all_places : (near : List ℕ) (far : List (ℕ × ℕ)) (q : ℕ) → maps.get (all_places near far) q ≡ told_of near far q
get-all_places near far q =
    maps.get-from_entries nat_cmp_total _ q
    ∙ find-append nat_cmp q (places_from 0 near) far
    ∙ (λ i. option_or (find-table near q i) (sym (lookup-find nat_cmp q far) i))

or_nothing : {X : Type 0} (o : Option X) → option_or o None ≡ o
or_nothing None = refl
or_nothing (Some x) = refl

-- within the table its entry tells, and past it the ordered map
pub get-near : (near : List ℕ) (far : List (ℕ × ℕ)) (id : ℕ) → IsSplit near far → id < length near → maps.get (all_places near far) id ≡ place_told (get_or near id 0)
get-near near far id split within =
    get-all_places near far id
    ∙ ap (option_or (place_told (get_or near id 0))) (split.apart id (omega (arith, split.bounded)))
    ∙ or_nothing _

pub get-far : (near : List ℕ) (far : List (ℕ × ℕ)) (id : ℕ) → length near ≤ id → maps.get (all_places near far) id ≡ far_place far id
get-far near far id past =
    get-all_places near far id ∙ ap (λ entry. option_or (place_told entry) (far_place far id)) (get_or_past near id 0 past)

pub nowhere : all_places [] [] ≡ maps.empty
nowhere = maps.same_map nat_cmp_total maps.nat_cmp-IsAntisymmetric _ _ (λ q. get-all_places [] [] q ∙ sym (maps.get-empty nat_cmp q))

-- an entry is written, and the ordered map has nothing for its id
near-written : (near left : List ℕ) (far : List (ℕ × ℕ)) (id entry : ℕ) → far_place far id ≡ None → ((k : ℕ) → get_or left k 0 ≡ cond (eqb k id) entry (get_or near k 0)) → (q : ℕ) → maps.get (all_places left far) q ≡ cond (eqb q id) (place_told entry) (maps.get (all_places near far) q)
near-written near left far id entry none is q =
    get-all_places left far q
    ∙ ap (λ n. option_or (place_told n) (far_place far q)) (is q)
    ∙ elim (eqb q id) as (λ b. eqb q id ≡ b → option_or (place_told (cond b entry (get_or near q 0))) (far_place far q) ≡ cond b (place_told entry) (told_of near far q)) [
      | true ↦ λ e. ap (option_or (place_told entry)) (ap (far_place far) (eqb-true q id e) ∙ none) ∙ or_nothing _
      | false ↦ λ _. refl
    ] refl
    ∙ ap (cond (eqb q id) (place_told entry)) (sym (get-all_places near far q))

-- the ordered map is written at an id, and the table has nothing for it
far-written : (near : List ℕ) (far left : List (ℕ × ℕ)) (id : ℕ) (told : Option ℕ) → length near ≤ id → ((q : ℕ) → far_place left q ≡ cond (is_at (nat_cmp id) q) told (far_place far q)) → (q : ℕ) → maps.get (all_places near left) q ≡ cond (eqb q id) told (maps.get (all_places near far) q)
far-written near far left id told past is q =
    let turned : is_at (nat_cmp id) q ≡ eqb q id = nat-test id q ∙ grind (arith, nat_tests) in
    get-all_places near left q
    ∙ ap (option_or (place_told (get_or near q 0))) (is q ∙ ap (λ b. cond b told (far_place far q)) turned)
    ∙ elim (eqb q id) as (λ b. eqb q id ≡ b → option_or (place_told (get_or near q 0)) (cond b told (far_place far q)) ≡ cond b told (told_of near far q)) [
      | true ↦ λ e. ap (λ entry. option_or (place_told entry) told) (ap (λ k. get_or near k 0) (eqb-true q id e) ∙ get_or_past near id 0 past)
      | false ↦ λ _. refl
    ] refl
    ∙ ap (cond (eqb q id) told) (sym (get-all_places near far q))

pub near-put : (near left : List ℕ) (far : List (ℕ × ℕ)) (id place : ℕ) → far_place far id ≡ None → ((k : ℕ) → get_or left k 0 ≡ cond (eqb k id) (place + 1) (get_or near k 0)) → all_places left far ≡ maps.insert (all_places near far) id place
near-put near left far id place none is =
    put_in _ id _ place (λ q. near-written near left far id (place + 1) none is q ∙ ap (λ o. cond (eqb q id) o (maps.get (all_places near far) q)) (told-next place))

pub far-put : (near : List ℕ) (far left : List (ℕ × ℕ)) (id place : ℕ) → length near ≤ id → ((q : ℕ) → far_place left q ≡ cond (is_at (nat_cmp id) q) (Some place) (far_place far q)) → all_places near left ≡ maps.insert (all_places near far) id place
far-put near far left id place past is = put_in _ id _ place (far-written near far left id (Some place) past is)

-- an entry that is set to 0
pub near-taken : (near : List ℕ) (far : List (ℕ × ℕ)) (id : ℕ) → IsSplit near far → id < length near → all_places (set near id 0) far ≡ maps.remove (all_places near far) id
near-taken near far id split within =
    taken_out _ id _ (near-written near (set near id 0) far id 0 (split.apart id (omega (arith, split.bounded))) (λ k. elim (eqb k id) as (λ b. eqb k id ≡ b → get_or (set near id 0) k 0 ≡ cond b 0 (get_or near k 0)) [
      | true ↦ λ e. ap (λ j. get_or (set near id 0) j 0) (eqb-true k id e) ∙ get_or-set_same near id 0 0 within
      | false ↦ λ e. get_or-set_other near id k 0 0 (grind (arith, nat_tests))
    ] refl))

pub far-taken : (near : List ℕ) (far left : List (ℕ × ℕ)) (id : ℕ) → length near ≤ id → ((q : ℕ) → far_place left q ≡ cond (is_at (nat_cmp id) q) None (far_place far q)) → all_places near left ≡ maps.remove (all_places near far) id
far-taken near far left id past is = taken_out _ id _ (far-written near far left id None past is)

-- an entry of the ordered map that is written leaves it past the table
pub IsSplit-far : (near : List ℕ) (far left : List (ℕ × ℕ)) (id : ℕ) (told : Option ℕ) → (table_bound ≤ id) → ((q : ℕ) → far_place left q ≡ cond (is_at (nat_cmp id) q) told (far_place far q)) → IsSplit near far → IsSplit near left
IsSplit-far near far left id told past is split = record {
  bounded = split.bounded;
  apart = λ q below.
      let other : is_at (nat_cmp id) q ≡ false = nat-test id q ∙ grind (arith, nat_tests) in
      is q ∙ ap (λ b. cond b told (far_place far q)) other ∙ split.apart q below;
}

-- what is told ascends

abbrev IsWithin : ℕ → ℕ → ℕ → Type 0
IsWithin low high id = (low ≤ id) × (id < high)

keys_within : (id : ℕ) (entries : List ℕ) → AllByRecursion (IsWithin id (id + length entries)) (keys_of (places_from id entries))
keys_within id [] = tt
keys_within id (entry ∷ entries) =
    let rest = all-weaker (IsWithin (id + 1) (id + 1 + length entries)) (IsWithin id (id + suc (length entries))) (λ k h. (omega (arith, h.0), omega (arith, h.1))) _ (keys_within (id + 1) entries) in
    elim (eqb entry 0) as (λ b. AllByRecursion (IsWithin id (id + suc (length entries))) (keys_of (cond b (places_from (id + 1) entries) ((id, entry - 1) ∷ places_from (id + 1) entries)))) [
      | true ↦ rest
      | false ↦ ((omega arith, omega arith), rest)
    ]

keys_ascend : (id : ℕ) (entries : List ℕ) → IsStrictlySortedBy nat_cmp (keys_of (places_from id entries))
unfolding IsStrictlySortedBy
keys_ascend id [] = tt
keys_ascend id (entry ∷ entries) =
    let above = all-weaker (IsWithin (id + 1) (id + 1 + length entries)) (λ k. nat_cmp id k ≡ Less) (λ k h. grind (arith, nat_tests, h.0)) _ (keys_within (id + 1) entries) in
    elim (eqb entry 0) as (λ b. IsStrictlySortedBy nat_cmp (keys_of (cond b (places_from (id + 1) entries) ((id, entry - 1) ∷ places_from (id + 1) entries)))) [
      | true ↦ keys_ascend (id + 1) entries
      | false ↦ (above, keys_ascend (id + 1) entries)
    ]

-- where nothing is found below a bound, no key is below it
keys_past : (bound : ℕ) (es : List (ℕ × ℕ)) → ((id : ℕ) → id < bound → find nat_cmp id es ≡ None) → AllByRecursion (λ k. bound ≤ k) (keys_of es)
keys_past bound [] none = tt
keys_past bound (e ∷ es) none =
    let itself : eqb e.0 e.0 ≡ true = grind (arith, nat_tests) in
    let first : e.0 < bound → ⊥ = λ below. false≢true (ap is_some (sym (none e.0 below) ∙ ap (λ b. cond b (Some e.1) (find nat_cmp e.0 es)) (nat-test e.0 e.0 ∙ itself))) in
    let other : (id : ℕ) → id < bound → eqb id e.0 ≡ false = λ id below. elim (eqb id e.0) as (λ b. eqb id e.0 ≡ b → b ≡ false) [
      | true ↦ λ t. absurd (first (subst (λ k. k < bound) (eqb-true id e.0 t) below))
      | false ↦ λ _. refl
    ] refl in (
      grind (arith, first),
      keys_past bound es (λ id below. ap (λ b. cond b (Some e.1) (find nat_cmp id es)) (sym (nat-test id e.0 ∙ other id below)) ∙ none id below),
    )

apart_from : (bound : ℕ) (xs ys : List ℕ) → AllByRecursion (λ k. k < bound) xs → AllByRecursion (λ k. bound ≤ k) ys → AllBelow nat_cmp xs ys
apart_from bound [] ys low high = tt
apart_from bound (x ∷ xs) ys low high =
    (all-weaker (λ k. bound ≤ k) (λ k. nat_cmp x k ≡ Less) (λ k h. let below : x < k = omega (arith, low.0, h) in grind (arith, nat_tests)) ys high, apart_from bound xs ys low.1 high)

pub entries-all_places : (near : List ℕ) (far : List (ℕ × ℕ)) → IsSplit near far → IsStrictlySortedBy nat_cmp (keys_of far) → maps.entries (all_places near far) ≡ places_from 0 near ++ far
entries-all_places near far split sorted =
    let low = all-weaker (IsWithin 0 (0 + length near)) (λ k. k < table_bound) (λ k h. omega (arith, h.1, split.bounded)) _ (keys_within 0 near) in
    let high = keys_past table_bound far (λ id below. sym (lookup-find nat_cmp id far) ∙ split.apart id below) in
    entries-seen nat_cmp_total _
    (subst (IsStrictlySortedBy nat_cmp) (sym (map-append (λ (e : ℕ × ℕ). e.0) (places_from 0 near) far))
    (IsStrictlySortedBy-append nat_cmp _ _ (keys_ascend 0 near) sorted (apart_from table_bound _ _ low high)))
