-- What a pair tells, entry by entry.
use Rattle.std.proofs.Common.{◌≡◌, ℕ, Bool, true, false, ◌||◌, eqb, List, [], ◌∷◌, IsTrue, ap, refl, sym, ◌∙◌, map as mapped}
use Rattle.std.specs.Cmp.{nat_cmp_total, tied_itself}
use Rattle.std.specs.FinMap as map
use Rattle.std.specs.List.{AllByRecursion, list_any}
use Rattle.std.specs.List.Sorted.{IsStrictlySortedBy}
use Rattle.std.specs.Ordering.{nat_cmp, eq_by_cmp, is_eq}
use Rattle.std.proofs.lemmas.Bool.{eqb-true, false≢true}
use Rattle.graph_types.specs.declared.near.Near.{Near}
use Rattle.graph_types.specs.meaning.Neighbourhood.{Neighbourhood, either_near, near_at, near_of}
use Rattle.graph_types.specs.storage.Ahead.{near_ends}
use Rattle.graph_types.specs.storage.Found.{is_near}
use Rattle.graph_types.proofs.Listing.{same_list}
use Rattle.graph_types.proofs.Merging.{Lists-either, is_either}
use Rattle.graph_types.proofs.Rows.{nat-test}
use Rattle.graph_types.proofs.Skipping.{near_ends-near_of}
use Rattle.shared_lemmas.proofs.Claims.{all-found, all-weaker}

both_ways : (a b : Bool) → (a ≡ true → b ≡ true) → (b ≡ true → a ≡ true) → a ≡ b
both_ways true b there back = sym (there refl)
both_ways false true there back = back refl
both_ways false false there back = refl

-- neighbourhoods with the same look-ups are the same
pub same_neighbourhood : (a b : Neighbourhood) → a.label ≡ b.label → ((w : ℕ) → map.get a.near w ≡ map.get b.near w) → a ≡ b
same_neighbourhood a b label near =
    let alike = map.same_map nat_cmp_total map.nat_cmp-IsAntisymmetric a.near b.near near in
    λ i. record { label = label i; near = alike i }

-- an entry has what both neighbourhoods have at its vertex, and one of them has it
pub record IsEntry (before after : map.FinMap nat_cmp ℕ) (near : Near) : Type 0 where
  pub labels : near ≡ near_at before after near.to
  pub joined : IsTrue (is_near near)

module _ (before after : map.FinMap nat_cmp ℕ) where
  entries-at : (ws : List ℕ) → AllByRecursion (λ w. IsTrue (is_either before after w)) ws → AllByRecursion (IsEntry before after) (mapped (near_at before after) ws)
  entries-at [] joined = tt
  entries-at (w ∷ ws) joined = (record { labels = refl; joined = joined.0 }, entries-at ws joined.1)

  -- each of the neighbours is an entry
  pub entries-near_of : AllByRecursion (IsEntry before after) (near_of before after)
  entries-near_of =
      let ws = either_near before after in
      entries-at ws
      (all-weaker _ _ (λ w found. sym ((Lists-either before after).members w) ∙ found) ws
      (all-found (eq_by_cmp nat_cmp) (λ w. ap is_eq (tied_itself nat_cmp_total w)) ws))

  -- each vertex that is near before or after has an entry
  pub listed-near_of : (w : ℕ) → list_any (eqb w) (near_ends (near_of before after)) ≡ is_either before after w
  listed-near_of w =
      ap (list_any (eqb w)) (near_ends-near_of before after)
      ∙ (λ i. list_any (λ v. sym (nat-test w v) i) (either_near before after))
      ∙ (Lists-either before after).members w

  entries-alike : (near : List Near) → AllByRecursion (IsEntry before after) near → near ≡ mapped (near_at before after) (near_ends near)
  entries-alike [] entries = refl
  entries-alike (n ∷ near) entries = λ i. entries.0.labels i ∷ entries-alike near entries.1 i

  joined-at : (w : ℕ) (near : List Near) → AllByRecursion (IsEntry before after) near → list_any (eqb w) (near_ends near) ≡ true → is_either before after w ≡ true
  joined-at w [] entries found = absurd (false≢true found)
  joined-at w (n ∷ near) entries found =
      elim (eqb w n.to) as (λ b. eqb w n.to ≡ b → (b || list_any (eqb w) (near_ends near)) ≡ true → is_either before after w ≡ true) [
        | true ↦ λ same _.
            ap (is_either before after) (eqb-true w n.to same) ∙ ap is_near (sym entries.0.labels) ∙ entries.0.joined
        | false ↦ λ _ later. joined-at w near entries.1 later
      ] refl found

  -- entries that ascend, one for each vertex that is near before or after, are the neighbours
  pub near_of-only : (near : List Near) → IsStrictlySortedBy nat_cmp (near_ends near) → AllByRecursion (IsEntry before after) near →
      ((w : ℕ) → IsTrue (is_either before after w) → list_any (eqb w) (near_ends near) ≡ true) → near ≡ near_of before after
  near_of-only near ascending entries complete =
      entries-alike near entries
      ∙ ap (mapped (near_at before after))
      (same_list nat_cmp_total map.nat_cmp-IsAntisymmetric (is_either before after) (near_ends near) (either_near before after)
      (record {
        ascending = ascending;
        members = λ w.
            (λ i. list_any (λ v. nat-test w v i) (near_ends near))
            ∙ both_ways _ _ (joined-at w near entries) (complete w);
      })
      (Lists-either before after))
