-- Lists from which the changes up to a timestamp are taken.
use Rattle.std.proofs.Common.{◌≡◌, ℕ, Bool, true, false, cond, IsTrue, List, [], ◌∷◌, refl, sym, ap, subst, ◌∙◌, Option, None, Some}
use Rattle.std.specs.FinMap as map
use Rattle.std.specs.List.Sorted.{IsStrictlySortedBy}
use Rattle.std.specs.Map.{keys_of}
use Rattle.std.specs.Map.Calls.{RetainsPairs}
use Rattle.std.specs.Option.{is_some}
use Rattle.std.specs.Ordering.{nat_cmp, eq_by_cmp}
use Rattle.std.proofs.lemmas.Bool.{false≢true}
use Rattle.std.proofs.lemmas.Map.Keys.{sorted_head, sorted_tail}
use Rattle.graph_types.proofs.Rows.{find-below}
use Rattle.shared_lemmas.proofs.Orderings.{same_item}
use Rattle.version_cell.specs.declared.change.Change.{Change}
use Rattle.version_cell.specs.meaning.Cell.{changes_of}
use Rattle.version_cell.specs.meaning.Changes.{Track, changes_after}
use Rattle.version_cell.specs.storage.Tracks.{is_changed}

no_change : (changes : List Change) → is_changed changes ≡ false → changes ≡ []
no_change [] none = refl
no_change (change ∷ later) none = absurd (false≢true (sym none))

-- the changes after t are left, and a list only where there are some
pub record IsForgotten (t : ℕ) (old new : Option Track) : Type 0 where
  pub rest : changes_of new ≡ changes_after (changes_of old) t
  pub left : IsTrue (is_some new) → IsTrue (is_changed (changes_of new))

forgotten-none : (t : ℕ) → IsForgotten t None None
forgotten-none t = record { rest = refl; left = λ has. absurd (false≢true has) }

-- where each call of the closure takes the changes up to t from a list, tells whether any are left, and leaves the closure
module _ {F : Type 0} (T : F → ℕ → Track → Bool → Track → F → Type 0) (f : F) (t : ℕ)
    (each : (k : ℕ) (v : Track) (b : Bool) (w : Track) (g : F) → T f k v b w g → (w.changes ≡ changes_after v.changes t) × (b ≡ is_changed w.changes) × (g ≡ f)) where
  pub retained : (es kept : List (ℕ × Track)) → IsStrictlySortedBy nat_cmp (keys_of es) → RetainsPairs T f es kept →
      (w : ℕ) → IsForgotten t (map.find nat_cmp w es) (map.find nat_cmp w kept)
  retained [] kept sorted retains w = subst (λ ks. IsForgotten t None (map.find nat_cmp w ks)) (sym retains) (forgotten-none t)
  retained (e ∷ es) kept sorted retains w =
      let said = each e.0 e.1 retains.0 retains.1 retains.2 retains.4 in
      let later : IsForgotten t (map.find nat_cmp w es) (map.find nat_cmp w retains.3) = retained es retains.3 (sorted_tail nat_cmp _ _ sorted) (subst (λ g. RetainsPairs T g es retains.3) said.2 retains.5) w in
      subst (λ ks. IsForgotten t (cond (eq_by_cmp nat_cmp w e.0) (Some e.1) (map.find nat_cmp w es)) (map.find nat_cmp w ks)) (sym retains.6)
      (elim retains.0 as (λ b. retains.0 ≡ b → IsForgotten t (cond (eq_by_cmp nat_cmp w e.0) (Some e.1) (map.find nat_cmp w es)) (map.find nat_cmp w (cond b ((e.0, retains.1) ∷ retains.3) retains.3))) [
        | true ↦ λ stays. elim (eq_by_cmp nat_cmp w e.0) as (λ c. IsForgotten t (cond c (Some e.1) (map.find nat_cmp w es)) (cond c (Some retains.1) (map.find nat_cmp w retains.3))) [
          | true ↦ record { rest = said.0; left = λ _. sym said.1 ∙ stays }
          | false ↦ later
        ]
        | false ↦ λ goes. elim (eq_by_cmp nat_cmp w e.0) as (λ c. eq_by_cmp nat_cmp w e.0 ≡ c → IsForgotten t (cond c (Some e.1) (map.find nat_cmp w es)) (map.find nat_cmp w retains.3)) [
          | true ↦ λ same.
              let none : map.find nat_cmp w es ≡ None = ap (λ u. map.find nat_cmp u es) (same_item map.nat_cmp-IsAntisymmetric w e.0 same) ∙ find-below nat_cmp e.0 es (sorted_head nat_cmp _ _ sorted) in
              record {
                rest = later.rest ∙ ap (λ o. changes_after (changes_of o) t) none ∙ sym (no_change retains.1.changes (sym said.1 ∙ goes)) ∙ said.0;
                left = later.left;
              }
          | false ↦ λ _. later
        ] refl
      ] refl)
