-- Entries, by what is known at each place.
use Rattle.std.proofs.Common.{◌≡◌, ℕ, true, false, cond, IsTrue, List, [], ◌∷◌, ◌++◌, Option, None, Some, unwrap_or, refl, sym, ap, ◌∙◌}
use Rattle.std.specs.FinMap as map
use Rattle.std.specs.Option.{is_some}
use Rattle.std.specs.Ordering.{eq_by_cmp}
use Rattle.std.proofs.lemmas.Bool.{false≢true}
use Rattle.shared_lemmas.proofs.Orderings.{same_item}
use Rattle.update_rules.specs.declared.changes.Change.{Change}
use Rattle.update_rules.specs.meaning.Places.{Place, place_cmp}
use Rattle.update_rules.proofs.Places.{place_cmp_total, place_cmp-IsAntisymmetric}
use Rattle.version_cell.specs.declared.change.Change.{Change as Version}
use Rattle.shard_state.specs.calls.CellChanges.{noted_all, noted_at}
use Rattle.shard_state.specs.meaning.Shards.{Entries, folded_entries, place_of, version_of, versions_of, with_changes}
use Rattle.shard_state.specs.meaning.Versions.{Versions, folded_to, no_versions, some_of, some_versions, with_version}
use Rattle.shard_state.proofs.KnownMaps.{get-map_of_known}

-- the entries are those of which something is known
abbrev pub Know : Entries → (Place → Versions) → Type 0
Know entries known = (p : Place) → map.get entries p ≡ some_versions (known p)

unwrap-some_of : (at_floor : Option ℕ) (changes : List Version) → unwrap_or (some_of at_floor changes) no_versions ≡ record { at_floor = at_floor; changes = changes }
unwrap-some_of None [] = refl
unwrap-some_of None (change ∷ changes) = refl
unwrap-some_of (Some label) changes = refl

some_of-pushed : (at_floor : Option ℕ) (changes : List Version) (change : Version) → some_of at_floor (changes ++ change ∷ []) ≡ Some (record { at_floor = at_floor; changes = changes ++ change ∷ [] })
some_of-pushed None [] change = refl
some_of-pushed None (first ∷ changes) change = refl
some_of-pushed (Some label) changes change = refl

pub versions_of-known : (entries : Entries) (known : Place → Versions) → Know entries known → (p : Place) → versions_of entries p ≡ known p
versions_of-known entries known knows p = ap (λ o. unwrap_or o no_versions) (knows p) ∙ unwrap-some_of (known p).at_floor (known p).changes

-- entries of which the same is known are the same
pub same_entries : (one other : Entries) (known : Place → Versions) → Know one known → Know other known → one ≡ other
same_entries one other known knows also = map.same_map place_cmp_total place_cmp-IsAntisymmetric one other (λ p. knows p ∙ sym (also p))

pub Know-alike : (entries : Entries) (known other : Place → Versions) → Know entries known → ((p : Place) → other p ≡ known p) → Know entries other
Know-alike entries known other knows alike p = knows p ∙ ap some_versions (sym (alike p))

pub Know-empty : Know map.empty (λ _. no_versions)
Know-empty p = map.get-empty place_cmp p

-- one version more
pub Know-inserted : (entries : Entries) (known : Place → Versions) (at : Place) (version : Version) → Know entries known →
    Know (map.insert entries at (with_version (versions_of entries at) version)) (λ p. noted_at at version p (known p))
Know-inserted entries known at version knows p =
    map.get-insert place_cmp_total entries at (with_version (versions_of entries at) version) p
    ∙ elim (eq_by_cmp place_cmp p at) as (λ b. eq_by_cmp place_cmp p at ≡ b →
    cond b (Some (with_version (versions_of entries at) version)) (map.get entries p) ≡ some_versions (cond b (with_version (known p) version) (known p))) [
      | true ↦ λ same.
          ap (λ q. Some (with_version (versions_of entries q) version)) (sym (same_item place_cmp-IsAntisymmetric p at same))
          ∙ ap (λ x. Some (with_version x version)) (versions_of-known entries known knows p)
          ∙ sym (some_of-pushed (known p).at_floor (known p).changes version)
      | false ↦ λ _. knows p
    ] refl

pub Know-changed : (at : ℕ) (changes : List Change) (entries : Entries) (known : Place → Versions) → Know entries known → Know (with_changes at entries changes) (λ p. noted_all at changes p (known p))
Know-changed at [] entries known knows = knows
Know-changed at (change ∷ changes) entries known knows =
    Know-changed at changes (map.insert entries (place_of change) (with_version (versions_of entries (place_of change)) (version_of at change)))
    (λ p. noted_at (place_of change) (version_of at change) p (known p)) (Know-inserted entries known (place_of change) (version_of at change) knows)

-- folded
module _ (f : ℕ) (entries : Entries) where
  left_among : (p : Place) (o : Option Versions) → map.get entries p ≡ o → IsTrue (is_some (some_versions (folded_to f (unwrap_or o no_versions)))) → IsTrue (map.contains_key entries p)
  left_among p None is some = absurd (false≢true some)
  left_among p (Some versions) is some = ap is_some is

  get-folded : (p : Place) → map.get (folded_entries f entries) p ≡ some_versions (folded_to f (versions_of entries p))
  get-folded =
      get-map_of_known place_cmp_total place_cmp-IsAntisymmetric (λ p. some_versions (folded_to f (versions_of entries p))) (map.keys entries)
      (λ p some. sym (map.contains_key-keys entries p) ∙ left_among p (map.get entries p) refl some)

  pub Know-folded : (known : Place → Versions) → Know entries known → Know (folded_entries f entries) (λ p. folded_to f (known p))
  Know-folded known knows p = get-folded p ∙ ap (λ x. some_versions (folded_to f x)) (versions_of-known entries known knows p)

  pub versions_of-folded : (p : Place) → versions_of (folded_entries f entries) p ≡ folded_to f (versions_of entries p)
  versions_of-folded p = ap (λ o. unwrap_or o no_versions) (get-folded p) ∙ unwrap-some_of (folded_to f (versions_of entries p)).at_floor (folded_to f (versions_of entries p)).changes
