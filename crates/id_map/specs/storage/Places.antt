-- The places of ids: those of low ids in a table, the others in an ordered map.
use Rattle.std.specs.Prelude.{◌≡◌, ℕ, ◌+◌, ◌-◌, ◌<◌, ◌≤◌, ◌==◌, if◌then◌else◌, List, [], ◌∷◌, ◌++◌, length, Option, None, Some}
use Rattle.std.specs.BTreeMap.{is_at}
use Rattle.std.specs.FinMap as map
use Rattle.std.specs.Map.{lookup}
use Rattle.std.specs.Ordering.{nat_cmp}

-- the first id that the table has no room for
abbrev pub table_bound : ℕ
table_bound = 4194304

-- the place that an entry of the table tells: 0 tells none
abbrev pub place_told : ℕ → Option ℕ
place_told entry = if entry == 0 then None else Some (entry - 1)

-- the ids that the entries give a place, each with it, where the first entry is that of `id`
abbrev pub places_from : ℕ → List ℕ → List (ℕ × ℕ)
places_from id [] = []
places_from id (entry ∷ entries) = if entry == 0 then places_from (id + 1) entries else (id, entry - 1) ∷ places_from (id + 1) entries

-- the place of each id
abbrev pub all_places : List ℕ → List (ℕ × ℕ) → map.FinMap nat_cmp ℕ
all_places near far = map.from_entries (places_from 0 near ++ far)

-- the place that an ordered map has for an id
abbrev pub far_place : List (ℕ × ℕ) → ℕ → Option ℕ
far_place far id = lookup (is_at (nat_cmp id)) far

-- the table ends at the bound, and the ordered map begins there
pub record IsSplit (near : List ℕ) (far : List (ℕ × ℕ)) : Type 0 where
  pub bounded : length near ≤ table_bound
  pub apart : (id : ℕ) → id < table_bound → far_place far id ≡ None
