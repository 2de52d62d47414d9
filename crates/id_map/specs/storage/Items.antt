-- The items of ids, by way of their places.
use Rattle.std.specs.Prelude.{◌≡◌, ℕ, List, [], ◌∷◌, Option, None, Some, IsSome}
use Rattle.std.specs.FinMap as map
use Rattle.std.specs.Ordering.{nat_cmp}
use Rattle.slab.specs.Slab.{Slab, get}

module _ {T : Type 0} where
  -- an id with its item stands first, where there is an item
  abbrev pub with_found : ℕ → Option T → List (ℕ × T) → List (ℕ × T)
  with_found id None rest = rest
  with_found id (Some item) rest = (id, item) ∷ rest

  -- each id with the item at its place
  abbrev pub items_at : Slab T → List (ℕ × ℕ) → List (ℕ × T)
  items_at items [] = []
  items_at items (e ∷ places) = with_found e.0 (get items e.1) (items_at items places)

  -- the item of each id
  abbrev pub all_items : Slab T → map.FinMap nat_cmp ℕ → map.FinMap nat_cmp T
  all_items items places = map.from_entries (items_at items (map.entries places))

  -- each place has an item, and no two ids share one
  pub record IsPlaced (items : Slab T) (places : map.FinMap nat_cmp ℕ) : Type 0 where
    pub occupied : (id place : ℕ) → map.get places id ≡ Some place → IsSome (get items place)
    pub apart : (x y place : ℕ) → map.get places x ≡ Some place → map.get places y ≡ Some place → x ≡ y
