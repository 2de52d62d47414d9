-- Look-ups and changes of cells by their keys.
use Rattle.std.proofs.Common.{◌≡◌, ◌<◌, ◌≤◌, ◌+◌, ◌*◌, ◌/◌, ◌%◌, ℕ, true, false, cond, eqb, ltb, IsTrue, map as mapped, Option, None, Some, refl, sym, ap, subst, ◌∙◌, arith}
use Rattle.std.specs.Cmp.{both_ways, nat_cmp_total}
use Rattle.std.specs.FinMap as map
use Rattle.std.specs.Option.{is_some}
use Rattle.std.specs.Ordering.{nat_cmp}
use Rattle.std.proofs.lemmas.Bool.{eqb-true, false≢true}
use Rattle.std.proofs.lemmas.Bool.Decides.{nat_tests}
use Rattle.id_map.proofs.OneChange.{get-put, get-taken, put_in, taken_out}
use Rattle.shared_lemmas.specs.meaning.Membership.{IsIn}
use Rattle.shared_lemmas.proofs.FiniteMaps.{IsIn-keys}
use Rattle.shared_lemmas.proofs.Membership.{IsIn-map}
use Rattle.update_rules.proofs.Lookups.{member-from_in}
use Rattle.version_cell.specs.meaning.Cell.{Timeline}
use Rattle.shard_state.specs.declared.class.Class.{Class}
use Rattle.shard_state.specs.storage.Cells.{Cells}
use Rattle.shard_state.specs.storage.KeyedCells.{Owns, cell_of, cells_of}
use Rattle.shard_state.specs.storage.Keys.{key_of, table_end, vertex_at}
use Rattle.shard_state.proofs.KnownMaps.{get-map_of_known}

-- the numbers alone, whatever the bound is
module _ (bound number shards v : ℕ) (within : number < shards) (own : v % shards ≡ number) where
  vertex-near : v < bound → cond (ltb (v / shards) bound) (v / shards * shards + number) (v / shards) ≡ v
  vertex-near near =
      let some : 0 < shards = omega arith in
      let lower : v / shards ≤ v = omega arith in
      let below : ltb (v / shards) bound ≡ true = grind (arith, nat_tests) in
      let back : v / shards * shards + number ≡ v = omega arith in
      ap (λ b. cond b (v / shards * shards + number) (v / shards)) below ∙ back

  pub vertex-key : cond (ltb (cond (ltb v bound) (v / shards) v) bound) (cond (ltb v bound) (v / shards) v * shards + number) (cond (ltb v bound) (v / shards) v) ≡ v
  vertex-key = elim (ltb v bound) as (λ b. ltb v bound ≡ b → cond (ltb (cond b (v / shards) v) bound) (cond b (v / shards) v * shards + number) (cond b (v / shards) v) ≡ v) [
    | true ↦ λ near. vertex-near (grind (arith, nat_tests))
    | false ↦ λ far. ap (λ b. cond b (v * shards + number) v) far
  ] refl

module _ (class : Class) where
  -- the key of a vertex of the class tells it
  vertex-key_of : (v : ℕ) → Owns class v → vertex_at class.number class.shards (key_of class.shards v) ≡ v
  vertex-key_of v own = vertex-key table_end class.number class.shards v class.within own

  -- so no two of them share a key
  key-test : (v w : ℕ) → Owns class v → Owns class w → eqb (key_of class.shards w) (key_of class.shards v) ≡ eqb w v
  key-test v w own other = both_ways _ _
      (λ same. let is : w ≡ v = sym (vertex-key_of w other) ∙ ap (vertex_at class.number class.shards) (eqb-true _ _ same) ∙ vertex-key_of v own in grind (arith, nat_tests))
      (λ same. let is : w ≡ v = eqb-true w v same in let keys : key_of class.shards w ≡ key_of class.shards v = ap (key_of class.shards) is in grind (arith, nat_tests))

  vertex-in : (items : Cells) (v : ℕ) → IsTrue (is_some (cell_of class items v)) → IsIn v (mapped (vertex_at class.number class.shards) (map.keys items))
  vertex-in items v = elim (eqb (v % class.shards) class.number) as (λ b. eqb (v % class.shards) class.number ≡ b →
      IsTrue (is_some (cond b (map.get items (key_of class.shards v)) None)) → IsIn v (mapped (vertex_at class.number class.shards) (map.keys items))) [
        | true ↦ λ own some. subst (λ u. IsIn u (mapped (vertex_at class.number class.shards) (map.keys items))) (vertex-key_of v (eqb-true _ _ own))
            (IsIn-map (vertex_at class.number class.shards) (key_of class.shards v) (map.keys items) (IsIn-keys nat_cmp_total items map.nat_cmp-IsAntisymmetric (key_of class.shards v) some))
        | false ↦ λ _ some. absurd (false≢true some)
      ] refl

  get-cells_of : (items : Cells) (v : ℕ) → map.get (cells_of class items) v ≡ cell_of class items v
  unfolding cells_of
  get-cells_of items v =
      get-map_of_known nat_cmp_total map.nat_cmp-IsAntisymmetric (cell_of class items) (mapped (vertex_at class.number class.shards) (map.keys items))
      (λ w some. member-from_in nat_cmp_total map.nat_cmp-IsAntisymmetric w (mapped (vertex_at class.number class.shards) (map.keys items)) (vertex-in items w some)) v

  -- the cell of a vertex of the class is at its key, and no other has one
  pub get-owned : (items : Cells) (v : ℕ) → Owns class v → map.get (cells_of class items) v ≡ map.get items (key_of class.shards v)
  get-owned items v own =
      let here : eqb (v % class.shards) class.number ≡ true = grind (arith, nat_tests) in
      get-cells_of items v ∙ ap (λ b. cond b (map.get items (key_of class.shards v)) None) here

  pub get-foreign : (items : Cells) (v : ℕ) → eqb (v % class.shards) class.number ≡ false → map.get (cells_of class items) v ≡ None
  get-foreign items v apart = get-cells_of items v ∙ ap (λ b. cond b (map.get items (key_of class.shards v)) None) apart

  pub cells-empty : (items : Cells) → items ≡ map.empty → cells_of class items ≡ map.empty
  cells-empty items none = map.same_map nat_cmp_total map.nat_cmp-IsAntisymmetric _ _ (λ v.
      get-cells_of items v
      ∙ ap (λ m. cell_of class m v) none
      ∙ ap (λ o. cond (eqb (v % class.shards) class.number) o None) (map.get-empty {X = Timeline} nat_cmp (key_of class.shards v))
      ∙ elim (eqb (v % class.shards) class.number) as (λ b. ◌≡◌ {A = Option Timeline} (cond b None None) None) [ true ↦ refl | false ↦ refl ]
      ∙ sym (map.get-empty {X = Timeline} nat_cmp v))

  -- one key is written at
  module _ (items : Cells) (v : ℕ) (own : Owns class v) where
    written : (left : Cells) (o : Option Timeline) → ((k : ℕ) → map.get left k ≡ cond (eqb k (key_of class.shards v)) o (map.get items k)) →
        (w : ℕ) → map.get (cells_of class left) w ≡ cond (eqb w v) o (map.get (cells_of class items) w)
    written left o is w = elim (eqb (w % class.shards) class.number) as (λ b. eqb (w % class.shards) class.number ≡ b →
        map.get (cells_of class left) w ≡ cond (eqb w v) o (map.get (cells_of class items) w)) [
          | true ↦ λ test.
              let other : Owns class w = eqb-true _ _ test in
              get-owned left w other
              ∙ is (key_of class.shards w)
              ∙ (λ i. cond (key-test v w own other i) o (sym (get-owned items w other) i))
          | false ↦ λ apart.
              let differ : eqb w v ≡ false = elim (eqb w v) as (λ b. eqb w v ≡ b → b ≡ false) [
                | true ↦ λ same.
                    let here : w % class.shards ≡ class.number = ap (λ u. u % class.shards) (eqb-true w v same) ∙ own in
                    let test : eqb (w % class.shards) class.number ≡ true = grind (arith, nat_tests) in
                    sym test ∙ apart
                | false ↦ λ _. refl
              ] refl in
              get-foreign left w apart
              ∙ sym (get-foreign items w apart)
              ∙ ap (λ b. cond b o (map.get (cells_of class items) w)) (sym differ)
        ] refl

    pub cells-insert : (cell : Timeline) → cells_of class (map.insert items (key_of class.shards v) cell) ≡ map.insert (cells_of class items) v cell
    cells-insert cell = put_in (cells_of class items) v _ cell (written _ (Some cell) (get-put items (key_of class.shards v) cell))

    pub cells-remove : cells_of class (map.remove items (key_of class.shards v)) ≡ map.remove (cells_of class items) v
    cells-remove = taken_out (cells_of class items) v _ (written _ None (get-taken items (key_of class.shards v)))
