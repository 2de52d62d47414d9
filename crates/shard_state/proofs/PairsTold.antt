-- What a shard tells of a vertex, by its cell and by graphs.
use Rattle.std.proofs.Common.{◌≡◌, ◌-◌, ℕ, true, false, cond, eqb, List, [], ◌∷◌, ◌++◌, map as mapped, Option, None, Some, unwrap_or, refl, sym, ap, subst, ◌∙◌, inl, inr, eq-eqb}
use Rattle.std.specs.Cmp.{nat_cmp_total}
use Rattle.std.specs.FinMap as map
use Rattle.std.specs.List.{cons_option, list_any}
use Rattle.std.specs.Option.{is_some}
use Rattle.std.specs.Ordering.{eq_by_cmp, nat_cmp}
use Rattle.graph_types.specs.meaning.Graph.{Graph}
use Rattle.graph_types.specs.meaning.Neighbourhood.{Neighbourhood, either_near, near_at, neighbourhood_of, pair_in, pair_of}
use Rattle.graph_types.specs.meaning.Simple.{IsSimple}
use Rattle.graph_types.proofs.Neighbourhoods.{near-neighbourhood_of}
use Rattle.graph_types.proofs.Pairs.{same_neighbourhood}
use Rattle.shared_lemmas.specs.meaning.Membership.{IsIn}
use Rattle.shared_lemmas.proofs.FiniteMaps.{IsIn-keys, entries-empty}
use Rattle.shared_lemmas.proofs.Membership.{list_any_at}
use Rattle.std.specs.Cmp.{eq_by_cmp_equiv}
use Rattle.update_rules.specs.meaning.Places.{Place, entry_at}
use Rattle.update_rules.proofs.Places.{place_cmp_total, place_cmp-IsAntisymmetric}
use Rattle.version_cell.specs.meaning.Cell.{Timeline, neighbourhood_after as cell_after, pair_at}
use Rattle.version_cell.proofs.Labels.{get-label_map, near-neighbourhood_after}
use Rattle.shard_state.specs.meaning.Shards.{ShardValue, ends_from, entry_after, neighbourhood_after, no_pair, pair_of_vertex}
use Rattle.shard_state.specs.meaning.Versions.{Versions, no_versions, standing_after}
use Rattle.shard_state.specs.storage.Cells.{Cells, entries_of, versions_in, versions_known}
use Rattle.shard_state.proofs.CellEntries.{Know-entries_of}
use Rattle.shard_state.proofs.Knowing.{versions_of-known}

pub IsIn-cons_option : {A : Type 0} (o : Option A) (x : A) (xs : List A) → IsIn x xs → IsIn x (cons_option o xs)
IsIn-cons_option None x xs here = here
IsIn-cons_option (Some y) x xs here = inr here

IsIn-ends : (v w : ℕ) (places : List Place) → IsIn (v, Some w) places → IsIn w (ends_from v places)
IsIn-ends v w [] here = absurd here
IsIn-ends v w (p ∷ places) (inl same) =
    subst (λ o. IsIn w (cons_option o (ends_from v places)))
    (sym (ap (λ (q : Place). cond (eqb q.0 v) q.1 None) (sym same) ∙ ap (λ b. cond b (Some w) None) (eq-eqb v v refl))) (inl refl)
IsIn-ends v w (p ∷ places) (inr here) = IsIn-cons_option (cond (eqb p.0 v) p.1 None) w (ends_from v places) (IsIn-ends v w places here)

module _ (shard : ShardValue) (v t : ℕ) where
  unknown-end : (w : ℕ) (o : Option Versions) → map.get shard.entries (v, Some w) ≡ o → list_any (eq_by_cmp nat_cmp w) (ends_from v (map.keys shard.entries)) ≡ false → entry_after shard (v, Some w) t ≡ None
  unknown-end w None is absent = ap (λ (o : Option Versions). standing_after (unwrap_or o no_versions) t) is
  unknown-end w (Some versions) is absent =
      let place = IsIn-ends v w (map.keys shard.entries) (IsIn-keys place_cmp_total shard.entries place_cmp-IsAntisymmetric (v, Some w) (ap is_some is)) in
      let found = list_any_at (eq_by_cmp nat_cmp w) w (ends_from v (map.keys shard.entries)) place ((eq_by_cmp_equiv nat_cmp_total).refl w) in
      cc

  -- the neighbours are those to which an edge leads then
  pub near-neighbourhood : (w : ℕ) → map.get (neighbourhood_after shard v t).near w ≡ entry_after shard (v, Some w) t
  near-neighbourhood w =
      get-label_map (λ u. entry_after shard (v, Some u) t) (ends_from v (map.keys shard.entries)) w
      ∙ elim (list_any (eq_by_cmp nat_cmp w) (ends_from v (map.keys shard.entries))) as (λ b. list_any (eq_by_cmp nat_cmp w) (ends_from v (map.keys shard.entries)) ≡ b → cond b (entry_after shard (v, Some w) t) None ≡ entry_after shard (v, Some w) t) [
        | true ↦ λ _. refl
        | false ↦ λ absent. sym (unknown-end w (map.get shard.entries (v, Some w)) refl absent)
      ] refl

  pub neighbourhood-is : (at : Neighbourhood) → at.label ≡ entry_after shard (v, None) t → ((w : ℕ) → map.get at.near w ≡ entry_after shard (v, Some w) t) → neighbourhood_after shard v t ≡ at
  neighbourhood-is at label near = same_neighbourhood (neighbourhood_after shard v t) at (sym label) (λ w. near-neighbourhood w ∙ sym (near w))

  -- what stands in a graph
  pub neighbourhood-in_graph : (g : Graph) → IsSimple g → ((to : Option ℕ) → entry_after shard (v, to) t ≡ entry_at g (v, to)) → neighbourhood_after shard v t ≡ neighbourhood_of g v
  neighbourhood-in_graph g simple entries = neighbourhood-is (neighbourhood_of g v) (sym (entries None)) (λ w. near-neighbourhood_of g simple v w ∙ sym (entries (Some w)))

-- the pair is that of two graphs
pub pair-in_graphs : (shard : ShardValue) (v t : ℕ) (before after : Graph) → IsSimple before → IsSimple after →
    ((to : Option ℕ) → entry_after shard (v, to) (t - 1) ≡ entry_at before (v, to)) → ((to : Option ℕ) → entry_after shard (v, to) t ≡ entry_at after (v, to)) → pair_of_vertex shard v t ≡ pair_in before after v
pair-in_graphs shard v t before after simple_before simple_after was is =
    λ i. pair_of (neighbourhood-in_graph shard v (t - 1) before simple_before was i) (neighbourhood-in_graph shard v t after simple_after is i)

-- with the entries of cells
module _ (number shards upto floor : ℕ) (cells : Cells) where
  abbrev pub seen : ShardValue
  seen = record { number = number; shards = shards; upto = upto; floor = floor; entries = entries_of cells }

  entry-known : (p : Place) (t : ℕ) (o : Option Timeline) → map.get cells p.0 ≡ o → entry_after seen p t ≡ standing_after (versions_known o p.1) t
  entry-known p t o is = ap (λ x. standing_after x t) (versions_of-known (entries_of cells) (versions_in cells) (Know-entries_of cells) p ∙ ap (λ c. versions_known c p.1) is)

  module _ (v : ℕ) (cell : Timeline) (has : map.get cells v ≡ Some cell) where
    neighbourhood-cell : (t : ℕ) → neighbourhood_after seen v t ≡ cell_after cell t
    neighbourhood-cell t =
        neighbourhood-is seen v t (cell_after cell t) (sym (entry-known (v, None) t (Some cell) has))
        (λ w. near-neighbourhood_after cell t w ∙ sym (entry-known (v, Some w) t (Some cell) has))

    -- the pair is that of the cell
    pub pair-of_cell : (t : ℕ) → pair_at cell t ≡ pair_of_vertex seen v t
    pair-of_cell t = λ i. pair_of (sym (neighbourhood-cell (t - 1)) i) (sym (neighbourhood-cell t) i)

  -- without a cell there is nothing
  nothing_there : (v : ℕ) → map.get cells v ≡ None → (t : ℕ) → neighbourhood_after seen v t ≡ record { label = None; near = map.empty }
  nothing_there v none t =
      neighbourhood-is seen v t (record { label = None; near = map.empty }) (sym (entry-known (v, None) t None none))
      (λ w. map.get-empty nat_cmp w ∙ sym (entry-known (v, Some w) t None none))

  pub pair-without_cell : (v t : ℕ) → map.get cells v ≡ None → no_pair ≡ pair_of_vertex seen v t
  pair-without_cell v t none = empty_pair ∙ (λ i. pair_of (sym (nothing_there v none (t - 1)) i) (sym (nothing_there v none t) i))
    where
      no_entries : map.entries (map.empty {X = ℕ} {R = nat_cmp}) ≡ []
      no_entries = entries-empty nat_cmp

      empty_pair : no_pair ≡ pair_of (record { label = None; near = map.empty }) (record { label = None; near = map.empty })
      empty_pair = λ i. record { before = None; after = None; near = no_near i }
        where
          no_near : [] ≡ mapped (near_at map.empty map.empty) (either_near map.empty map.empty)
          no_near =
              ap (λ es. mapped (near_at map.empty map.empty) (mapped (λ e. e.0) es)) (sym no_entries)
              ∙ ap (λ es. mapped (near_at map.empty map.empty) (map.keys (map.from_entries {R = nat_cmp} (es ++ es)))) (sym no_entries)
