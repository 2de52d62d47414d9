-- That the graph which shards hold is the one that is joined from them.
use Rattle.std.proofs.Common.{◌≡◌, ◌<◌, ◌-◌, ◌%◌, ℕ, true, false, cond, nat_lt, eqb, min, max, IsTrue, List, [], ◌∷◌, map as mapped, length, Option, None, Some, unwrap_or, refl, sym, ap, subst, ◌∙◌, inl, inr, arith}
use Rattle.std.specs.Cmp.{nat_cmp_total}
use Rattle.std.specs.FinMap as map
use Rattle.std.specs.List.{cons_option, filter_map}
use Rattle.std.specs.Option.{is_some}
use Rattle.std.proofs.lemmas.Bool.{false≢true}
use Rattle.std.proofs.lemmas.Bool.Decides.{nat_tests}
use Rattle.graph_types.specs.meaning.Graph.{Graph, edge_between, label_between}
use Rattle.graph_types.proofs.Graph.{pair_cmp-IsAntisymmetric}
use Rattle.graph_types.specs.meaning.Orders.{pair_cmp_total}
use Rattle.graph_types.specs.meaning.Neighbourhood.{pair_in}
use Rattle.shared_lemmas.specs.meaning.Membership.{IsIn}
use Rattle.shared_lemmas.proofs.Booleans.{none_from}
use Rattle.shared_lemmas.proofs.FiniteMaps.{IsIn-keys}
use Rattle.shared_lemmas.proofs.Membership.{IsIn-get_or, IsIn-map}
use Rattle.update_rules.specs.meaning.Places.{Place, place_cmp}
use Rattle.update_rules.proofs.Lookups.{member-from_in}
use Rattle.update_rules.proofs.Places.{place_cmp_total, place_cmp-IsAntisymmetric}
use Rattle.shard_state.specs.meaning.Joining.{Hold, HoldGraph, ends_of_place, joined_edge, joined_entry, joined_graph, places_of_shards, shard_of_vertex}
use Rattle.shard_state.specs.meaning.Shards.{ShardValue, empty_shard, entry_after, pair_of_vertex}
use Rattle.shard_state.specs.meaning.Versions.{Versions, no_versions, standing_after}
use Rattle.shard_state.proofs.CellEntries.{IsIn-flat_map}
use Rattle.shard_state.proofs.KnownMaps.{get-map_of_known}
use Rattle.shard_state.proofs.PairsTold.{IsIn-cons_option, pair-in_graphs}

-- where something stands, a shard knows the place
module _ (t : ℕ) (p : Place) where
  known-place : (shard : ShardValue) (o : Option Versions) → map.get shard.entries p ≡ o → IsTrue (is_some (entry_after shard p t)) → IsIn p (map.keys shard.entries)
  known-place shard None is some = absurd (false≢true (sym (ap (λ (o : Option Versions). is_some (standing_after (unwrap_or o no_versions) t)) is) ∙ some))
  known-place shard (Some versions) is some = IsIn-keys place_cmp_total shard.entries place_cmp-IsAntisymmetric p (ap is_some is)

  listed-place : (shards : List ShardValue) → IsTrue (is_some (joined_entry shards t p)) → IsIn p (places_of_shards shards)
  listed-place [] some = absurd (false≢true (sym (ap (λ (o : Option Versions). is_some (standing_after (unwrap_or o no_versions) t)) (map.get-empty place_cmp p)) ∙ some))
  listed-place (shard ∷ shards) some =
      let own = shard_of_vertex (shard ∷ shards) p.0 in
      let within : p.0 % length (shard ∷ shards) < length (shard ∷ shards) = omega arith in
      IsIn-flat_map (λ (s : ShardValue). map.keys s.entries) own p (shard ∷ shards)
      (IsIn-get_or (shard ∷ shards) (p.0 % length (shard ∷ shards)) (empty_shard 0 1) within)
      (known-place own (map.get own.entries p) refl some)

IsIn-filter_map : {A B : Type 0} (f : A → Option B) (x : A) (y : B) (xs : List A) → IsIn x xs → f x ≡ Some y → IsIn y (filter_map f xs)
IsIn-filter_map f x y [] here is = absurd here
IsIn-filter_map f x y (z ∷ xs) (inl same) is = subst (λ o. IsIn y (cons_option o (filter_map f xs))) (sym (ap f (sym same) ∙ is)) (inl refl)
IsIn-filter_map f x y (z ∷ xs) (inr here) is = IsIn-cons_option (f z) y (filter_map f xs) (IsIn-filter_map f x y xs here is)

module _ (shards : List ShardValue) (t : ℕ) where
  some-edge : (e : ℕ × ℕ) → IsTrue (is_some (joined_edge shards t e)) → IsTrue (is_some (joined_entry shards t (e.0, Some e.1)))
  some-edge e some =
      elim (nat_lt e.0 e.1) as (λ b. IsTrue (is_some (cond b (joined_entry shards t (e.0, Some e.1)) None)) → IsTrue (is_some (joined_entry shards t (e.0, Some e.1)))) [
        | true ↦ λ there. there
        | false ↦ λ there. absurd (false≢true there)
      ] some

  get-labels : (v : ℕ) → map.get (joined_graph shards t).labels v ≡ joined_entry shards t (v, None)
  get-labels =
      get-map_of_known nat_cmp_total map.nat_cmp-IsAntisymmetric (λ v. joined_entry shards t (v, None)) (mapped (λ (p : Place). p.0) (places_of_shards shards))
      (λ v some. member-from_in nat_cmp_total map.nat_cmp-IsAntisymmetric v (mapped (λ (p : Place). p.0) (places_of_shards shards))
      (IsIn-map (λ (p : Place). p.0) (v, None) (places_of_shards shards) (listed-place t (v, None) shards some)))

  get-edges : (e : ℕ × ℕ) → map.get (joined_graph shards t).edges e ≡ joined_edge shards t e
  get-edges =
      get-map_of_known pair_cmp_total pair_cmp-IsAntisymmetric (joined_edge shards t) (filter_map (λ (p : Place). ends_of_place p.0 p.1) (places_of_shards shards))
      (λ e some. member-from_in pair_cmp_total pair_cmp-IsAntisymmetric e (filter_map (λ (p : Place). ends_of_place p.0 p.1) (places_of_shards shards))
      (IsIn-filter_map (λ (p : Place). ends_of_place p.0 p.1) (e.0, Some e.1) e (places_of_shards shards) (listed-place t (e.0, Some e.1) shards (some-edge e some)) refl))

  module _ (g : Graph) (hold : Hold shards t g) where
    no-edge : (e : ℕ × ℕ) → nat_lt e.0 e.1 ≡ false → map.get g.edges e ≡ None
    no-edge e over =
        none_from (map.get g.edges e) (elim (map.contains_key g.edges e) as (λ b. map.contains_key g.edges e ≡ b → b ≡ false) [
          | true ↦ λ has. let lower : e.0 < e.1 = hold.simple.lower_first e has in let test : nat_lt e.0 e.1 ≡ true = grind (arith, nat_tests) in cc
          | false ↦ λ _. refl
        ] refl)

    between-is : (x y : ℕ) → x < y → label_between g x y ≡ map.get g.edges (x, y)
    between-is x y lower =
        let apart : eqb x y ≡ false = grind (arith, nat_tests) in
        let low : min x y ≡ x = omega arith in
        let high : max x y ≡ y = omega arith in
        ap (λ b. cond b None (map.get g.edges (edge_between x y))) apart ∙ (λ i. map.get g.edges (low i, high i))

    edge-is : (e : ℕ × ℕ) → joined_edge shards t e ≡ map.get g.edges e
    edge-is e =
        elim (nat_lt e.0 e.1) as (λ b. nat_lt e.0 e.1 ≡ b → cond b (joined_entry shards t (e.0, Some e.1)) None ≡ map.get g.edges e) [
          | true ↦ λ test. let lower : e.0 < e.1 = grind (arith, nat_tests) in hold.entries (e.0, Some e.1) ∙ between-is e.0 e.1 lower
          | false ↦ λ over. sym (no-edge e over)
        ] refl

    -- the graph that they hold is the joined one
    pub joined-is : joined_graph shards t ≡ g
    joined-is =
        let labels = map.same_map nat_cmp_total map.nat_cmp-IsAntisymmetric (joined_graph shards t).labels g.labels (λ v. get-labels v ∙ hold.entries (v, None)) in
        let edges = map.same_map pair_cmp_total pair_cmp-IsAntisymmetric (joined_graph shards t).edges g.edges (λ e. get-edges e ∙ edge-is e) in
        λ i. record { labels = labels i; edges = edges i }

-- the shard of a vertex is one of them
pub shard-among : (shards : List ShardValue) (v : ℕ) → 0 < length shards → IsIn (shard_of_vertex shards v) shards
shard-among shards v some = let within : v % length shards < length shards = omega arith in IsIn-get_or shards (v % length shards) (empty_shard 0 1) within

-- what the shard of a vertex tells of it is its pair in the graphs before and after
pub pair-joined : (shards : List ShardValue) (t : ℕ) → HoldGraph shards (t - 1) → HoldGraph shards t → (v : ℕ) →
    pair_of_vertex (shard_of_vertex shards v) v t ≡ pair_in (joined_graph shards (t - 1)) (joined_graph shards t) v
pair-joined shards t before after v =
    pair-in_graphs (shard_of_vertex shards v) v t before.0 after.0 before.1.simple after.1.simple (λ to. before.1.entries (v, to)) (λ to. after.1.entries (v, to))
    ∙ (λ i. pair_in (sym (joined-is shards (t - 1) before.0 before.1) i) (sym (joined-is shards t after.0 after.1) i) v)
