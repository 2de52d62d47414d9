-- That shards go on telling the graphs of a window.
use Rattle.std.proofs.Common.{◌≡◌, ◌<◌, ◌≤◌, ◌+◌, ◌-◌, ◌%◌, ⊎_elim, ℕ, zero, suc, Bool, true, false, cond, nat_le, eqb, min, max, List, [], ◌∷◌, map as mapped, length, Option, None, Some, unwrap_or, refl, sym, ap, subst, ◌∙◌, arith}
use Rattle.std.specs.FinMap as map
use Rattle.std.specs.List.{AllByRecursion}
use Rattle.std.specs.List.Sorted.{IsStrictlySortedBy}
use Rattle.std.specs.Ordering.{nat_cmp}
use Rattle.std.proofs.lemmas.Bool.{false≢true}
use Rattle.std.proofs.lemmas.Bool.Decides.{nat_tests}
use Rattle.graph_types.specs.meaning.Graph.{Graph, edge_between, empty_graph, pair_cmp}
use Rattle.graph_types.specs.meaning.Neighbourhood.{pair_in}
use Rattle.graph_types.specs.meaning.Simple.{IsSimple}
use Rattle.mining_model.specs.meaning.History.{graph_at}
use Rattle.shared_lemmas.proofs.Claims.{all-weaker}
use Rattle.shared_lemmas.proofs.Membership.{all-at}
use Rattle.update_rules.specs.declared.changes.Change.{Change}
use Rattle.update_rules.specs.meaning.Parts.{change_to}
use Rattle.update_rules.specs.meaning.Places.{Place, entry_at, entry_differs, place_cmp}
use Rattle.version_cell.specs.meaning.Changes.{IsAfterLast}
use Rattle.version_cell.specs.meaning.Floor.{AscendAbove}
use Rattle.version_cell.proofs.AboveFloor.{AscendAbove-after, AscendAbove-with_change}
use Rattle.version_cell.proofs.Folding.{label_after-folded}
use Rattle.shard_state.specs.calls.CellChanges.{noted_all}
use Rattle.shard_state.specs.calls.Fitting.{Fits}
use Rattle.shard_state.specs.calls.Viewing.{CanBeViewed}
use Rattle.shard_state.specs.meaning.Joining.{AreNumbered, Hold, shard_of_vertex}
use Rattle.shard_state.specs.meaning.Shards.{IsInOrder, IsOwn, ShardValue, applied, empty_shard, entry_after, label_of, pair_of_vertex, place_of, pruned, version_of, versions_of}
use Rattle.shard_state.specs.meaning.Telling.{AreSimple, Graphs, Tells, graph_of, last_of, part_at}
use Rattle.shard_state.specs.meaning.Versions.{Versions, no_versions, standing_after, with_version}
use Rattle.shard_state.proofs.GroupChanges.{label-change_to, part-ascends, part-complete, part-differs, part-own, place-change_to, same-entry}
use Rattle.shard_state.proofs.Histories.{IsAfterLast-changes_after, IsAfterLast-later, IsAfterLast-with_change, label_after-earlier, label_after-last, label_after-settled}
use Rattle.shard_state.proofs.Joined.{shard-among}
use Rattle.shard_state.proofs.Knowing.{versions_of-folded}
use Rattle.shard_state.proofs.Noting.{noted_all-found, noted_cases, versions_of-with_changes}
use Rattle.shard_state.proofs.PairsTold.{pair-in_graphs}

-- the graph at each timestamp is simple

simple-after : (g : Graph) (later : List Graph) → IsSimple g → AllByRecursion IsSimple later → (k : ℕ) → IsSimple (graph_at g later k)
simple-after g later first rest zero = first
simple-after g [] first rest (suc k) = first
simple-after g (next ∷ later) first rest (suc k) = simple-after next later rest.0 rest.1 k

pub simple-at : (graphs : Graphs) → AreSimple graphs → (t : ℕ) → IsSimple (graph_of graphs t)
simple-at graphs simple t = simple-after graphs.base graphs.later simple.base simple.later (t - graphs.first)

-- order

pub IsInOrder-empty : (number shards : ℕ) → IsInOrder (empty_shard number shards)
IsInOrder-empty number shards =
    let none : (p : Place) → versions_of map.empty p ≡ no_versions = λ p. ap (λ (o : Option Versions). unwrap_or o no_versions) (map.get-empty place_cmp p) in
    record {
      above = λ p. subst (λ (x : Versions). AscendAbove 0 x.changes) (sym (none p)) tt;
      by_last = λ p. subst (λ (x : Versions). IsAfterLast x.changes (0 + 1)) (sym (none p)) tt;
    }

module _ (shard : ShardValue) (in_order : IsInOrder shard) where
  module _ (changes : List Change) (at : ℕ) (ascending : IsStrictlySortedBy place_cmp (mapped place_of changes)) (later : shard.upto < at) (above : shard.floor < at) where
    last_before : (p : Place) → IsAfterLast (versions_of shard.entries p).changes at
    last_before p = let next : shard.upto + 1 ≤ at = omega arith in IsAfterLast-later (versions_of shard.entries p).changes (shard.upto + 1) at next (in_order.by_last p)

    applied-above : (p : Place) → AscendAbove shard.floor (noted_all at changes p (versions_of shard.entries p)).changes
    applied-above p =
        ⊎_elim (λ none. subst (λ (x : Versions). AscendAbove shard.floor x.changes) (sym none) (in_order.above p))
        (λ once. subst (λ (x : Versions). AscendAbove shard.floor x.changes) (sym once.noted)
        (AscendAbove-with_change shard.floor (versions_of shard.entries p).changes (version_of at once.change) (in_order.above p) above (last_before p)))
        (noted_cases at changes ascending p (versions_of shard.entries p))

    applied-last : (p : Place) → IsAfterLast (noted_all at changes p (versions_of shard.entries p)).changes (at + 1)
    applied-last p =
        let more : at ≤ at + 1 = omega arith in
        let next : at < at + 1 = omega arith in
        let before = IsAfterLast-later (versions_of shard.entries p).changes at (at + 1) more (last_before p) in
        ⊎_elim (λ none. subst (λ (x : Versions). IsAfterLast x.changes (at + 1)) (sym none) before)
        (λ once. subst (λ (x : Versions). IsAfterLast x.changes (at + 1)) (sym once.noted)
        (IsAfterLast-with_change (versions_of shard.entries p).changes (version_of at once.change) (at + 1) before next))
        (noted_cases at changes ascending p (versions_of shard.entries p))

    pub IsInOrder-applied : IsInOrder (applied shard changes at)
    IsInOrder-applied = record {
      above = λ p. subst (λ (x : Versions). AscendAbove shard.floor x.changes) (sym (versions_of-with_changes at changes shard.entries p)) (applied-above p);
      by_last = λ p. subst (λ (x : Versions). IsAfterLast x.changes (at + 1)) (sym (versions_of-with_changes at changes shard.entries p)) (applied-last p);
    }

  module _ (f : ℕ) where
    pub IsInOrder-pruned : IsInOrder (pruned shard f)
    IsInOrder-pruned =
        let most : shard.floor ≤ max shard.floor f = omega arith in
        record {
          above = λ p.
              subst (λ (x : Versions). AscendAbove (max shard.floor f) x.changes) (sym (versions_of-folded (max shard.floor f) shard.entries p))
              (AscendAbove-after shard.floor (max shard.floor f) (versions_of shard.entries p).changes most (in_order.above p));
          by_last = λ p.
              subst (λ (x : Versions). IsAfterLast x.changes (shard.upto + 1)) (sym (versions_of-folded (max shard.floor f) shard.entries p))
              (IsAfterLast-changes_after (versions_of shard.entries p).changes (max shard.floor f) (shard.upto + 1) (in_order.by_last p));
        }

    -- what it tells from the floor on stays
    entry-pruned : (p : Place) (t : ℕ) → max shard.floor f ≤ t → entry_after (pruned shard f) p t ≡ entry_after shard p t
    entry-pruned p t above =
        ap (λ x. standing_after x t) (versions_of-folded (max shard.floor f) shard.entries p)
        ∙ label_after-folded (versions_of shard.entries p).at_floor (versions_of shard.entries p).changes (max shard.floor f) t above

-- the beginning

pub Tells-begun : (graphs : Graphs) (shard : ShardValue) → IsInOrder shard → shard.upto ≤ graphs.first → ((p : Place) → IsOwn shard p.0 → entry_after shard p graphs.first ≡ entry_at graphs.base p) → Tells graphs graphs.first shard
Tells-begun graphs shard in_order before holds = record {
  from_first = omega arith;
  to_last = omega arith;
  upto = before;
  in_order = in_order;
  entries = λ p own t from above.
      let first : min t graphs.first - graphs.first ≡ 0 = omega arith in
      label_after-settled (versions_of shard.entries p).at_floor (versions_of shard.entries p).changes graphs.first t
      (let next : shard.upto + 1 ≤ graphs.first + 1 = omega arith in IsAfterLast-later (versions_of shard.entries p).changes (shard.upto + 1) (graphs.first + 1) next (in_order.by_last p)) from
      ∙ holds p own
      ∙ ap (λ k. entry_at (graph_at graphs.base graphs.later k) p) (sym first);
}

nothing-between : (b : Bool) (e : ℕ × ℕ) → cond b None (map.get (map.empty {X = ℕ} {R = pair_cmp}) e) ≡ None
nothing-between true e = refl
nothing-between false e = map.get-empty pair_cmp e

nothing-at : (v : ℕ) (to : Option ℕ) → entry_at empty_graph (v, to) ≡ None
nothing-at v None = map.get-empty nat_cmp v
nothing-at v (Some w) = nothing-between (eqb v w) (edge_between v w)

pub Tells-empty : (graphs : Graphs) (number shards : ℕ) → graphs.base ≡ empty_graph → Tells graphs graphs.first (empty_shard number shards)
Tells-empty graphs number shards empty =
    let little : 0 ≤ graphs.first = omega arith in
    Tells-begun graphs (empty_shard number shards) (IsInOrder-empty number shards) little
    (λ p own. ap (λ (o : Option Versions). standing_after (unwrap_or o no_versions) graphs.first) (map.get-empty place_cmp p) ∙ sym (nothing-at p.0 p.1) ∙ ap (λ g. entry_at g p) (sym empty))

-- pruning

pub Tells-pruned : (graphs : Graphs) (n : ℕ) (shard : ShardValue) → Tells graphs n shard → (f : ℕ) → Tells graphs n (pruned shard f)
Tells-pruned graphs n shard tells f = record {
  from_first = tells.from_first;
  to_last = tells.to_last;
  upto = tells.upto;
  in_order = IsInOrder-pruned shard tells.in_order f;
  entries = λ p own t from above. let floor : shard.floor ≤ t = omega arith in entry-pruned shard tells.in_order f p t above ∙ tells.entries p own t from floor;
}

-- the next group

module _ (graphs : Graphs) (n : ℕ) (shard : ShardValue) where
  abbrev before : Graph
  before = graph_of graphs (n + 1 - 1)

  abbrev after : Graph
  after = graph_of graphs (n + 1)

  abbrev next_changes : List Change
  next_changes = (part_at graphs shard.shards shard.number (n + 1)).changes

  before-is : graph_of graphs n ≡ graph_of graphs (n + 1 - 1)
  before-is = let same : n ≡ n + 1 - 1 = omega arith in ap (graph_of graphs) same

  module _ (tells : Tells graphs n shard) where
    pub Fits-part : shard.floor ≤ n → Fits shard (part_at graphs shard.shards shard.number (n + 1)) (n + 1)
    Fits-part above = record {
      for_it = refl;
      own = part-own before after shard.shards shard.number;
      ascending = part-ascends before after shard.shards shard.number;
      after_last = omega (arith, tells.upto);
      after_floor = omega (arith, above);
    }

    -- what it tells where nothing changes
    module _ (p : Place) (own : IsOwn shard p.0) (t : ℕ) (from : graphs.first ≤ t) (floor : shard.floor ≤ t) where
      unchanged : entry_at (graph_of graphs n) p ≡ entry_at after p → entry_after shard p t ≡ entry_at (graph_of graphs (min t (n + 1))) p
      unchanged same =
          tells.entries p own t from floor
          ∙ elim (nat_le t n) as (λ b. nat_le t n ≡ b → entry_at (graph_of graphs (min t n)) p ≡ entry_at (graph_of graphs (min t (n + 1))) p) [
            | true ↦ λ test.
                let soon : t ≤ n = grind (arith, nat_tests) in
                let min_is : min t n ≡ min t (n + 1) = omega arith in
                ap (λ k. entry_at (graph_of graphs k) p) min_is
            | false ↦ λ test.
                let late : n < t = grind (arith, nat_tests) in
                let one : min t n ≡ n = omega arith in
                let two : n + 1 ≡ min t (n + 1) = omega arith in
                ap (λ k. entry_at (graph_of graphs k) p) one ∙ same ∙ ap (λ k. entry_at (graph_of graphs k) p) two
          ] refl

      changed : (change : Change) → label_of change ≡ entry_at after p → standing_after (with_version (versions_of shard.entries p) (version_of (n + 1) change)) t ≡ entry_at (graph_of graphs (min t (n + 1))) p
      changed change label =
          elim (nat_le t n) as (λ b. nat_le t n ≡ b → standing_after (with_version (versions_of shard.entries p) (version_of (n + 1) change)) t ≡ entry_at (graph_of graphs (min t (n + 1))) p) [
            | true ↦ λ test.
                let soon : t ≤ n = grind (arith, nat_tests) in
                let not_yet : t < n + 1 = omega arith in
                let min_is : min t n ≡ min t (n + 1) = omega arith in
                label_after-earlier (versions_of shard.entries p).at_floor (versions_of shard.entries p).changes (version_of (n + 1) change) t not_yet
                ∙ tells.entries p own t from floor
                ∙ ap (λ k. entry_at (graph_of graphs k) p) min_is
            | false ↦ λ test.
                let late : n < t = grind (arith, nat_tests) in
                let come : n + 1 ≤ t = omega arith in
                let two : n + 1 ≡ min t (n + 1) = omega arith in
                let next : shard.upto + 1 ≤ n + 1 = omega (arith, tells.upto) in
                label_after-last (versions_of shard.entries p).at_floor (versions_of shard.entries p).changes (version_of (n + 1) change) t
                (IsAfterLast-later (versions_of shard.entries p).changes (shard.upto + 1) (n + 1) next (tells.in_order.by_last p)) come
                ∙ label
                ∙ ap (λ k. entry_at (graph_of graphs k) p) two
          ] refl

      at-part : AreSimple graphs → standing_after (noted_all (n + 1) next_changes p (versions_of shard.entries p)) t ≡ entry_at (graph_of graphs (min t (n + 1))) p
      at-part simple =
          elim (entry_differs before after p) as (λ b. entry_differs before after p ≡ b → standing_after (noted_all (n + 1) next_changes p (versions_of shard.entries p)) t ≡ entry_at (graph_of graphs (min t (n + 1))) p) [
            | true ↦ λ differs.
                let change = change_to p (entry_at after p) in
                ap (λ x. standing_after x t)
                (noted_all-found (n + 1) next_changes (part-ascends before after shard.shards shard.number) change
                (part-complete before after shard.shards shard.number (simple-at graphs simple (n + 1 - 1)) (simple-at graphs simple (n + 1)) p own differs) p (versions_of shard.entries p) (place-change_to p (entry_at after p)))
                ∙ changed change (label-change_to p (entry_at after p))
            | false ↦ λ same.
                ⊎_elim
                (λ none. ap (λ x. standing_after x t) none ∙ unchanged (ap (λ g. entry_at g p) before-is ∙ same-entry before after p same))
                (λ once. absurd (false≢true (sym same ∙ ap (entry_differs before after) (sym once.place) ∙ part-differs before after shard.shards shard.number once.change once.among)))
                (noted_cases (n + 1) next_changes (part-ascends before after shard.shards shard.number) p (versions_of shard.entries p))
          ] refl

    pub Tells-applied : AreSimple graphs → n < last_of graphs → shard.floor ≤ n → Tells graphs (n + 1) (applied shard (part_at graphs shard.shards shard.number (n + 1)).changes (n + 1))
    Tells-applied simple more floor_below = record {
      from_first = omega (arith, tells.from_first);
      to_last = omega (arith, more);
      upto = omega arith;
      in_order = let fits = Fits-part floor_below in IsInOrder-applied shard tells.in_order next_changes (n + 1) fits.ascending fits.after_last fits.after_floor;
      entries = λ p own t from floor. ap (λ x. standing_after x t) (versions_of-with_changes (n + 1) next_changes shard.entries p) ∙ at-part p own t from floor simple;
    }

    pub Tells-passed : AreSimple graphs → n < last_of graphs → (part_at graphs shard.shards shard.number (n + 1)).changes ≡ [] → Tells graphs (n + 1) shard
    Tells-passed simple more none = record {
      from_first = omega (arith, tells.from_first);
      to_last = omega (arith, more);
      upto = omega (arith, tells.upto);
      in_order = tells.in_order;
      entries = λ p own t from floor. ap (λ cs. standing_after (noted_all (n + 1) cs p (versions_of shard.entries p)) t) (sym none) ∙ at-part p own t from floor simple;
    }

-- pairs

pub pair-told : (graphs : Graphs) (n : ℕ) (shard : ShardValue) → Tells graphs n shard → AreSimple graphs → (v t : ℕ) → IsOwn shard v → graphs.first < t → shard.floor < t → t ≤ n →
    pair_of_vertex shard v t ≡ pair_in (graph_of graphs (t - 1)) (graph_of graphs t) v
pair-told graphs n shard tells simple v t own after_first after_floor within =
    let from : graphs.first ≤ t = omega arith in
    let from_before : graphs.first ≤ t - 1 = omega arith in
    let above : shard.floor ≤ t = omega arith in
    let above_before : shard.floor ≤ t - 1 = omega arith in
    let now : min t n ≡ t = omega arith in
    let was : min (t - 1) n ≡ t - 1 = omega arith in
    pair-in_graphs shard v t (graph_of graphs (t - 1)) (graph_of graphs t) (simple-at graphs simple (t - 1)) (simple-at graphs simple t)
    (λ to. tells.entries (v, to) own (t - 1) from_before above_before ∙ ap (λ k. entry_at (graph_of graphs k) (v, to)) was)
    (λ to. tells.entries (v, to) own t from above ∙ ap (λ k. entry_at (graph_of graphs k) (v, to)) now)

-- shards together hold the graph

pub Hold-told : (graphs : Graphs) (n : ℕ) (shards : List ShardValue) → 0 < length shards → AreNumbered shards → AllByRecursion (Tells graphs n) shards → AreSimple graphs →
    (t : ℕ) → graphs.first ≤ t → t ≤ n → AllByRecursion (λ shard. shard.floor ≤ t) shards → Hold shards t (graph_of graphs t)
Hold-told graphs n shards some numbered tell simple t from within floors = record {
  simple = simple-at graphs simple t;
  entries = λ p.
      let shard = shard_of_vertex shards p.0 in
      let among = shard-among shards p.0 some in
      let now : min t n ≡ t = omega arith in
      let tells : Tells graphs n shard = all-at (Tells graphs n) shard shards tell among in
      tells.entries p (own p.0) t from (all-at (λ s. s.floor ≤ t) shard shards floors among) ∙ ap (λ k. entry_at (graph_of graphs k) p) now;
}
  where
    own : (v : ℕ) → IsOwn (shard_of_vertex shards v) v
    own v =
        let within : v % length shards < length shards = omega arith in
        let made = numbered (v % length shards) within in
        ap (λ k. v % k) made.1 ∙ sym made.0

-- each of them can be seen where its floor is below
floors-below : (shards : List ShardValue) (t : ℕ) → AllByRecursion (λ shard. shard.floor < t) shards → AllByRecursion (λ shard. shard.floor ≤ t - 1) shards × AllByRecursion (λ shard. shard.floor ≤ t) shards
floors-below shards t below = (
  all-weaker (λ shard. shard.floor < t) (λ shard. shard.floor ≤ t - 1) (λ shard less. omega (arith, less)) shards below,
  all-weaker (λ shard. shard.floor < t) (λ shard. shard.floor ≤ t) (λ shard less. omega (arith, less)) shards below,
)

pub CanBeViewed-told : (graphs : Graphs) (n : ℕ) (shards : List ShardValue) → 0 < length shards → AreNumbered shards → AllByRecursion (Tells graphs n) shards → AreSimple graphs →
    (t : ℕ) → graphs.first < t → t ≤ n → AllByRecursion (λ shard. shard.floor < t) shards → CanBeViewed shards t
CanBeViewed-told graphs n shards some numbered tell simple t from within floors =
    let below = floors-below shards t floors in
    record {
      some = some;
      floors = floors;
      before = (graph_of graphs (t - 1), Hold-told graphs n shards some numbered tell simple (t - 1) (omega (arith, from)) (omega (arith, within)) below.0);
      after = (graph_of graphs t, Hold-told graphs n shards some numbered tell simple t (omega (arith, from)) within below.1);
    }
