-- That shards go on telling graphs that follow one another, and keep the last of them.
use Rattle.std.proofs.Common.{◌≡◌, ◌<◌, ◌≤◌, ◌+◌, ◌-◌, ◌++◌, ◌%◌, ℕ, suc, max, List, [], ◌∷◌, map as mapped, length, IsTrue, Option, is_some, refl, sym, ap, subst, ◌∙◌, arith}
use Rattle.std.specs.FinMap as map
use Rattle.std.specs.List.{AllByRecursion, range_with_len}
use Rattle.std.proofs.lemmas.Bool.{false≢true}
use Rattle.std.proofs.lemmas.List.{length-map}
use Rattle.std.proofs.lemmas.List.FromFn.{get_or-map-range_with_len, length-map-range_with_len, map-range_with_len_more}
use Rattle.graph_types.specs.meaning.Graph.{Graph, empty_graph, pair_cmp}
use Rattle.graph_types.specs.meaning.Simple.{IsSimple}
use Rattle.mining_model.specs.meaning.History.{graph_at}
use Rattle.group_window.specs.meaning.Windows.{WindowValue, graph_of as window_graph}
use Rattle.shared_lemmas.proofs.Claims.{all-any, all-map, all-weaker}
use Rattle.shared_lemmas.proofs.Membership.{IsIn-get_or, all-at}
use Rattle.update_rules.specs.declared.shards.Part.{Part}
use Rattle.update_rules.specs.meaning.Parts.{parts_between}
use Rattle.update_rules.specs.meaning.Places.{Place, entry_at}
use Rattle.shard_state.specs.calls.Sharing.{KeepGraph, KnowsUpTo, TellGroups, TellUpTo, all_pruned, empty_shards}
use Rattle.shard_state.specs.calls.Together.{FitTogether, with_part}
use Rattle.shard_state.specs.calls.Viewing.{CanBeViewed}
use Rattle.shard_state.specs.meaning.Joining.{shard_at}
use Rattle.shard_state.specs.meaning.Shards.{IsOwn, ShardValue, empty_shard, entry_after, pruned}
use Rattle.shard_state.specs.meaning.Telling.{AreSimple, Graphs, Tells, graph_of, graphs_of, last_of}
use Rattle.shard_state.proofs.GroupsTogether.{AreNumbered-pruned, AreNumbered-with_parts, FitTogether-next, Tell-next, Tell-pruned, floor-with_part}
use Rattle.shard_state.proofs.Told.{CanBeViewed-told, Hold-told, Tells-begun, Tells-empty}

all-from_index : (P : ShardValue → Type 0) (shards : List ShardValue) → ((i : ℕ) → i < length shards → P (shard_at shards i)) → AllByRecursion P shards
all-from_index P [] each = tt
all-from_index P (shard ∷ shards) each =
    let some : 0 < length (shard ∷ shards) = omega arith in
    (each 0 some, all-from_index P shards (λ i within. let few : suc i < length (shard ∷ shards) = omega (arith, within) in each (suc i) few))

module _ (graphs : Graphs) (taken floor : ℕ) (shards : List ShardValue) (tell : TellUpTo graphs taken floor shards) where
  -- less is said of the floors
  pub TellUpTo-lower : (f : ℕ) → floor ≤ f → f ≤ taken → TellUpTo graphs taken f shards
  TellUpTo-lower f above within = record {
    some = tell.some;
    numbered = tell.numbered;
    simple = tell.simple;
    within = tell.within;
    earlier = within;
    told = tell.told;
    floors = all-weaker (λ shard. shard.floor ≤ graphs.first + floor) (λ shard. shard.floor ≤ graphs.first + f) (λ shard is. omega (arith, is, above)) shards tell.floors;
  }

  low : AllByRecursion (λ shard. shard.floor ≤ graphs.first + taken) shards
  low = all-weaker (λ shard. shard.floor ≤ graphs.first + floor) (λ shard. shard.floor ≤ graphs.first + taken) (λ shard is. let earlier = tell.earlier in omega (arith, is, earlier)) shards tell.floors

  -- they can be viewed after each step above their floor
  pub CanBeViewed-taken : (step : ℕ) → floor ≤ step → step < taken → CanBeViewed shards (graphs.first + (step + 1))
  CanBeViewed-taken step above below =
      CanBeViewed-told graphs (graphs.first + taken) shards tell.some tell.numbered tell.told tell.simple (graphs.first + (step + 1)) (omega arith) (omega (arith, below))
      (all-weaker (λ shard. shard.floor ≤ graphs.first + floor) (λ shard. shard.floor < graphs.first + (step + 1)) (λ shard is. omega (arith, is, above)) shards tell.floors)

  -- they are pruned
  pub TellUpTo-pruned : (f : ℕ) → floor ≤ f → f ≤ taken → TellUpTo graphs taken f (all_pruned (graphs.first + f) shards)
  TellUpTo-pruned f above within = record {
    some = subst (λ n. 0 < n) (sym (length-map shards (λ shard. pruned shard (graphs.first + f)))) tell.some;
    numbered = AreNumbered-pruned (graphs.first + f) shards tell.numbered;
    simple = tell.simple;
    within = tell.within;
    earlier = within;
    told = Tell-pruned graphs (graphs.first + taken) shards tell.told (graphs.first + f);
    floors = all-map (λ shard. shard.floor ≤ graphs.first + floor) (λ shard. shard.floor ≤ graphs.first + f) (λ shard. pruned shard (graphs.first + f)) (λ shard is. omega (arith, is, above)) shards tell.floors;
  }

  known-told : (ss : List ShardValue) → AllByRecursion (Tells graphs (graphs.first + taken)) ss → AllByRecursion (λ shard. shard.floor ≤ graphs.first + taken) ss → AllByRecursion (KnowsUpTo (graphs.first + taken)) ss
  known-told [] told floors = tt
  known-told (shard ∷ ss) told floors = (record { in_order = told.0.in_order; upto = told.0.upto; floor = floors.0 }, known-told ss told.1 floors.1)

  keep-taken : KeepGraph shards (graphs.first + taken) (graph_of graphs (graphs.first + taken))
  keep-taken = record {
    some = tell.some;
    numbered = tell.numbered;
    known = known-told shards tell.told low;
    hold = Hold-told graphs (graphs.first + taken) shards tell.some tell.numbered tell.told tell.simple (graphs.first + taken) (omega arith) (omega arith) low;
  }

  -- after the last step they keep the last graph
  pub KeepGraph-told : taken ≡ length graphs.later → KeepGraph shards (last_of graphs) (graph_of graphs (last_of graphs))
  KeepGraph-told all = subst (λ n. KeepGraph shards (graphs.first + n) (graph_of graphs (graphs.first + n))) all keep-taken

  -- the next step
  module _ (more : taken < length graphs.later) where
    abbrev parts : List Part
    parts = parts_between (graph_of graphs (graphs.first + taken)) (graph_of graphs (graphs.first + taken + 1)) (length shards)

    ahead : graphs.first + taken < last_of graphs
    ahead = omega (arith, more)

    next : graphs.first + taken + 1 ≡ graphs.first + (taken + 1)
    next = omega arith

    pub fit-next : FitTogether shards parts (graphs.first + (taken + 1))
    fit-next = subst (FitTogether shards parts) next (FitTogether-next graphs (graphs.first + taken) shards tell.numbered tell.told low tell.simple ahead)

    pub tell-next : TellUpTo graphs (taken + 1) floor (mapped (with_part parts (graphs.first + (taken + 1))) shards)
    tell-next =
        let len = length-map shards (with_part parts (graphs.first + (taken + 1))) in
        record {
          some = subst (λ n. 0 < n) (sym len) tell.some;
          numbered = AreNumbered-with_parts (graphs.first + (taken + 1)) parts shards tell.numbered;
          simple = tell.simple;
          within = omega (arith, more);
          earlier = let before = tell.earlier in omega (arith, before);
          told =
              subst (λ t. AllByRecursion (Tells graphs t) (mapped (with_part parts t) shards)) next
              (Tell-next graphs (graphs.first + taken) shards tell.numbered tell.told low tell.simple ahead);
          floors = all-map (λ shard. shard.floor ≤ graphs.first + floor) (λ shard. shard.floor ≤ graphs.first + floor) (with_part parts (graphs.first + (taken + 1)))
              (λ shard is_low. subst (λ n. n ≤ graphs.first + floor) (sym (floor-with_part (graphs.first + (taken + 1)) parts shard)) is_low) shards tell.floors;
        }

-- the graphs of a window, group by group

module _ (w : WindowValue) (taken floor : ℕ) (shards : List ShardValue) (told : TellGroups w taken floor shards) (more : taken < length w.later) (given : List Part) (at : ℕ)
    (given-is : given ≡ parts_between (window_graph w taken) (window_graph w (taken + 1)) w.shards) (at-is : at ≡ w.first + (taken + 1)) where
  parts-are : given ≡ parts_between (graph_of (graphs_of w) (w.first + taken)) (graph_of (graphs_of w) (w.first + taken + 1)) (length shards)
  parts-are =
      let before : taken ≡ w.first + taken - w.first = omega arith in
      let after : taken + 1 ≡ w.first + taken + 1 - w.first = omega arith in
      given-is
      ∙ ap (λ i. parts_between (window_graph w i) (window_graph w (taken + 1)) w.shards) before
      ∙ ap (λ i. parts_between (window_graph w (w.first + taken - w.first)) (window_graph w i) w.shards) after
      ∙ ap (parts_between (window_graph w (w.first + taken - w.first)) (window_graph w (w.first + taken + 1 - w.first))) told.parted

  -- the parts of the next group fit them
  pub FitTogether-group : FitTogether shards given at
  FitTogether-group = subst (λ ps. FitTogether shards ps at) (sym parts-are) (subst (FitTogether shards (parts (graphs_of w) taken floor shards told.tell more)) (sym at-is) (fit-next (graphs_of w) taken floor shards told.tell more))

  -- and they take them in
  pub TellGroups-next : (new : List ShardValue) → new ≡ mapped (with_part given at) shards → TellGroups w (taken + 1) floor new
  TellGroups-next new is = record {
    parted = told.parted ∙ sym (ap length is ∙ length-map shards (with_part given at));
    tell =
        subst (TellUpTo (graphs_of w) (taken + 1) floor)
        (sym (is ∙ ap (λ ps. mapped (with_part ps at) shards) parts-are ∙ ap (λ t. mapped (with_part (parts (graphs_of w) taken floor shards told.tell more) t) shards) at-is))
        (tell-next (graphs_of w) taken floor shards told.tell more);
  }

-- less is said of the floors, and they are pruned

pub TellGroups-lower : (w : WindowValue) (taken floor : ℕ) (shards : List ShardValue) → TellGroups w taken floor shards → TellGroups w taken taken shards
TellGroups-lower w taken floor shards told = record { parted = told.parted; tell = TellUpTo-lower (graphs_of w) taken floor shards told.tell taken told.tell.earlier (omega arith) }

pub TellGroups-pruned : (w : WindowValue) (taken floor f at : ℕ) (shards old new : List ShardValue) → TellGroups w taken floor shards → floor ≤ f → f ≤ taken → at ≡ w.first + f → old ≡ shards → new ≡ all_pruned at old →
    TellGroups w taken f new
TellGroups-pruned w taken floor f at shards old new told above within at-is old-is is =
    let all = is ∙ ap (all_pruned at) old-is ∙ ap (λ t. all_pruned t shards) at-is in
    record {
      parted = told.parted ∙ sym (ap length all ∙ length-map shards (λ shard. pruned shard (w.first + f)));
      tell = subst (TellUpTo (graphs_of w) taken f) (sym all) (TellUpTo-pruned (graphs_of w) taken floor shards told.tell f above within);
    }

-- shards that keep the first graph

module _ (graphs : Graphs) (shards : List ShardValue) (keep : KeepGraph shards graphs.first graphs.base) where
  entry-own : (i : ℕ) → i < length shards → (p : Place) → IsOwn (shard_at shards i) p.0 → entry_after (shard_at shards i) p graphs.first ≡ entry_at graphs.base p
  entry-own i within p own =
      let is = keep.numbered i within in
      let same : p.0 % length shards ≡ i = ap (λ k. p.0 % k) (sym is.1) ∙ own ∙ is.0 in
      ap (λ k. entry_after (shard_at shards k) p graphs.first) (sym same) ∙ keep.hold.entries p

  tells-first : (i : ℕ) → i < length shards → Tells graphs graphs.first (shard_at shards i)
  tells-first i within =
      let known : KnowsUpTo graphs.first (shard_at shards i) = all-at (KnowsUpTo graphs.first) (shard_at shards i) shards keep.known (IsIn-get_or shards i (empty_shard 0 1) within) in
      Tells-begun graphs (shard_at shards i) known.in_order known.upto (entry-own i within)

  pub TellUpTo-begun : AreSimple graphs → TellUpTo graphs 0 0 shards
  TellUpTo-begun simple =
      let none : graphs.first ≡ graphs.first + 0 = omega arith in
      record {
        some = keep.some;
        numbered = keep.numbered;
        simple = simple;
        within = omega arith;
        earlier = omega arith;
        told = subst (λ n. AllByRecursion (Tells graphs n) shards) none (all-from_index (Tells graphs graphs.first) shards tells-first);
        floors = all-weaker (KnowsUpTo graphs.first) (λ shard. shard.floor ≤ graphs.first + 0) (λ shard known. let low = known.floor in omega (arith, low)) shards keep.known;
      }

-- a prune leaves what they keep

abbrev alone : ℕ → Graph → Graphs
alone at g = record { first = at; base = g; later = [] }

pub KeepGraph-pruned : (shards : List ShardValue) (at : ℕ) (g : Graph) → KeepGraph shards at g → KeepGraph (all_pruned at shards) at g
KeepGraph-pruned shards at g keep =
    let graphs = alone at g in
    let tell : TellUpTo graphs 0 0 shards = TellUpTo-begun graphs shards keep (record { base = keep.hold.simple; later = tt }) in
    let low : 0 ≤ 0 = omega arith in
    let first : at + 0 ≡ at = omega arith in
    let none : at + 0 - at ≡ 0 = omega arith in
    subst (λ t. KeepGraph (all_pruned t shards) t g) first
    (subst (λ k. KeepGraph (all_pruned (at + 0) shards) (at + 0) (graph_at g [] k)) none
    (KeepGraph-told graphs 0 0 (all_pruned (at + 0) shards) (TellUpTo-pruned graphs 0 0 shards tell 0 low low) refl))

pub floors-pruned : (shards : List ShardValue) (at : ℕ) (g : Graph) → KeepGraph shards at g → AllByRecursion (λ shard. shard.floor ≡ at) (all_pruned at shards)
floors-pruned shards at g keep =
    all-map (KnowsUpTo at) (λ shard. shard.floor ≡ at) (λ shard. pruned shard at) (λ shard known. let low = known.floor in omega (arith, low)) shards keep.known

-- shards without a vertex keep the empty graph

simple-empty : IsSimple empty_graph
simple-empty =
    let none : (e : ℕ × ℕ) → IsTrue (map.contains_key empty_graph.edges e) → ⊥ = λ e there. false≢true (subst (λ (o : Option ℕ). IsTrue (is_some o)) (map.get-empty pair_cmp e) there) in
    record { ends = λ e there. absurd (none e there); lower_first = λ e there. absurd (none e there) }

pub KeepGraph-empty : (count at : ℕ) → 1 ≤ count → KeepGraph (empty_shards count) at empty_graph
KeepGraph-empty count at some =
    let made = λ (number : ℕ). empty_shard number count in
    let len = length-map-range_with_len made 0 count in
    let graphs = alone at empty_graph in
    let first : at + 0 ≡ at = omega arith in
    let none : at + 0 - at ≡ 0 = omega arith in
    subst (λ t. KeepGraph (empty_shards count) t empty_graph) first (subst (λ k. KeepGraph (empty_shards count) (at + 0) (graph_at empty_graph [] k)) none (KeepGraph-told graphs 0 0 (empty_shards count) (record {
      some = omega (arith, len);
      numbered = λ i within.
          let few : i < count = omega (arith, len) in
          let place : 0 + i ≡ i = omega arith in
          let is = get_or-map-range_with_len made 0 count i i (empty_shard 0 1) few place in
          (ap (λ s. s.number) is, ap (λ s. s.shards) is ∙ sym len);
      simple = record { base = simple-empty; later = tt };
      within = omega arith;
      earlier = omega arith;
      told = all-map (λ _. Unit {0}) (Tells graphs (at + 0)) made (λ number _. subst (λ n. Tells graphs n (empty_shard number count)) (sym first) (Tells-empty graphs number count refl)) (range_with_len 0 count) (all-any (λ _. Unit {0}) (λ _. tt) (range_with_len 0 count));
      floors = all-map (λ _. Unit {0}) (λ shard. shard.floor ≤ at + 0) made (λ number _. omega arith) (range_with_len 0 count) (all-any (λ _. Unit {0}) (λ _. tt) (range_with_len 0 count));
    }) refl))

-- one shard more is made
pub empty-next : (count number : ℕ) (shards next : List ShardValue) (shard : ShardValue) → next ≡ shards ++ shard ∷ [] → shard ≡ empty_shard number count → shards ≡ mapped (λ i. empty_shard i count) (range_with_len 0 number) →
    next ≡ mapped (λ i. empty_shard i count) (range_with_len 0 (number + 1))
empty-next count number shards next shard grown is before =
    let place : 0 + number ≡ number = omega arith in
    grown
    ∙ ap (λ (xs : List ShardValue). xs ++ shard ∷ []) before
    ∙ ap (λ (x : ShardValue). mapped (λ i. empty_shard i count) (range_with_len 0 number) ++ x ∷ []) is
    ∙ sym (map-range_with_len_more (λ i. empty_shard i count) 0 number number place)
