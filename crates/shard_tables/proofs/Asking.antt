-- Shards that take in the groups of a window.
use Rattle.std.proofs.Common.{◌≡◌, ◌<◌, ◌≤◌, ◌+◌, ◌-◌, ℕ, true, nat_lt, List, [], ◌∷◌, map as mapped, length, unwrap_or, sym, ap, subst, ◌∙◌, arith}
use Rattle.std.specs.List.{AllByRecursion, list_all, range_with_len}
use Rattle.std.proofs.lemmas.Bool.{and_parts}
use Rattle.std.proofs.lemmas.Bool.Decides.{nat_tests}
use Rattle.std.proofs.lemmas.List.{length-map}
use Rattle.std.proofs.lemmas.List.FromFn.{get_or-map-range_with_len, length-map-range_with_len}
use Rattle.shared_lemmas.proofs.Claims.{all-any, all-map, all-weaker}
use Rattle.graph_types.specs.meaning.Graph.{empty_graph}
use Rattle.mining_model.specs.meaning.History.{graph_at}
use Rattle.update_rules.specs.declared.shards.Part.{Part}
use Rattle.update_rules.specs.meaning.Parts.{parts_between}
use Rattle.group_window.specs.meaning.Windows.{WindowValue, graph_of as window_graph}
use Rattle.shard_state.specs.calls.Sharing.{empty_shards}
use Rattle.shard_state.specs.calls.Together.{FitTogether, with_part}
use Rattle.shard_state.specs.calls.Viewing.{CanBeViewed}
use Rattle.shard_state.specs.meaning.Shards.{ShardValue, empty_shard, pruned}
use Rattle.shard_state.specs.meaning.Telling.{Tells, graph_of, graphs_of, last_of}
use Rattle.shard_state.proofs.GroupsTogether.{AreNumbered-pruned, AreNumbered-with_parts, FitTogether-next, Tell-next, Tell-pruned}
use Rattle.shard_state.proofs.Told.{CanBeViewed-told, Tells-empty}
use Rattle.shard_tables.specs.calls.Asking.{TellWindow}
use Rattle.shard_tables.specs.calls.Building.{IsFromNothing}

-- shards without a vertex tell no group
pub TellWindow-begun : (w : WindowValue) (count : ℕ) (shards : List ShardValue) → shards ≡ empty_shards count → IsFromNothing w → w.shards ≡ count → 1 ≤ count → TellWindow w 0 shards
TellWindow-begun w count shards is from_nothing same some =
    let made = λ (number : ℕ). empty_shard number count in
    let len = length-map-range_with_len made 0 count in
    subst (TellWindow w 0) (sym is) (record {
      from_nothing = from_nothing;
      some = omega (arith, len);
      count = len ∙ sym same;
      numbered = λ i within.
          let few : i < count = omega (arith, len) in
          let place : 0 + i ≡ i = omega arith in
          let at = get_or-map-range_with_len made 0 count i i (empty_shard 0 1) few place in
          (ap (λ s. s.number) at, ap (λ s. s.shards) at ∙ sym len);
      tell =
          subst (λ n. AllByRecursion (Tells (graphs_of w) n) (empty_shards count)) from_nothing.first
          (all-map (λ _. Unit {0}) (Tells (graphs_of w) w.first) made (λ number _. Tells-empty (graphs_of w) number count from_nothing.base) (range_with_len 0 count) (all-any (λ _. Unit {0}) (λ _. tt) (range_with_len 0 count)));
    })

-- the test of the floors
floors-tested : (t : ℕ) (shards : List ShardValue) → list_all (λ shard. nat_lt shard.floor t) shards ≡ true → AllByRecursion (λ shard. shard.floor < t) shards
floors-tested t [] test = tt
floors-tested t (shard ∷ shards) test =
    let parts = and_parts (nat_lt shard.floor t) (list_all (λ next. nat_lt next.floor t) shards) test in
    let below : shard.floor < t = grind (arith, nat_tests, parts.0) in
    (below, floors-tested t shards parts.1)

module _ (w : WindowValue) (n : ℕ) (shards : List ShardValue) (tell : TellWindow w n shards) where
  -- the window's graph after some groups is the one at their timestamp
  same-graph : (t : ℕ) → graph_of (graphs_of w) t ≡ window_graph w t
  same-graph t = let first = tell.from_nothing.first in let same : t - w.first ≡ t = omega arith in ap (λ k. graph_at (unwrap_or w.base empty_graph) w.later k) same

  abbrev pub next_parts : List Part
  next_parts = parts_between (window_graph w n) (window_graph w (n + 1)) w.shards

  same-parts : parts_between (graph_of (graphs_of w) n) (graph_of (graphs_of w) (n + 1)) (length shards) ≡ next_parts
  same-parts =
      ap (λ g. parts_between g (graph_of (graphs_of w) (n + 1)) (length shards)) (same-graph n)
      ∙ ap (λ g. parts_between (window_graph w n) g (length shards)) (same-graph (n + 1))
      ∙ ap (λ k. parts_between (window_graph w n) (window_graph w (n + 1)) k) tell.count

  -- the next group
  module _ (more : n < length w.later) (test : list_all (λ shard. nat_lt shard.floor (n + 1)) shards ≡ true) where
    to_last : n < last_of (graphs_of w)
    to_last = omega arith

    floors : AllByRecursion (λ shard. shard.floor ≤ n) shards
    floors = all-weaker (λ shard. shard.floor < n + 1) (λ shard. shard.floor ≤ n) (λ shard below. omega (arith, below)) shards (floors-tested (n + 1) shards test)

    pub next-fits : FitTogether shards next_parts (n + 1)
    next-fits = subst (λ ps. FitTogether shards ps (n + 1)) same-parts (FitTogether-next (graphs_of w) n shards tell.numbered tell.tell floors tell.from_nothing.simple to_last)

    pub TellWindow-taken : (new : List ShardValue) → new ≡ mapped (with_part next_parts (n + 1)) shards → TellWindow w (n + 1) new
    TellWindow-taken new is =
        let len = length-map shards (with_part next_parts (n + 1)) in
        subst (TellWindow w (n + 1)) (sym is) (record {
          from_nothing = tell.from_nothing;
          some = subst (λ k. 0 < k) (sym len) tell.some;
          count = len ∙ tell.count;
          numbered = AreNumbered-with_parts (n + 1) next_parts shards tell.numbered;
          tell = subst (λ ps. AllByRecursion (Tells (graphs_of w) (n + 1)) (mapped (with_part ps (n + 1)) shards)) same-parts (Tell-next (graphs_of w) n shards tell.numbered tell.tell floors tell.from_nothing.simple to_last);
        })

  pub TellWindow-pruned : (f : ℕ) (new : List ShardValue) → new ≡ mapped (λ shard. pruned shard f) shards → TellWindow w n new
  TellWindow-pruned f new is =
      let len = length-map shards (λ shard. pruned shard f) in
      subst (TellWindow w n) (sym is) (record {
        from_nothing = tell.from_nothing;
        some = subst (λ k. 0 < k) (sym len) tell.some;
        count = len ∙ tell.count;
        numbered = AreNumbered-pruned f shards tell.numbered;
        tell = Tell-pruned (graphs_of w) n shards tell.tell f;
      })

  pub CanBeViewed-asked : (t : ℕ) → 0 < t → t ≤ n → list_all (λ shard. nat_lt shard.floor t) shards ≡ true → CanBeViewed shards t
  CanBeViewed-asked t some within test =
      let first = tell.from_nothing.first in
      let from : w.first < t = omega arith in
      CanBeViewed-told (graphs_of w) n shards tell.some tell.numbered tell.tell tell.from_nothing.simple t from within (floors-tested t shards test)
