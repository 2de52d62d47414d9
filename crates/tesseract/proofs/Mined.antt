-- What waits is mined, and nothing waits any more.
use Rattle.std.proofs.Common.{◌≡◌, ℕ, ◌+◌, ◌*◌, ◌^◌, ◌<◌, ◌≤◌, List, [], ◌∷◌, length, Option, None, Some, IfSome, refl, sym, ap, subst, ◌∙◌, arith}
use Rattle.delta_task.specs.declared.delta.Delta.{Delta}
use Rattle.graph_types.specs.meaning.Graph.{Graph}
use Rattle.group_window.specs.meaning.Windows.{WindowValue, last_or}
use Rattle.mining_model.specs.meaning.Embeddings.{Pattern}
use Rattle.mining_model.specs.meaning.History.{history}
use Rattle.mining_model.proofs.Histories.{length-history}
use Rattle.shard_state.specs.calls.Sharing.{KeepGraph}
use Rattle.window_miner.specs.calls.Mining.{AreDeltas, CanMine, IsMined}
use Rattle.window_miner.specs.declared.mining.Mined.{Mined}
use Rattle.tesseract.specs.declared.terms.Plan.{Plan}
use Rattle.tesseract.specs.declared.terms.Terms.{Terms}
use Rattle.tesseract.specs.declared.waiting.Waiting.{Waiting}
use Rattle.tesseract.specs.calls.Progress.{Progress, all_mined}
use Rattle.tesseract.specs.declared.status.Status.TheVariants as status
use Rattle.tesseract.specs.declared.status.LimitKind.TheVariants as limit
use Rattle.tesseract.specs.calls.Running.{HasEnded}
use Rattle.tesseract.specs.calls.Turning.{IsEmptied, WaitsUnder}
use Rattle.tesseract.specs.calls.Writing.{AllWritten, AreWaitingDeltas}
use Rattle.tesseract.specs.meaning.Output.{IsCountable}

-- there are as many deltas as graphs
length-deltas : (pattern : Pattern) (most : ℕ) (g : Graph) (later : List Graph) (deltas : List Delta) → AreDeltas pattern most g later deltas →
    length deltas ≡ length later
length-deltas pattern most g [] [] are = refl
length-deltas pattern most g [] (d ∷ deltas) are = absurd are
length-deltas pattern most g (next ∷ later) [] are = absurd are
length-deltas pattern most g (next ∷ later) (d ∷ deltas) are =
    let rest = length-deltas pattern most next later deltas are.1 in omega (arith, rest)

-- the same timestamp has too many records
pub full_at : {terms : Terms} {left0 left written0 written : Option (List ℕ)} {page : List ℕ} {s t : ℕ} → s ≡ t →
    HasEnded terms left0 left written0 written page (status.Limit limit.Records t) → HasEnded terms left0 left written0 written page (status.Limit limit.Records s)
full_at {terms} {left0} {left} {written0} {written} {page} same ended =
    subst (λ t. HasEnded terms left0 left written0 written page (status.Limit limit.Records t)) (sym same) ended

module _ (terms : Terms) (plan : Plan) (pattern : Pattern) (p : Progress) (was : Waiting) (under : WaitsUnder terms plan pattern p was) where
  pub can_mine : CanMine was.window was.shards.items
  can_mine = (p.mined, under.waits.follows)

  -- as many groups wait as the window has
  groups : length was.window.later ≡ length p.waiting
  groups = ap (λ (gs : List Graph). length gs) under.waits.later ∙ length-history p.mined p.waiting

  pub last_stamp : (countable : IsCountable terms) → was.window.first + length was.window.later ≤ 4 * 10 ^ 9
  last_stamp countable =
      let f = under.waits.first in
      let n = groups in
      let s = under.waits.stamped in
      let l = under.lines_are in
      let c = countable.few in omega (arith, f, n, s, l, c)

  -- the window that follows is that of the plan
  pub next_window :
      ◌≡◌ {A = WindowValue} (record { first = was.window.first + length was.window.later; shards = was.window.shards; base = None; later = []; current = None })
      (record { first = was.window.first + length was.window.later; shards = plan.shards; base = None; later = []; current = None })
  next_window =
      ap (λ n. let w : WindowValue = record { first = was.window.first + length was.window.later; shards = n; base = None; later = []; current = None } in w) under.waits.parted

  module _ (mined : Mined) (is : IsMined pattern terms.records was.window p.mined mined) where
    pub few_deltas : (countable : IsCountable terms) → was.window.first + length mined.deltas.items ≤ 4 * 10 ^ 9
    few_deltas countable =
        let n = length-deltas pattern terms.records p.mined was.window.later mined.deltas.items is.deltas in
        let f = last_stamp countable in omega (arith, n, f)

    pub waiting_deltas : AreWaitingDeltas terms pattern p was.standing mined.deltas.items
    waiting_deltas = record {
      known = under.known;
      deltas_are = subst (λ later. AreDeltas pattern terms.records p.mined later mined.deltas.items) under.waits.later is.deltas;
      count = under.waits.count;
      few = under.waits.few;
    }

    pub emptied : (w : Waiting) → w.window ≡ record { first = was.window.first + length was.window.later; shards = plan.shards; base = None; later = []; current = None } →
        w.shards ≡ mined.shards → AllWritten terms pattern p w.standing → IsEmptied terms plan pattern p w
    emptied w window shards wrote =
        let first : w.window.first ≡ was.window.first + length was.window.later = ap (λ (v : WindowValue). v.first) window in
        let later : w.window.later ≡ [] = ap (λ (v : WindowValue). v.later) window in
        let keep = subst (λ gs. KeepGraph mined.shards.items (was.window.first + length was.window.later) (last_or p.mined gs)) under.waits.later is.keep in
        record {
          waits = record {
            first = (let f = under.waits.first in let n = groups in omega (arith, first, f, n));
            follows = record {
              base = subst (λ (v : WindowValue). IfSome v.base (λ g. g ≡ (all_mined pattern p).mined)) (sym window) tt;
              parted =
                  ap (λ (v : WindowValue). v.shards) window ∙ sym under.waits.parted ∙ sym is.count
                  ∙ ap (λ shards. length shards.items) (sym shards);
              keep =
                  subst (λ shards. KeepGraph shards.items w.window.first (all_mined pattern p).mined) (sym shards)
                  (subst (λ t. KeepGraph mined.shards.items t (all_mined pattern p).mined) (sym first) keep);
            };
            later = later;
            parted = ap (λ (v : WindowValue). v.shards) window;
            count = wrote.count;
            few = wrote.few;
            stamped = (let s = under.waits.stamped in omega (arith, s));
          };
          empty = later;
          closed = ap (λ (v : WindowValue). v.current) window;
        }
