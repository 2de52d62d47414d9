-- Windows that are filled, group by group.
use Rattle.std.proofs.Common.{◌≡◌, ◌<◌, ◌≤◌, ◌+◌, ℕ, zero, suc, List, [], ◌∷◌, ◌++◌, Option, None, Some, IfSome, length, length-append, unwrap_or, refl, sym, ap, subst, ◌∙◌, arith}
use Rattle.std.specs.List.{AllByRecursion}
use Rattle.graph_types.specs.meaning.Graph.{Graph}
use Rattle.graph_types.specs.meaning.Simple.{IsSimple}
use Rattle.group_window.specs.meaning.Windows.{CanPush, HasRoom, RunValue, StandsOn, WindowValue, closed_graph, graph_after_current, last_or, most_groups, pushed, with_group}
use Rattle.shared_lemmas.proofs.Claims.{all-append}
use Rattle.store_bench.specs.calls.Filling.{IsFilled, base_of}

stands-on : (before g : Graph) (later : List Graph) → g ≡ last_or before later → IfSome (closed_graph (base_of before later) later) (λ h. g ≡ h)
stands-on before g [] last = tt
stands-on before g (next ∷ later) last = last

stands-closed : (w : WindowValue) (current : Option (Option RunValue)) (before g : Graph) → current ≡ None → w.base ≡ base_of before w.later → g ≡ last_or before w.later → IfSome (graph_after_current (closed_graph w.base w.later) current) (λ h. g ≡ h)
stands-closed w None before g closed base last = subst (λ b. IfSome (closed_graph b w.later) (λ h. g ≡ h)) (sym base) (stands-on before g w.later last)
stands-closed w (Some run) before g closed base last = cc

room-closed : (w : WindowValue) (current : Option (Option RunValue)) → current ≡ None → length w.later < most_groups → HasRoom w current
room-closed w None closed few = few
room-closed w (Some run) closed few = cc

-- one group more has room
pub CanPush-filled : (w : WindowValue) (at count most : ℕ) (before g : Graph) → IsFilled w at count most before g → most < most_groups → CanPush w g
CanPush-filled w at count most before g filled room = record {
  stands = stands-closed w w.current before g filled.closed filled.base filled.last;
  room = room-closed w w.current filled.closed (let few = filled.few in omega (arith, few, room));
}

-- a window without a group
pub IsFilled-begun : (at count : ℕ) (w : WindowValue) (g : Graph) → IsSimple g → w ≡ record { first = at; shards = count; base = None; later = []; current = None } → IsFilled w at count 0 g g
IsFilled-begun at count w g simple is = subst (λ v. IsFilled v at count 0 g g) (sym is) (record {
  first = refl;
  parted = refl;
  few = omega arith;
  base = refl;
  last = refl;
  closed = refl;
  begins_simple = simple;
  simple = tt;
})

base-more : (before g after : Graph) (later : List Graph) → g ≡ last_or before later → Some (unwrap_or (base_of before later) g) ≡ base_of before (later ++ after ∷ [])
base-more before g after [] last = ap Some last
base-more before g after (next ∷ later) last = refl

last-more : (g after : Graph) (later : List Graph) → last_or g (later ++ after ∷ []) ≡ after
last-more g after [] = refl
last-more g after (next ∷ later) = last-more next after later

module _ (w : WindowValue) (at count most : ℕ) (before g : Graph) (filled : IsFilled w at count most before g) where
  -- one update more, which makes a group
  pub IsFilled-more : (new : WindowValue) (after : Graph) → IsSimple after → new ≡ pushed w w.current g after → IsFilled new at count (most + 1) before after
  IsFilled-more new after simple is = subst (λ v. IsFilled v at count (most + 1) before after) (sym (is ∙ ap (λ current. pushed w current g after) filled.closed)) (record {
    first = filled.first;
    parted = filled.parted;
    few = let few = filled.few in simp length-append (omega (arith, few));
    base = ap (λ (o : Option Graph). Some (unwrap_or o g)) filled.base ∙ base-more before g after w.later filled.last;
    last = sym (last-more before after w.later);
    closed = refl;
    begins_simple = filled.begins_simple;
    simple = all-append IsSimple w.later (after ∷ []) filled.simple (simple, tt);
  })

  -- an update that was refused
  pub IsFilled-same : (new : WindowValue) (after : Graph) (more : ℕ) → most ≤ more → new ≡ w → after ≡ g → IsFilled new at count more before after
  IsFilled-same new after more grows is same = subst (λ v. IsFilled v at count more before after) (sym is) (subst (λ h. IsFilled w at count more before h) (sym same) (record {
    first = filled.first;
    parted = filled.parted;
    few = let few = filled.few in omega (arith, few, grows);
    base = filled.base;
    last = filled.last;
    closed = filled.closed;
    begins_simple = filled.begins_simple;
    simple = filled.simple;
  }))
