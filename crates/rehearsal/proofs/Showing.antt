-- What a machine shows, field by field.
use Rattle.std.proofs.Common.{◌≡◌, ◌≢◌, ◌<◌, ◌≤◌, ◌+◌, ◌-◌, ⊎_elim, ℕ, suc, Bool, true, false, not, cond, ltb, leb, ◌∷◌, map as mapped, length, get_or, Option, None, Some, is_none, refl, sym, ap, subst, ◌∙◌, arith}
use Rattle.std.specs.List.{range_with_len}
use Rattle.std.proofs.lemmas.Bool.{and_parts, cases_lt, eqb-true, false≢true, leb-true, ltb-true}
use Rattle.std.proofs.lemmas.List.{get_or_past}
use Rattle.std.proofs.lemmas.List.FromFn.{length-map-range_with_len}
use Rattle.graph_types.specs.meaning.Graph.{Graph}
use Rattle.group_window.specs.meaning.Windows.{WindowValue}
use Rattle.shard_events.specs.meaning.Machine.{Actor, HoldsNone, holder_of as holds_it, stage_of as task_stage, was_put, Ingest, Watch, Task as Reads, Finished as IsDone}
use Rattle.rehearsal.specs.meaning.MachineState.{MachineState, Finished}
use Rattle.rehearsal.specs.meaning.Shown.{holder_of, shown, shown_stage, took_in}
use Rattle.rehearsal.specs.meaning.Soundness.{graphs_from}
use Rattle.rehearsal.specs.meaning.Table.{group_of, has_group, holds, is_home}
use Rattle.rehearsal.proofs.Rows.{item-mapped, item-of_row}

-- who holds what

pub holds-it : (o : Option ℕ) (s : ℕ) → holds o s ≡ true → o ≡ Some s
holds-it None s is = absurd (false≢true is)
holds-it (Some r) s is = ap Some (eqb-true r s is)

pub holds-none : (o : Option ℕ) → is_none o ≡ true → o ≡ None
holds-none None is = refl
holds-none (Some r) is = absurd (false≢true is)

pub not-true : (b : Bool) → not b ≡ true → b ≡ false
not-true true is = absurd (false≢true is)
not-true false is = refl

pub at-home : (m : MachineState) (s : ℕ) → is_home m s ≡ true → (holds m.ingest s ≡ false) × (holds m.watch s ≡ false)
at-home m s home =
    let parts = and_parts (not (holds m.ingest s)) (not (holds m.watch s)) home in
    (not-true (holds m.ingest s) parts.0, not-true (holds m.watch s) parts.1)

-- the actors
pub apart-actors : Ingest ≢ Watch
apart-actors same = cc

module _ (w : WindowValue) (m : MachineState) where
  -- who holds a shard
  pub holder-shown : (s : ℕ) → s < length m.shards → holds_it (shown w m) s ≡ holder_of m s
  holder-shown s within = item-of_row (holder_of m) (length m.shards) s None within

  pub holder-past : (s : ℕ) → length m.shards ≤ s → holds_it (shown w m) s ≡ None
  holder-past s past = get_or_past (mapped (holder_of m) (range_with_len 0 (length m.shards))) s None (subst (λ n. n ≤ s) (sym (length-map-range_with_len (holder_of m) 0 (length m.shards))) past)

  -- an actor holds none where it is none of the holders
  pub holds-nothing : (x : Actor) → ((s : ℕ) → holder_of m s ≢ Some x) → HoldsNone (shown w m) x
  holds-nothing x none s held =
      ⊎_elim (λ within. none s (sym (holder-shown s within) ∙ held)) (λ past. let is = holder-past s past in absurd (cc)) (cases_lt s (length m.shards))

  -- whether one was put
  pub put-shown : (s : ℕ) → s < length m.shards → was_put (shown w m) s ≡ took_in w m s
  put-shown s within = item-of_row (took_in w m) (length m.shards) s false within

  -- the stage of a task
  pub stage-shown : (g : Graph) (t : ℕ) → w.first < t → task_stage (graphs_from w g) (shown w m) t ≡ shown_stage (get_or m.stages (group_of w t) Finished)
  stage-shown g t later =
      let next : t - w.first ≡ suc (t - (w.first + 1)) = omega (arith, later) in
      ap (λ k. get_or (IsDone ∷ mapped shown_stage m.stages) k IsDone) next ∙ item-mapped shown_stage m.stages (t - (w.first + 1)) Finished

-- a holder is the ingest or the watch
no-task : (a b : Bool) (t : ℕ) → cond a (Some Ingest) (cond b (Some Watch) None) ≢ Some (Reads t)
no-task true b t is = cc
no-task false true t is = cc
no-task false false t is = cc

pub no-reader : (m : MachineState) (t s : ℕ) → holder_of m s ≢ Some (Reads t)
no-reader m t s = no-task (holds m.ingest s) (holds m.watch s) t

not-ingest : (b : Bool) → cond b (Some Watch) None ≢ Some Ingest
not-ingest true is = cc
not-ingest false is = cc

pub no-ingest : (m : MachineState) → m.ingest ≡ None → (s : ℕ) → holder_of m s ≢ Some Ingest
no-ingest m none s is = not-ingest (holds m.watch s) (ap (λ (o : Option ℕ). cond (holds o s) (Some Ingest) (cond (holds m.watch s) (Some Watch) None)) (sym none) ∙ is)

not-watch : (a : Bool) → cond a (Some Ingest) None ≢ Some Watch
not-watch true is = cc
not-watch false is = cc

pub no-watch : (m : MachineState) → m.watch ≡ None → (s : ℕ) → holder_of m s ≢ Some Watch
no-watch m none s is = not-watch (holds m.ingest s) (ap (λ (o : Option ℕ). cond (holds m.ingest s) (Some Ingest) (cond (holds o s) (Some Watch) None)) (sym none) ∙ is)

-- where there is a group there is a task
pub group-within : (w : WindowValue) (t : ℕ) → has_group w t ≡ true → (w.first < t) × (t ≤ w.first + length w.later)
group-within w t has =
    let parts = and_parts (ltb w.first t) (leb t (w.first + length w.later)) has in
    (ltb-true w.first t parts.0, leb-true t (w.first + length w.later) parts.1)
