-- What holds of a machine where no event may happen.
use Rattle.std.proofs.Common.{◌≡◌, ◌<◌, ◌≤◌, ◌+◌, ◌-◌, ⊎_elim, ℕ, zero, suc, Bool, true, false, ◌&&◌, not, cond, eqb, eq-eqb, ltb, leb, List, [], ◌∷◌, ◌++◌, map as mapped, filter, length, get_or, take, Option, None, Some, is_none, inl, inr, refl, sym, ap, subst, ◌∙◌, arith, add-one}
use Rattle.std.specs.List.{AllByRecursion, list_any, range_with_len, slice_get}
use Rattle.std.proofs.lemmas.Bool.{and_from, cases_lt, le-leb, le-ltb, lt-ltb}
use Rattle.std.proofs.lemmas.List.{length-map, take_all}
use Rattle.delta_task.specs.calls.Deltas.{IsDelta}
use Rattle.delta_task.specs.declared.delta.Delta.{Delta}
use Rattle.graph_types.specs.meaning.Graph.{Graph}
use Rattle.mining_model.specs.meaning.Embeddings.{Pattern}
use Rattle.mining_model.specs.meaning.History.{graph_at}
use Rattle.group_window.specs.meaning.Windows.{IsSound, WindowValue, last_or, graph_of as window_graph}
use Rattle.shared_lemmas.specs.meaning.Membership.{IsIn}
use Rattle.shared_lemmas.proofs.Membership.{IsIn-append_left, IsIn-append_right, IsIn-filter, IsIn-map}
use Rattle.shard_events.specs.meaning.Machine.{was_put}
use Rattle.shard_state.specs.calls.Sharing.{KeepGraph, TellUpTo}
use Rattle.shard_state.specs.meaning.Joining.{shard_at}
use Rattle.shard_state.specs.meaning.Telling.{Tells}
use Rattle.shard_state.proofs.TellingOn.{KeepGraph-told}
use Rattle.update_rules.specs.declared.shards.Part.{Part}
use Rattle.update_rules.specs.meaning.Parts.{parts_between}
use Rattle.window_miner.specs.calls.Mining.{AreDeltas, IsMined}
use Rattle.window_miner.specs.declared.mining.Mined.{Mined}
use Rattle.rehearsal.specs.declared.event.Event.{Event}
use Rattle.rehearsal.specs.declared.event.Event.TheVariants as event
use Rattle.rehearsal.specs.declared.task.Task.{Task}
use Rattle.rehearsal.specs.declared.task.Task.TheVariants as task
use Rattle.rehearsal.specs.meaning.MachineState.{MachineState, Stage, Waiting, Live, Explored, Finished}
use Rattle.rehearsal.specs.meaning.Shown.{shown}
use Rattle.rehearsal.specs.meaning.Soundness.{HasFound, HaveFound, IsSoundState, graphs_from}
use Rattle.rehearsal.specs.meaning.Table.{all_events, are_for, enabled, group_of, group_parts, has_group, holds, is_explored, is_finished, is_home, is_live, is_waiting, may, next_parts, no_parts, task_is}
use Rattle.rehearsal.proofs.Leading.{more-left}
use Rattle.rehearsal.proofs.Moving.{first-for, first-within, same-graph, some-left}
use Rattle.rehearsal.proofs.Showing.{put-shown}
use Rattle.rehearsal.proofs.Viewing.{each-by_number}

-- the numbers of a row
in-row : (a n s : ℕ) → a ≤ s → s < a + n → IsIn s (range_with_len a n)
in-row a zero s from below = absurd (omega (arith, from, below))
in-row a (suc n) s from below =
    ⊎_elim (λ later. inr (in-row (a + 1) n s (omega (arith, later)) (omega (arith, below)))) (λ most. inl (omega (arith, from, most))) (cases_lt a s)

-- an event of each kind is listed
module _ (w : WindowValue) where
  abbrev shard_numbers : List ℕ
  shard_numbers = range_with_len 0 w.shards

  abbrev stamps : List ℕ
  stamps = range_with_len (w.first + 1) (length w.later)

  abbrev up_to-1 : List Event
  up_to-1 = mapped event.IngestPut shard_numbers

  abbrev up_to-2 : List Event
  up_to-2 = up_to-1 ++ mapped event.IngestTake shard_numbers

  abbrev up_to-3 : List Event
  up_to-3 = up_to-2 ++ event.Stamp ∷ []

  abbrev up_to-4 : List Event
  up_to-4 = up_to-3 ++ mapped event.Begin stamps

  abbrev up_to-5 : List Event
  up_to-5 = up_to-4 ++ mapped event.Explore stamps

  abbrev up_to-6 : List Event
  up_to-6 = up_to-5 ++ mapped event.Finish stamps

  abbrev up_to-7 : List Event
  up_to-7 = up_to-6 ++ mapped event.SeeDone stamps

  abbrev up_to-8 : List Event
  up_to-8 = up_to-7 ++ event.Raise ∷ []

  abbrev up_to-9 : List Event
  up_to-9 = up_to-8 ++ event.SeeFront ∷ []

  abbrev up_to-10 : List Event
  up_to-10 = up_to-9 ++ mapped event.PrunePut shard_numbers

  all-is : all_events w ≡ up_to-10 ++ mapped event.PruneTake shard_numbers
  all-is = refl

  listed-10 : (e : Event) → IsIn e up_to-10 → IsIn e (all_events w)
  listed-10 e here = IsIn-append_left e up_to-10 (mapped event.PruneTake shard_numbers) here

  listed-9 : (e : Event) → IsIn e up_to-9 → IsIn e (all_events w)
  listed-9 e here = listed-10 e (IsIn-append_left e up_to-9 (mapped event.PrunePut shard_numbers) here)

  listed-8 : (e : Event) → IsIn e up_to-8 → IsIn e (all_events w)
  listed-8 e here = listed-9 e (IsIn-append_left e up_to-8 (event.SeeFront ∷ []) here)

  listed-7 : (e : Event) → IsIn e up_to-7 → IsIn e (all_events w)
  listed-7 e here = listed-8 e (IsIn-append_left e up_to-7 (event.Raise ∷ []) here)

  listed-6 : (e : Event) → IsIn e up_to-6 → IsIn e (all_events w)
  listed-6 e here = listed-7 e (IsIn-append_left e up_to-6 (mapped event.SeeDone stamps) here)

  listed-5 : (e : Event) → IsIn e up_to-5 → IsIn e (all_events w)
  listed-5 e here = listed-6 e (IsIn-append_left e up_to-5 (mapped event.Finish stamps) here)

  listed-4 : (e : Event) → IsIn e up_to-4 → IsIn e (all_events w)
  listed-4 e here = listed-5 e (IsIn-append_left e up_to-4 (mapped event.Explore stamps) here)

  listed-3 : (e : Event) → IsIn e up_to-3 → IsIn e (all_events w)
  listed-3 e here = listed-4 e (IsIn-append_left e up_to-3 (mapped event.Begin stamps) here)

  listed-2 : (e : Event) → IsIn e up_to-2 → IsIn e (all_events w)
  listed-2 e here = listed-3 e (IsIn-append_left e up_to-2 (event.Stamp ∷ []) here)

  listed-1 : (e : Event) → IsIn e up_to-1 → IsIn e (all_events w)
  listed-1 e here = listed-2 e (IsIn-append_left e up_to-1 (mapped event.IngestTake shard_numbers) here)

  of-shard : (f : ℕ → Event) (s : ℕ) → s < w.shards → IsIn (f s) (mapped f shard_numbers)
  of-shard f s within = IsIn-map f s shard_numbers (in-row 0 w.shards s (omega arith) (omega (arith, within)))

  of-task : (f : ℕ → Event) (i : ℕ) → i < length w.later → IsIn (f (w.first + (i + 1))) (mapped f stamps)
  of-task f i within = IsIn-map f (w.first + (i + 1)) stamps (in-row (w.first + 1) (length w.later) (w.first + (i + 1)) (omega arith) (omega (arith, within)))

none-of : (o : Option ℕ) → ((s : ℕ) → o ≡ Some s → ⊥) → o ≡ None
none-of None never = refl
none-of (Some s) never = absurd (never s refl)

no-first : (parts : List Part) → ((part : Part) (rest : List Part) → parts ≡ part ∷ rest → ⊥) → parts ≡ []
no-first [] never = refl
no-first (part ∷ rest) never = absurd (never part rest refl)

finished-of : (x : Stage) → (is_waiting x ≡ true → ⊥) → (is_live x ≡ true → ⊥) → (is_explored x ≡ true → ⊥) → x ≡ Finished
finished-of Waiting waits lives explores = absurd (waits refl)
finished-of Live waits lives explores = absurd (lives refl)
finished-of Explored waits lives explores = absurd (explores refl)
finished-of Finished waits lives explores = refl

nothing-kept : (p : Event → Bool) (e : Event) (es : List Event) → filter p es ≡ [] → IsIn e es → p e ≡ true → ⊥
nothing-kept p e es none here is = subst (IsIn e) none (IsIn-filter p e es here is)

module _ (w : WindowValue) (g : Graph) (window : IsSound w) (m : MachineState) (sound : IsSoundState w g m) (none : enabled w m ≡ []) where
  cannot : (e : Event) → IsIn e (all_events w) → may w m e ≡ true → ⊥
  cannot e = nothing-kept (may w m) e (all_events w) none

  many-shards : (s : ℕ) → s < length m.shards → s < w.shards
  many-shards s within = subst (λ n. s < n) (sym sound.parted) within

  -- the ingest and the watch hold none
  ingest-none : m.ingest ≡ None
  ingest-none = none-of m.ingest (λ s held.
      let first = first-for (next_parts w m) s (sound.next s held) in
      let more = more-left w m (some-left m.parts (group_parts w m) first.0 first.1 first.2) in
      let within = subst (λ k. k < length m.shards) first.3 (first-within w g window sound.base m sound.parted more first.0 first.1 first.2) in
      cannot (event.IngestPut s) (listed-1 w (event.IngestPut s) (of-shard w event.IngestPut s (many-shards s within))) (ap (λ o. holds o s) held ∙ eq-eqb s s refl))

  watch-none : m.watch ≡ None
  watch-none = none-of m.watch (λ s held.
      cannot (event.PrunePut s) (listed-10 w (event.PrunePut s) (IsIn-append_right (event.PrunePut s) (up_to-9 w) (mapped event.PrunePut (shard_numbers w)) (of-shard w event.PrunePut s (many-shards s (sound.behind s held).0))))
      (ap (λ o. holds o s) held ∙ eq-eqb s s refl))

  all-home : (s : ℕ) → is_home m s ≡ true
  all-home s i = not (holds (ingest-none i) s) && not (holds (watch-none i) s)

  -- no part is left
  parts-none : next_parts w m ≡ []
  parts-none = no-first (next_parts w m) (λ part rest left.
      let more = more-left w m (some-left m.parts (group_parts w m) part rest left) in
      let within = first-within w g window sound.base m sound.parted more part rest left in
      let for : are_for (next_parts w m) part.shard ≡ true = ap (λ parts. are_for parts part.shard) left ∙ eq-eqb part.shard part.shard refl in
      cannot (event.IngestTake part.shard) (listed-2 w (event.IngestTake part.shard) (IsIn-append_right (event.IngestTake part.shard) (up_to-1 w) (mapped event.IngestTake (shard_numbers w)) (of-shard w event.IngestTake part.shard (many-shards part.shard within))))
      (λ i. is_none (ingest-none i) && for i && all-home part.shard i))

  -- all groups are stamped
  pub all-stamped : m.stamped ≡ length w.later
  all-stamped =
      let last = sound.ruled.ordered.last in
      ⊎_elim
      (λ more. absurd (cannot event.Stamp (listed-3 w event.Stamp (IsIn-append_right event.Stamp (up_to-2 w) (event.Stamp ∷ []) (inl refl)))
      (λ i. is_none (ingest-none i) && lt-ltb m.stamped (length w.later) more i && no_parts (parts-none i))))
      (λ all. omega (arith, all, last))
      (cases_lt m.stamped (length w.later))

  module _ (k : ℕ) (within : k < length w.later) where
    has : has_group w (w.first + (k + 1)) ≡ true
    has = and_from (ltb w.first (w.first + (k + 1))) (leb (w.first + (k + 1)) (w.first + length w.later)) (lt-ltb w.first (w.first + (k + 1)) (omega arith)) (le-leb (w.first + (k + 1)) (w.first + length w.later) (omega (arith, within)))

    task-so : (test : Stage → Bool) → test (get_or m.stages k Finished) ≡ true → task_is w m test (w.first + (k + 1)) ≡ true
    task-so test is =
        let place : w.first + (k + 1) - (w.first + 1) ≡ k = omega arith in
        and_from (has_group w (w.first + (k + 1))) (test (get_or m.stages (group_of w (w.first + (k + 1))) Finished)) has (ap (λ i. test (get_or m.stages i Finished)) place ∙ is)

    stamped-by : leb (w.first + (k + 1)) (w.first + m.stamped) ≡ true
    stamped-by = let all = all-stamped in le-leb (w.first + (k + 1)) (w.first + m.stamped) (omega (arith, within, all))

    -- each task is finished
    pub all-finished : get_or m.stages k Finished ≡ Finished
    all-finished =
        finished-of (get_or m.stages k Finished)
        (λ is. cannot (event.Begin (w.first + (k + 1)))
        (listed-4 w (event.Begin (w.first + (k + 1))) (IsIn-append_right (event.Begin (w.first + (k + 1))) (up_to-3 w) (mapped event.Begin (stamps w)) (of-task w event.Begin k within)))
        (λ i. task-so is_waiting is i && stamped-by i))
        (λ is. cannot (event.Explore (w.first + (k + 1)))
        (listed-5 w (event.Explore (w.first + (k + 1))) (IsIn-append_right (event.Explore (w.first + (k + 1))) (up_to-4 w) (mapped event.Explore (stamps w)) (of-task w event.Explore k within)))
        (λ i. task-so is_live is i && (is_none (ingest-none i) && is_none (watch-none i))))
        (λ is. cannot (event.Finish (w.first + (k + 1)))
        (listed-6 w (event.Finish (w.first + (k + 1))) (IsIn-append_right (event.Finish (w.first + (k + 1))) (up_to-5 w) (mapped event.Finish (stamps w)) (of-task w event.Finish k within)))
        (task-so is_explored is))

  -- which is known
  all-known : m.known ≡ length w.later
  all-known =
      let stamped = sound.ruled.ordered.stamped in
      let all = all-stamped in
      ⊎_elim
      (λ more. absurd (cannot (event.SeeDone (w.first + (m.known + 1)))
      (listed-7 w (event.SeeDone (w.first + (m.known + 1))) (IsIn-append_right (event.SeeDone (w.first + (m.known + 1))) (up_to-6 w) (mapped event.SeeDone (stamps w)) (of-task w event.SeeDone m.known more)))
      (λ i. task-so m.known more is_finished (ap is_finished (all-finished m.known more)) i && eq-eqb (w.first + (m.known + 1)) (w.first + (m.known + 1)) refl i)))
      (λ most. omega (arith, most, stamped, all))
      (cases_lt m.known (length w.later))

  all-front : m.front ≡ length w.later
  all-front =
      let order = sound.ruled.ordered.known in
      let all = all-known in
      ⊎_elim
      (λ more. absurd (cannot event.Raise (listed-8 w event.Raise (IsIn-append_right event.Raise (up_to-7 w) (event.Raise ∷ []) (inl refl))) (lt-ltb m.front m.known more)))
      (λ most. omega (arith, most, order, all))
      (cases_lt m.front m.known)

  all-seen : m.seen ≡ length w.later
  all-seen =
      let order = sound.ruled.ordered.front in
      let all = all-front in
      ⊎_elim
      (λ more. absurd (cannot event.SeeFront (listed-9 w event.SeeFront (IsIn-append_right event.SeeFront (up_to-8 w) (event.SeeFront ∷ []) (inl refl))) (lt-ltb m.seen m.front more)))
      (λ most. omega (arith, most, order, all))
      (cases_lt m.seen m.front)

  -- each shard is pruned to the last timestamp
  pub floor-last : (s : ℕ) → s < length m.shards → (shard_at m.shards s).floor ≡ w.first + length w.later
  floor-last s within =
      let low = sound.ruled.floors s within in
      let front = all-front in
      let seen = all-seen in
      ⊎_elim
      (λ more. absurd (cannot (event.PruneTake s) (IsIn-append_right (event.PruneTake s) (up_to-10 w) (mapped event.PruneTake (shard_numbers w)) (of-shard w event.PruneTake s (many-shards s within)))
      (λ i. is_none (watch-none i) && all-home s i && lt-ltb s (length m.shards) within i && lt-ltb (shard_at m.shards s).floor (w.first + m.seen) more i)))
      (λ most. omega (arith, most, low, front, seen))
      (cases_lt (shard_at m.shards s).floor (w.first + m.seen))

  -- and tells the graphs up to it
  tells-last : (s : ℕ) → s < length m.shards → Tells (graphs_from w g) (w.first + length w.later) (shard_at m.shards s)
  tells-last s within =
      let all : length w.later ≤ m.stamped = let is = all-stamped in omega (arith, is) in
      let no_group : group_parts w m ≡ [] = ap (λ b. cond b (parts_between (window_graph w m.stamped) (window_graph w (m.stamped + 1)) w.shards) []) (le-ltb m.stamped (length w.later) all) in
      let unput : was_put (shown w m) s ≡ false =
      put-shown w m s within ∙ ap (λ parts. list_any (λ (p : Part). eqb p.shard s) (take m.parts parts)) no_group ∙ ap (list_any (λ (p : Part). eqb p.shard s)) (take_all m.parts [] (omega arith)) in
      let place : w.first + m.stamped ≡ w.first + length w.later = ap (λ k. w.first + k) all-stamped in
      subst (λ n. Tells (graphs_from w g) n (shard_at m.shards s)) place
      (subst (λ b. Tells (graphs_from w g) (cond b (w.first + m.stamped + 1) (w.first + m.stamped)) (shard_at m.shards s)) unput (sound.ruled.told s within))

  last-at : (h : Graph) (later : List Graph) → graph_at h later (length later) ≡ last_or h later
  last-at h [] = refl
  last-at h (next ∷ later) = last-at next later

  pub keep-last : KeepGraph m.shards (w.first + length w.later) (last_or g w.later)
  keep-last =
      let place : w.first + length w.later - w.first ≡ length w.later = omega arith in
      let tell : TellUpTo (graphs_from w g) (length w.later) (length w.later) m.shards = record {
        some = sound.ruled.machine.some;
        numbered = sound.ruled.machine.numbered;
        simple = sound.ruled.simple;
        within = omega arith;
        earlier = omega arith;
        told = each-by_number (Tells (graphs_from w g) (w.first + length w.later)) m.shards tells-last;
        floors = each-by_number (λ shard. shard.floor ≤ w.first + length w.later) m.shards (λ s within. let is = floor-last s within in omega (arith, is));
      } in
      subst (KeepGraph m.shards (w.first + length w.later)) (ap (graph_at g w.later) place ∙ last-at g w.later)
      (KeepGraph-told (graphs_from w g) (length w.later) (length w.later) m.shards tell refl)

  -- there is a delta for each group
  deltas-found : (pattern : Pattern) (most : ℕ) (h : Graph) (later : List Graph) (deltas : List Delta) → length deltas ≡ length later →
      ((i : ℕ) (delta : Delta) → slice_get deltas i ≡ Some delta → IsDelta pattern (graph_at h later i) (graph_at h later (suc i)) most delta) → AreDeltas pattern most h later deltas
  deltas-found pattern most h [] [] many each = tt
  deltas-found pattern most h [] (delta ∷ deltas) many each = absurd (omega (arith, many))
  deltas-found pattern most h (next ∷ later) [] many each = absurd (omega (arith, many))
  deltas-found pattern most h (next ∷ later) (delta ∷ deltas) many each = (each 0 delta refl, deltas-found pattern most next later deltas (omega (arith, many)) (λ i d is. each (suc i) d is))

  task-at : (deltas : List Delta) (i : ℕ) (delta : Delta) → slice_get deltas i ≡ Some delta → (i < length deltas) × (get_or (mapped task.Finished deltas) i task.Waiting ≡ task.Finished delta)
  task-at [] i delta is = absurd (cc)
  task-at (d ∷ deltas) zero delta is = let same : d ≡ delta = cc in (omega arith, ap task.Finished same)
  task-at (d ∷ deltas) (suc i) delta is = let rest = task-at deltas i delta is in let within = rest.0 in (omega (arith, within), rest.1)

  pub deltas-are : (pattern : Pattern) (most : ℕ) (tasks : List Task) (deltas : List Delta) → length tasks ≡ length w.later → HaveFound pattern most w tasks → mapped task.Finished deltas ≡ tasks → AreDeltas pattern most g w.later deltas
  deltas-are pattern most tasks deltas many found are =
      let count : length deltas ≡ length w.later = sym (length-map deltas task.Finished) ∙ ap length are ∙ many in
      deltas-found pattern most g w.later deltas count
      (λ i delta is.
      let at = task-at deltas i delta is in
      let here = at.0 in
      let within : i < length w.later = omega (arith, here, count) in
      let some : 0 < length w.later = omega (arith, within) in
      let right : IsDelta pattern (window_graph w i) (window_graph w (i + 1)) most delta = subst (HasFound pattern most w i) (ap (λ (ts : List Task). get_or ts i task.Waiting) (sym are) ∙ at.1) (found i within) in
      subst (λ n. IsDelta pattern (graph_at g w.later i) (graph_at g w.later n) most delta) (add-one i)
      (subst (λ h. IsDelta pattern (graph_at g w.later i) h most delta) (same-graph w g window sound.base (i + 1) some)
      (subst (λ h. IsDelta pattern h (window_graph w (i + 1)) most delta) (same-graph w g window sound.base i some) right)))

  -- the window is mined
  pub mined : (pattern : Pattern) (most : ℕ) (tasks : List Task) (result : Mined) → length tasks ≡ length w.later → HaveFound pattern most w tasks → mapped task.Finished result.deltas.items ≡ tasks → result.shards.items ≡ m.shards →
      IsMined pattern most w g result
  mined pattern most tasks result many found are shards = record {
    deltas = deltas-are pattern most tasks result.deltas.items many found are;
    count = ap length shards ∙ sym sound.parted;
    keep = subst (λ ss. KeepGraph ss (w.first + length w.later) (last_or g w.later)) (sym shards) keep-last;
    floors = subst (AllByRecursion (λ shard. shard.floor ≡ w.first + length w.later)) (sym shards) (each-by_number (λ shard. shard.floor ≡ w.first + length w.later) m.shards floor-last);
  }
