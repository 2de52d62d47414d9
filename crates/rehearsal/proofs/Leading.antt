-- That an event that may happen is a move of the machine that is shown.
use Rattle.std.proofs.Common.{◌≡◌, ◌≢◌, ◌<◌, ◌≤◌, ◌+◌, ⊎_elim, ℕ, Bool, true, false, ◌&&◌, ◌||◌, cond, eqb, eq-eqb, ltb, leb, List, [], ◌∷◌, map as mapped, length, get_or, set, replicate, Option, None, Some, is_none, refl, sym, ap, subst, ◌∙◌, arith}
use Rattle.std.specs.List.{range_with_len}
use Rattle.std.proofs.lemmas.Bool.{and_parts, cases_lt, eqb-true, false_from_ne_true, false≢true, leb-true, le-ltb, ltb-true, ne_eqb, or_right}
use Rattle.std.proofs.lemmas.List.{drop_more, length-set, map-set, set-get_or}
use Rattle.std.proofs.lemmas.List.Folds.{list_any_more}
use Rattle.graph_types.specs.meaning.Graph.{Graph}
use Rattle.group_window.specs.meaning.Windows.{IsSound, WindowValue, graph_of}
use Rattle.shard_events.specs.meaning.Events as move
use Rattle.shard_events.specs.meaning.Events.{LeadTo, Leads, Take, PutPart, PutPruned, Stamp, Begin, Finish, SeeDone, Raise, SeeFront, with_fronts, with_holder, with_next_part, with_put, with_shard, with_stage, with_stamp}
use Rattle.shard_events.specs.meaning.Machine.{HasPart, State, part_of_shard, stage_of as task_stage, Ingest, Watch, Task as Reads, Live as Lives, Finished as IsDone}
use Rattle.shard_state.specs.meaning.Joining.{shard_at}
use Rattle.shard_state.specs.meaning.Shards.{applied, pruned}
use Rattle.update_rules.specs.declared.shards.Part.{Part}
use Rattle.update_rules.specs.meaning.Parts.{parts_between}
use Rattle.rehearsal.specs.declared.event.Event.{Event}
use Rattle.rehearsal.specs.declared.event.Event.TheVariants as event
use Rattle.rehearsal.specs.meaning.MachineState.{MachineState, Stage, Live, Explored, Finished}
use Rattle.rehearsal.specs.meaning.Shown.{holder_of, moves_of, shown, shown_stage, took_in}
use Rattle.rehearsal.specs.meaning.Soundness.{IsSoundState, graphs_from}
use Rattle.rehearsal.specs.meaning.Table.{after, are_for, group_of, group_parts, has_group, holds, is_explored, is_finished, is_home, is_live, is_waiting, may, next_parts, no_parts, task_is, with_first_part}
use Rattle.rehearsal.proofs.Moving.{explored-is, finished-is, first-for, first-has, first-part, first-unput, first-within, live-is, no-parts, none-left, some-left, took-all, waiting-is}
use Rattle.rehearsal.proofs.Rows.{item-mapped, row-of_one, row-set}
use Rattle.rehearsal.proofs.Showing.{at-home, group-within, holder-shown, holds-it, holds-none, holds-nothing, no-ingest, no-reader, no-watch, put-shown, stage-shown}

pub three : (a b c : Bool) → (a && b && c) ≡ true → (a ≡ true) × (b ≡ true) × (c ≡ true)
three true true true is = (refl, refl, refl)
three true true false is = absurd (false≢true is)
three true false c is = absurd (false≢true is)
three false b c is = absurd (false≢true is)

pub four : (a b c d : Bool) → (a && b && c && d) ≡ true → (a ≡ true) × (b ≡ true) × (c ≡ true) × (d ≡ true)
four true true true true is = (refl, refl, refl, refl)
four true true true false is = absurd (false≢true is)
four true true false d is = absurd (false≢true is)
four true false c d is = absurd (false≢true is)
four false b c d is = absurd (false≢true is)

or-false : (b : Bool) → (b || false) ≡ b
or-false true = refl
or-false false = refl

-- where a part is left there is a group left
pub more-left : (w : WindowValue) (m : MachineState) → m.parts < length (group_parts w m) → m.stamped < length w.later
more-left w m left =
    ⊎_elim (λ more. more)
    (λ all.
    let none : group_parts w m ≡ [] = ap (λ b. cond b (parts_between (graph_of w m.stamped) (graph_of w (m.stamped + 1)) w.shards) []) (le-ltb m.stamped (length w.later) all) in
    let len = ap length none in
    absurd (omega (arith, left, len)))
    (cases_lt m.stamped (length w.later))

module _ (w : WindowValue) (g : Graph) (window : IsSound w) (m : MachineState) (sound : IsSoundState w g m) where
  -- the watch does not hold what the ingest holds
  pub watch-not : (s : ℕ) → m.ingest ≡ Some s → holds m.watch s ≡ false
  watch-not s held = false_from_ne_true (holds m.watch s) (λ is. sound.apart s held (holds-it m.watch s is))

  pub ingest-not : (s : ℕ) → m.watch ≡ Some s → holds m.ingest s ≡ false
  ingest-not s held = false_from_ne_true (holds m.ingest s) (λ is. sound.apart s (holds-it m.ingest s is) held)

  -- one that holds a shard holds no other
  other-not : (o : Option ℕ) (s r : ℕ) → o ≡ Some s → r ≢ s → holds o r ≡ false
  other-not o s r held apart = ap (λ (x : Option ℕ). holds x r) held ∙ ne_eqb s r (λ same. apart (sym same))

  -- the ingest puts a shard with its part
  module _ (s : ℕ) (is : holds m.ingest s ≡ true) where
    held : m.ingest ≡ Some s
    held = holds-it m.ingest s is

    module _ (part : Part) (rest : List Part) (left : next_parts w m ≡ part ∷ rest) (for : part.shard ≡ s) where
      pub parts-left : m.parts < length (group_parts w m)
      parts-left = some-left m.parts (group_parts w m) part rest left

      pub group-left : m.stamped < length w.later
      group-left = more-left w m parts-left

      pub put-within : s < length m.shards
      put-within = subst (λ k. k < length m.shards) for (first-within w g window sound.base m sound.parted group-left part rest left)

      abbrev next : MachineState
      next = after w m (event.IngestPut s)

      put-shards : next.shards ≡ set m.shards s (with_next_part (graphs_from w g) (shown w m) s)
      put-shards =
          let old = shard_at m.shards s in
          let place : w.first + (m.stamped + 1) ≡ w.first + m.stamped + 1 = omega arith in
          ap (set m.shards s)
          (ap (λ parts. with_first_part parts (w.first + (m.stamped + 1)) old) left
          ∙ ap (λ (p : Part). applied old p.changes (w.first + (m.stamped + 1))) (first-part w g window sound.base m sound.parted group-left part rest left ∙ ap (λ k. part_of_shard (graphs_from w g) (shown w m) k (w.first + m.stamped + 1)) for)
          ∙ ap (applied old (part_of_shard (graphs_from w g) (shown w m) s (w.first + m.stamped + 1)).changes) place)

      put-holders : mapped (holder_of next) (range_with_len 0 (length next.shards)) ≡ set (mapped (holder_of m) (range_with_len 0 (length m.shards))) s None
      put-holders =
          ap (λ n. mapped (holder_of next) (range_with_len 0 n)) (length-set m.shards s (with_first_part (next_parts w m) (w.first + (m.stamped + 1)) (shard_at m.shards s)))
          ∙ row-set (holder_of m) (holder_of next) (length m.shards) s None (ap (λ b. cond b (Some Watch) None) (watch-not s held))
          (λ r apart. ap (λ b. cond b (Some Ingest) (cond (holds m.watch r) (Some Watch) None)) (sym (other-not m.ingest s r held apart)))

      took-more : (r : ℕ) → took_in w next r ≡ (took_in w m r || eqb part.shard r)
      took-more r =
          let first : get_or (group_parts w m) m.parts part ≡ part = let more = drop_more (group_parts w m) m.parts part parts-left in cc in
          list_any_more (λ (p : Part). eqb p.shard r) (group_parts w m) m.parts part parts-left ∙ ap (λ (p : Part). took_in w m r || eqb p.shard r) first

      put-puts : mapped (took_in w next) (range_with_len 0 (length next.shards)) ≡ set (mapped (took_in w m) (range_with_len 0 (length m.shards))) s true
      put-puts =
          ap (λ n. mapped (took_in w next) (range_with_len 0 n)) (length-set m.shards s (with_first_part (next_parts w m) (w.first + (m.stamped + 1)) (shard_at m.shards s)))
          ∙ row-set (took_in w m) (took_in w next) (length m.shards) s true (took-more s ∙ or_right (took_in w m s) (eqb part.shard s) (eq-eqb part.shard s for))
          (λ r apart. took-more r ∙ ap (λ b. took_in w m r || b) (ne_eqb part.shard r (λ same. apart (sym same ∙ for))) ∙ or-false (took_in w m r))

      leads-put : Leads (graphs_from w g) (shown w m) (PutPart s) (shown w next)
      leads-put =
          let is_shown : shown w next ≡ with_put (with_holder (with_shard (shown w m) s (with_next_part (graphs_from w g) (shown w m) s)) s None) s =
          (λ i. record { shards = put-shards i; holders = put-holders i; puts = put-puts i; stamped = w.first + m.stamped; stages = mapped shown_stage m.stages; known = w.first + m.known; front = w.first + m.front; seen = w.first + m.seen }) in
          subst (Leads (graphs_from w g) (shown w m) (PutPart s)) (sym is_shown)
          (move.put_part s (holder-shown w m s put-within ∙ ap (λ b. cond b (Some Ingest) (cond (holds m.watch s) (Some Watch) None)) is)
          (put-shown w m s put-within ∙ subst (λ k. took_in w m k ≡ false) for (first-unput w g window sound.base m sound.parted group-left part rest left))
          (subst (λ k. HasPart (graphs_from w g) (shown w m) k (w.first + m.stamped + 1)) for (first-has w g window sound.base m sound.parted group-left part rest left)))

    pub leads-ingest_put : Leads (graphs_from w g) (shown w m) (PutPart s) (shown w (after w m (event.IngestPut s)))
    leads-ingest_put = let first = first-for (next_parts w m) s (sound.next s held) in leads-put first.0 first.1 first.2 first.3

  -- it takes one
  module _ (s : ℕ) (is : may w m (event.IngestTake s) ≡ true) where
    pub take-is : (is_none m.ingest ≡ true) × (are_for (next_parts w m) s ≡ true) × (is_home m s ≡ true)
    take-is = three (is_none m.ingest) (are_for (next_parts w m) s) (is_home m s) is

    pub take-within : s < length m.shards
    take-within =
        let first = first-for (next_parts w m) s take-is.1 in
        let more = more-left w m (some-left m.parts (group_parts w m) first.0 first.1 first.2) in
        subst (λ k. k < length m.shards) first.3 (first-within w g window sound.base m sound.parted more first.0 first.1 first.2)

    home-none : holder_of m s ≡ None
    home-none = let home = at-home m s take-is.2 in (λ i. cond (home.0 i) (Some Ingest) (cond (home.1 i) (Some Watch) None))

    pub leads-ingest_take : Leads (graphs_from w g) (shown w m) (Take Ingest s) (shown w (after w m (event.IngestTake s)))
    leads-ingest_take =
        let none = holds-none m.ingest take-is.0 in
        let next = after w m (event.IngestTake s) in
        let holders : mapped (holder_of next) (range_with_len 0 (length m.shards)) ≡ set (mapped (holder_of m) (range_with_len 0 (length m.shards))) s (Some Ingest) =
        row-set (holder_of m) (holder_of next) (length m.shards) s (Some Ingest) (ap (λ b. cond b (Some Ingest) (cond (holds m.watch s) (Some Watch) None)) (eq-eqb s s refl))
        (λ r apart. ap (λ b. cond b (Some Ingest) (cond (holds m.watch r) (Some Watch) None)) (ne_eqb s r (λ same. apart (sym same)))
        ∙ ap (λ (o : Option ℕ). cond (holds o r) (Some Ingest) (cond (holds m.watch r) (Some Watch) None)) (sym none)) in
        let is_shown : shown w next ≡ with_holder (shown w m) s (Some Ingest) =
        (λ i. record { shards = m.shards; holders = holders i; puts = mapped (took_in w m) (range_with_len 0 (length m.shards)); stamped = w.first + m.stamped; stages = mapped shown_stage m.stages; known = w.first + m.known; front = w.first + m.front; seen = w.first + m.seen }) in
        subst (Leads (graphs_from w g) (shown w m) (Take Ingest s)) (sym is_shown)
        (move.take Ingest s take-within (holder-shown w m s take-within ∙ home-none) (holds-nothing w m Ingest (no-ingest m none)) tt)

  -- the next timestamp is stamped
  module _ (is : may w m event.Stamp ≡ true) where
    pub stamp-is : (is_none m.ingest ≡ true) × (ltb m.stamped (length w.later) ≡ true) × (no_parts (next_parts w m) ≡ true)
    stamp-is = three (is_none m.ingest) (ltb m.stamped (length w.later)) (no_parts (next_parts w m)) is

    pub leads-stamp : Leads (graphs_from w g) (shown w m) Stamp (shown w (after w m event.Stamp))
    leads-stamp =
        let none = holds-none m.ingest stamp-is.0 in
        let more = ltb-true m.stamped (length w.later) stamp-is.1 in
        let all = none-left m.parts (group_parts w m) (no-parts (next_parts w m) stamp-is.2) in
        let next = after w m event.Stamp in
        let puts : mapped (took_in w next) (range_with_len 0 (length m.shards)) ≡ replicate (length m.shards) false = row-of_one (took_in w next) (length m.shards) false (λ r. refl) in
        let place : w.first + (m.stamped + 1) ≡ w.first + m.stamped + 1 = omega arith in
        let is_shown : shown w next ≡ with_stamp (shown w m) =
        (λ i. record { shards = m.shards; holders = mapped (holder_of m) (range_with_len 0 (length m.shards)); puts = puts i; stamped = place i; stages = mapped shown_stage m.stages; known = w.first + m.known; front = w.first + m.front; seen = w.first + m.seen }) in
        subst (Leads (graphs_from w g) (shown w m) Stamp) (sym is_shown)
        (move.stamp (holds-nothing w m Ingest (no-ingest m none)) (omega (arith, more))
        (λ s within has. put-shown w m s within ∙ took-all w g window sound.base m sound.parted more s within has all))

  -- a task goes on
  module _ (t : ℕ) (test : Stage → Bool) (is : task_is w m test t ≡ true) where
    pub task-within : (w.first < t) × (t ≤ w.first + length w.later)
    task-within = group-within w t (and_parts (has_group w t) (test (get_or m.stages (group_of w t) Finished)) is).0

    pub task-test : test (get_or m.stages (group_of w t) Finished) ≡ true
    task-test = (and_parts (has_group w t) (test (get_or m.stages (group_of w t) Finished)) is).1

  with-stage : (t : ℕ) (stage : Stage) → shown w (record { shards = m.shards; ingest = m.ingest; watch = m.watch; parts = m.parts; stamped = m.stamped; stages = set m.stages (group_of w t) stage; known = m.known; front = m.front; seen = m.seen }) ≡ with_stage (graphs_from w g) (shown w m) t (shown_stage stage)
  with-stage t stage i = record {
    shards = m.shards;
    holders = mapped (holder_of m) (range_with_len 0 (length m.shards));
    puts = mapped (took_in w m) (range_with_len 0 (length m.shards));
    stamped = w.first + m.stamped;
    stages = map-set shown_stage m.stages (group_of w t) stage i;
    known = w.first + m.known;
    front = w.first + m.front;
    seen = w.first + m.seen;
  }

  pub leads-begin : (t : ℕ) → may w m (event.Begin t) ≡ true → Leads (graphs_from w g) (shown w m) (Begin t) (shown w (after w m (event.Begin t)))
  leads-begin t is =
      let parts = and_parts (task_is w m is_waiting t) (leb t (w.first + m.stamped)) is in
      let waiting = waiting-is (get_or m.stages (group_of w t) Finished) (task-test t is_waiting parts.0) in
      subst (Leads (graphs_from w g) (shown w m) (Begin t)) (sym (with-stage t Live))
      (move.begin t (leb-true t (w.first + m.stamped) parts.1) (stage-shown w m g t (task-within t is_waiting parts.0).0 ∙ ap shown_stage waiting))

  pub leads-finish : (t : ℕ) → may w m (event.Finish t) ≡ true → Leads (graphs_from w g) (shown w m) (Finish t) (shown w (after w m (event.Finish t)))
  leads-finish t is =
      let explored = explored-is (get_or m.stages (group_of w t) Finished) (task-test t is_explored is) in
      subst (Leads (graphs_from w g) (shown w m) (Finish t)) (sym (with-stage t Finished))
      (move.finish t (stage-shown w m g t (task-within t is_explored is).0 ∙ ap shown_stage explored) (holds-nothing w m (Reads t) (no-reader m t)))

  -- what is shown stays where a task explores
  pub same-explored : (t : ℕ) → may w m (event.Explore t) ≡ true → shown w (after w m (event.Explore t)) ≡ shown w m
  same-explored t is =
      let parts = and_parts (task_is w m is_live t) (is_none m.ingest && is_none m.watch) is in
      let live = live-is (get_or m.stages (group_of w t) Finished) (task-test t is_live parts.0) in
      let here : get_or (mapped shown_stage m.stages) (group_of w t) IsDone ≡ Lives = item-mapped shown_stage m.stages (group_of w t) Finished ∙ ap shown_stage live in
      let stages : mapped shown_stage (set m.stages (group_of w t) Explored) ≡ mapped shown_stage m.stages =
      map-set shown_stage m.stages (group_of w t) Explored ∙ ap (set (mapped shown_stage m.stages) (group_of w t)) (sym here) ∙ set-get_or (mapped shown_stage m.stages) (group_of w t) IsDone in
      (λ i. record {
        shards = m.shards;
        holders = mapped (holder_of m) (range_with_len 0 (length m.shards));
        puts = mapped (took_in w m) (range_with_len 0 (length m.shards));
        stamped = w.first + m.stamped;
        stages = stages i;
        known = w.first + m.known;
        front = w.first + m.front;
        seen = w.first + m.seen;
      })

  pub leads-see_done : (t : ℕ) → may w m (event.SeeDone t) ≡ true → Leads (graphs_from w g) (shown w m) SeeDone (shown w (after w m (event.SeeDone t)))
  leads-see_done t is =
      let parts = and_parts (task_is w m is_finished t) (eqb t (w.first + (m.known + 1))) is in
      let finished = finished-is (get_or m.stages (group_of w t) Finished) (task-test t is_finished parts.0) in
      let within = task-within t is_finished parts.0 in
      let last = within.1 in
      let here = eqb-true t (w.first + (m.known + 1)) parts.1 in
      let place : t ≡ w.first + m.known + 1 = omega (arith, here) in
      let next : w.first + (m.known + 1) ≡ w.first + m.known + 1 = omega arith in
      let is_shown : shown w (after w m (event.SeeDone t)) ≡ with_fronts (shown w m) (w.first + m.known + 1) (w.first + m.front) (w.first + m.seen) =
      (λ i. record {
        shards = m.shards;
        holders = mapped (holder_of m) (range_with_len 0 (length m.shards));
        puts = mapped (took_in w m) (range_with_len 0 (length m.shards));
        stamped = w.first + m.stamped;
        stages = mapped shown_stage m.stages;
        known = next i;
        front = w.first + m.front;
        seen = w.first + m.seen;
      }) in
      subst (Leads (graphs_from w g) (shown w m) SeeDone) (sym is_shown)
      (move.see_done (omega (arith, last, here)) (subst (λ k. task_stage (graphs_from w g) (shown w m) k ≡ IsDone) place (stage-shown w m g t within.0 ∙ ap shown_stage finished)))

  -- the watch puts a shard, pruned
  module _ (s : ℕ) (is : holds m.watch s ≡ true) where
    kept : m.watch ≡ Some s
    kept = holds-it m.watch s is

    pub leads-prune_put : Leads (graphs_from w g) (shown w m) (PutPruned s (w.first + m.seen)) (shown w (after w m (event.PrunePut s)))
    leads-prune_put =
        let within = (sound.behind s kept).0 in
        let next = after w m (event.PrunePut s) in
        let len = length-set m.shards s (pruned (shard_at m.shards s) (w.first + m.seen)) in
        let holders : mapped (holder_of next) (range_with_len 0 (length next.shards)) ≡ set (mapped (holder_of m) (range_with_len 0 (length m.shards))) s None =
        ap (λ n. mapped (holder_of next) (range_with_len 0 n)) len
        ∙ row-set (holder_of m) (holder_of next) (length m.shards) s None (ap (λ b. cond b (Some Ingest) None) (ingest-not s kept))
        (λ r apart. ap (λ b. cond (holds m.ingest r) (Some Ingest) (cond b (Some Watch) None)) (sym (other-not m.watch s r kept apart))) in
        let puts : mapped (took_in w m) (range_with_len 0 (length next.shards)) ≡ mapped (took_in w m) (range_with_len 0 (length m.shards)) = ap (λ n. mapped (took_in w m) (range_with_len 0 n)) len in
        let is_shown : shown w next ≡ with_holder (with_shard (shown w m) s (pruned (shard_at m.shards s) (w.first + m.seen))) s None =
        (λ i. record {
          shards = set m.shards s (pruned (shard_at m.shards s) (w.first + m.seen));
          holders = holders i;
          puts = puts i;
          stamped = w.first + m.stamped;
          stages = mapped shown_stage m.stages;
          known = w.first + m.known;
          front = w.first + m.front;
          seen = w.first + m.seen;
        }) in
        subst (Leads (graphs_from w g) (shown w m) (PutPruned s (w.first + m.seen))) (sym is_shown)
        (move.put_pruned s (w.first + m.seen)
        (holder-shown w m s within ∙ (λ i. cond (ingest-not s kept i) (Some Ingest) (cond (is i) (Some Watch) None))) (omega arith))

  -- it takes one
  module _ (s : ℕ) (is : may w m (event.PruneTake s) ≡ true) where
    pub prune-is : (is_none m.watch ≡ true) × (is_home m s ≡ true) × (ltb s (length m.shards) ≡ true) × (ltb (shard_at m.shards s).floor (w.first + m.seen) ≡ true)
    prune-is = four (is_none m.watch) (is_home m s) (ltb s (length m.shards)) (ltb (shard_at m.shards s).floor (w.first + m.seen)) is

    pub leads-prune_take : Leads (graphs_from w g) (shown w m) (Take Watch s) (shown w (after w m (event.PruneTake s)))
    leads-prune_take =
        let none = holds-none m.watch prune-is.0 in
        let home = at-home m s prune-is.1 in
        let within = ltb-true s (length m.shards) prune-is.2 in
        let next = after w m (event.PruneTake s) in
        let holders : mapped (holder_of next) (range_with_len 0 (length m.shards)) ≡ set (mapped (holder_of m) (range_with_len 0 (length m.shards))) s (Some Watch) =
        row-set (holder_of m) (holder_of next) (length m.shards) s (Some Watch) (λ i. cond (home.0 i) (Some Ingest) (cond (eq-eqb s s refl i) (Some Watch) None))
        (λ r apart. ap (λ b. cond (holds m.ingest r) (Some Ingest) (cond b (Some Watch) None)) (ne_eqb s r (λ same. apart (sym same)))
        ∙ ap (λ (o : Option ℕ). cond (holds m.ingest r) (Some Ingest) (cond (holds o r) (Some Watch) None)) (sym none)) in
        let is_shown : shown w next ≡ with_holder (shown w m) s (Some Watch) =
        (λ i. record {
          shards = m.shards;
          holders = holders i;
          puts = mapped (took_in w m) (range_with_len 0 (length m.shards));
          stamped = w.first + m.stamped;
          stages = mapped shown_stage m.stages;
          known = w.first + m.known;
          front = w.first + m.front;
          seen = w.first + m.seen;
        }) in
        subst (Leads (graphs_from w g) (shown w m) (Take Watch s)) (sym is_shown)
        (move.take Watch s within (holder-shown w m s within ∙ (λ i. cond (home.0 i) (Some Ingest) (cond (home.1 i) (Some Watch) None))) (holds-nothing w m Watch (no-watch m none)) tt)

  one-move : (what : _) (next : State) → Leads (graphs_from w g) (shown w m) what next → LeadTo (graphs_from w g) (shown w m) (what ∷ []) next
  one-move what next leads = move.more [] (shown w m) what next move.none leads

  -- what an event leads to is shown as what its moves lead to
  pub moves-lead : (what : Event) → may w m what ≡ true → LeadTo (graphs_from w g) (shown w m) (moves_of w m what) (shown w (after w m what))
  moves-lead (event.IngestPut s) is = one-move (PutPart s) _ (leads-ingest_put s is)
  moves-lead (event.IngestTake s) is = one-move (Take Ingest s) _ (leads-ingest_take s is)
  moves-lead event.Stamp is = one-move Stamp _ (leads-stamp is)
  moves-lead (event.Begin t) is = one-move (Begin t) _ (leads-begin t is)
  moves-lead (event.Explore t) is = subst (LeadTo (graphs_from w g) (shown w m) []) (sym (same-explored t is)) move.none
  moves-lead (event.Finish t) is = one-move (Finish t) _ (leads-finish t is)
  moves-lead (event.SeeDone t) is = one-move SeeDone _ (leads-see_done t is)
  moves-lead event.Raise is = one-move Raise _ move.raise
  moves-lead event.SeeFront is = one-move SeeFront _ move.see_front
  moves-lead (event.PrunePut s) is = one-move (PutPruned s (w.first + m.seen)) _ (leads-prune_put s is)
  moves-lead (event.PruneTake s) is = one-move (Take Watch s) _ (leads-prune_take s is)
