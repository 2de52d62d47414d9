-- How much a machine has left to do.
use Rattle.std.proofs.Common.{◌≡◌, ◌<◌, ◌≤◌, ◌+◌, ◌-◌, ◌*◌, ⊎_elim, ℕ, zero, suc, true, ◌&&◌, cond, eqb, leb, List, [], ◌∷◌, length, get_or, set, Option, None, Some, is_none, refl, sym, ap, subst, ◌∙◌, arith}
use Rattle.std.proofs.lemmas.Bool.{and_parts, cases_lt, eqb-true, ltb-true, lt-ltb}
use Rattle.std.proofs.lemmas.List.{set_past}
use Rattle.graph_types.specs.meaning.Graph.{Graph}
use Rattle.group_window.specs.meaning.Windows.{IsSound, WindowValue, graph_of}
use Rattle.shard_state.specs.meaning.Joining.{shard_at}
use Rattle.shard_state.specs.meaning.Shards.{ShardValue, pruned}
use Rattle.update_rules.specs.declared.shards.Part.{Part}
use Rattle.update_rules.specs.meaning.Parts.{parts_between}
use Rattle.rehearsal.specs.declared.event.Event.{Event}
use Rattle.rehearsal.specs.declared.event.Event.TheVariants as event
use Rattle.rehearsal.specs.meaning.MachineState.{MachineState, Stage, Waiting, Live, Explored, Finished}
use Rattle.rehearsal.specs.meaning.Soundness.{IsSoundState}
use Rattle.rehearsal.specs.meaning.Table.{after, group_of, group_parts, is_explored, is_finished, is_live, is_waiting, may, next_parts, task_is, with_first_part}
use Rattle.rehearsal.proofs.Leading.{more-left, prune-is, stamp-is, take-is, task-test, task-within}
use Rattle.rehearsal.proofs.Moving.{explored-is, first-for, live-is, no-parts, none-left, some-left, waiting-is}
use Rattle.rehearsal.proofs.Showing.{holds-it, holds-none}

-- the steps that a task has left
abbrev pub steps_of : Stage → ℕ
steps_of Waiting = 3
steps_of Live = 2
steps_of Explored = 1
steps_of Finished = 0

abbrev pub stages_left : List Stage → ℕ
stages_left [] = 0
stages_left (stage ∷ stages) = steps_of stage + stages_left stages

-- how far the floors of shards are below a timestamp
abbrev pub floors_left : ℕ → List ShardValue → ℕ
floors_left last [] = 0
floors_left last (shard ∷ shards) = (last - shard.floor) + floors_left last shards

-- the events of the ingest from group i on, of which n are left: two for each part, and one for the stamp
abbrev pub groups_left : WindowValue → ℕ → ℕ → ℕ
groups_left w zero i = 0
groups_left w (suc n) i = (2 * length (parts_between (graph_of w i) (graph_of w (i + 1)) w.shards) + 1) + groups_left w n (i + 1)

abbrev pub one_if_held : Option ℕ → ℕ
one_if_held None = 0
one_if_held (Some s) = 1

-- what is left of each kind
abbrev pub ingest_left : WindowValue → MachineState → ℕ
ingest_left w m = groups_left w (length w.later - m.stamped) m.stamped - (2 * m.parts + one_if_held m.ingest)

abbrev pub prunes_left : WindowValue → MachineState → ℕ
prunes_left w m = 2 * floors_left (w.first + length w.later) m.shards - one_if_held m.watch

abbrev pub fronts_left : WindowValue → MachineState → ℕ
fronts_left w m = (length w.later - m.known) + (length w.later - m.front) + (length w.later - m.seen)

-- all that is left
pub left_of : WindowValue → MachineState → ℕ
left_of w m = stages_left m.stages + ingest_left w m + prunes_left w m + fronts_left w m

-- a task that goes on has less left
stages-set : (stages : List Stage) (i : ℕ) (stage : Stage) → i < length stages → stages_left (set stages i stage) + steps_of (get_or stages i Finished) ≡ stages_left stages + steps_of stage
stages-set [] i stage within = absurd (omega (arith, within))
stages-set (x ∷ stages) zero stage within = omega arith
stages-set (x ∷ stages) (suc i) stage within = let rest = stages-set stages i stage (omega (arith, within)) in omega (arith, rest)

stages-past : (stages : List Stage) (i : ℕ) → 0 < steps_of (get_or stages i Finished) → i < length stages
stages-past [] i some = absurd (omega (arith, some))
stages-past (x ∷ stages) zero some = omega arith
stages-past (x ∷ stages) (suc i) some = let rest = stages-past stages i some in omega (arith, rest)

pub stages-less : (stages : List Stage) (i : ℕ) (old stage : Stage) → get_or stages i Finished ≡ old → steps_of stage < steps_of old → stages_left (set stages i stage) < stages_left stages
stages-less stages i old stage is less =
    let before : steps_of (get_or stages i Finished) ≡ steps_of old = ap steps_of is in
    let within = stages-past stages i (omega (arith, before, less)) in
    let e = stages-set stages i stage within in
    omega (arith, e, before, less)

-- shards whose floors stay, or rise
floors-set : (last : ℕ) (shards : List ShardValue) (s : ℕ) (shard : ShardValue) → s < length shards → floors_left last (set shards s shard) + (last - (shard_at shards s).floor) ≡ floors_left last shards + (last - shard.floor)
floors-set last [] s shard within = absurd (omega (arith, within))
floors-set last (x ∷ shards) zero shard within = omega arith
floors-set last (x ∷ shards) (suc s) shard within = let rest = floors-set last shards s shard (omega (arith, within)) in omega (arith, rest)

pub floors-same : (last : ℕ) (shards : List ShardValue) (s : ℕ) (shard : ShardValue) → s < length shards → shard.floor ≡ (shard_at shards s).floor → floors_left last (set shards s shard) ≡ floors_left last shards
floors-same last shards s shard within same =
    let e = floors-set last shards s shard within in
    let equal : last - shard.floor ≡ last - (shard_at shards s).floor = ap (λ f. last - f) same in
    omega (arith, e, equal)

-- a shard below has something left
floors-some : (last : ℕ) (shards : List ShardValue) (s : ℕ) → s < length shards → (shard_at shards s).floor < last → 0 < floors_left last shards
floors-some last [] s within low = absurd (omega (arith, within))
floors-some last (x ∷ shards) zero within low = omega (arith, low)
floors-some last (x ∷ shards) (suc s) within low = let rest = floors-some last shards s (omega (arith, within)) low in omega (arith, rest)

-- the groups that are left
pub groups-more : (w : WindowValue) (m : MachineState) → m.stamped < length w.later → groups_left w (length w.later - m.stamped) m.stamped ≡ 2 * length (group_parts w m) + 1 + groups_left w (length w.later - (m.stamped + 1)) (m.stamped + 1)
groups-more w m more =
    let next : length w.later - m.stamped ≡ suc (length w.later - (m.stamped + 1)) = omega (arith, more) in
    ap (λ n. groups_left w n m.stamped) next
    ∙ ap (λ b. 2 * length (cond b (parts_between (graph_of w m.stamped) (graph_of w (m.stamped + 1)) w.shards) []) + 1 + groups_left w (length w.later - (m.stamped + 1)) (m.stamped + 1)) (sym (lt-ltb m.stamped (length w.later) more))

-- each event lowers what is left

total-1 : (a b c d a' : ℕ) → a' < a → a' + b + c + d < a + b + c + d
total-1 a b c d a' less = omega (arith, less)

total-2 : (a b c d b' : ℕ) → b' < b → a + b' + c + d < a + b + c + d
total-2 a b c d b' less = omega (arith, less)

total-3 : (a b c d c' : ℕ) → c' < c → a + b + c' + d < a + b + c + d
total-3 a b c d c' less = omega (arith, less)

total-4 : (a b c d d' : ℕ) → d' < d → a + b + c + d' < a + b + c + d
total-4 a b c d d' less = omega (arith, less)

module _ (w : WindowValue) (g : Graph) (window : IsSound w) (m : MachineState) (sound : IsSoundState w g m) where
  order-known : (m.seen ≤ m.front) × (m.front ≤ m.known) × (m.known ≤ length w.later)
  order-known =
      let order = sound.ruled.ordered in
      let front = order.front in
      let known = order.known in
      let stamped = order.stamped in
      let last = order.last in
      (omega (arith, front), omega (arith, known), omega (arith, stamped, last))

  less-put : (s : ℕ) → may w m (event.IngestPut s) ≡ true → left_of w (after w m (event.IngestPut s)) < left_of w m
  unfolding left_of
  less-put s is =
      let held = holds-it m.ingest s is in
      let first = first-for (next_parts w m) s (sound.next s held) in
      let left = some-left m.parts (group_parts w m) first.0 first.1 first.2 in
      let groups = groups-more w m (more-left w m left) in
      let one : one_if_held m.ingest ≡ 1 = ap one_if_held held in
      let floors : floors_left (w.first + length w.later) (set m.shards s (with_first_part (next_parts w m) (w.first + (m.stamped + 1)) (shard_at m.shards s))) ≡ floors_left (w.first + length w.later) m.shards = put-floors s left in
      let ingest : ingest_left w (after w m (event.IngestPut s)) < ingest_left w m = omega (arith, left, groups, one) in
      subst (λ k. stages_left m.stages + ingest_left w (after w m (event.IngestPut s)) + (2 * k - one_if_held m.watch) + fronts_left w m < left_of w m) (sym floors)
      (total-2 (stages_left m.stages) (ingest_left w m) (prunes_left w m) (fronts_left w m) (ingest_left w (after w m (event.IngestPut s))) ingest)
    where
      put-floor : (parts : List Part) (at : ℕ) (shard : ShardValue) → (with_first_part parts at shard).floor ≡ shard.floor
      put-floor [] at shard = refl
      put-floor (part ∷ parts) at shard = refl

      put-floors : (s : ℕ) → m.parts < length (group_parts w m) → floors_left (w.first + length w.later) (set m.shards s (with_first_part (next_parts w m) (w.first + (m.stamped + 1)) (shard_at m.shards s))) ≡ floors_left (w.first + length w.later) m.shards
      put-floors s left =
          ⊎_elim
          (λ within. floors-same (w.first + length w.later) m.shards s (with_first_part (next_parts w m) (w.first + (m.stamped + 1)) (shard_at m.shards s)) within (put-floor (next_parts w m) (w.first + (m.stamped + 1)) (shard_at m.shards s)))
          (λ past. ap (floors_left (w.first + length w.later)) (set_past m.shards s (with_first_part (next_parts w m) (w.first + (m.stamped + 1)) (shard_at m.shards s)) past))
          (cases_lt s (length m.shards))

  less-take : (s : ℕ) → may w m (event.IngestTake s) ≡ true → left_of w (after w m (event.IngestTake s)) < left_of w m
  unfolding left_of
  less-take s is =
      let test = take-is w g window m sound s is in
      let first = first-for (next_parts w m) s test.1 in
      let left = some-left m.parts (group_parts w m) first.0 first.1 first.2 in
      let groups = groups-more w m (more-left w m left) in
      let none : one_if_held m.ingest ≡ 0 = ap one_if_held (holds-none m.ingest test.0) in
      let ingest : ingest_left w (after w m (event.IngestTake s)) < ingest_left w m = omega (arith, left, groups, none) in
      total-2 (stages_left m.stages) (ingest_left w m) (prunes_left w m) (fronts_left w m) (ingest_left w (after w m (event.IngestTake s))) ingest

  less-stamp : may w m event.Stamp ≡ true → left_of w (after w m event.Stamp) < left_of w m
  unfolding left_of
  less-stamp is =
      let test = stamp-is w g window m sound is in
      let all = none-left m.parts (group_parts w m) (no-parts (next_parts w m) test.2) in
      let few = sound.parts in
      let groups = groups-more w m (ltb-true m.stamped (length w.later) test.1) in
      let none : one_if_held m.ingest ≡ 0 = ap one_if_held (holds-none m.ingest test.0) in
      let ingest : ingest_left w (after w m event.Stamp) < ingest_left w m = omega (arith, all, few, groups, none) in
      total-2 (stages_left m.stages) (ingest_left w m) (prunes_left w m) (fronts_left w m) (ingest_left w (after w m event.Stamp)) ingest

  less-task : (i : ℕ) (old stage : Stage) → get_or m.stages i Finished ≡ old → steps_of stage < steps_of old →
      left_of w (record { shards = m.shards; ingest = m.ingest; watch = m.watch; parts = m.parts; stamped = m.stamped; stages = set m.stages i stage; known = m.known; front = m.front; seen = m.seen }) < left_of w m
  unfolding left_of
  less-task i old stage is less = total-1 (stages_left m.stages) (ingest_left w m) (prunes_left w m) (fronts_left w m) (stages_left (set m.stages i stage)) (stages-less m.stages i old stage is less)

  less-begin : (t : ℕ) → may w m (event.Begin t) ≡ true → left_of w (after w m (event.Begin t)) < left_of w m
  less-begin t is =
      let parts = and_parts (task_is w m is_waiting t) (leb t (w.first + m.stamped)) is in
      less-task (group_of w t) Waiting Live (waiting-is (get_or m.stages (group_of w t) Finished) (task-test w g window m sound t is_waiting parts.0)) (omega arith)

  less-explore : (t : ℕ) → may w m (event.Explore t) ≡ true → left_of w (after w m (event.Explore t)) < left_of w m
  less-explore t is =
      let parts = and_parts (task_is w m is_live t) (is_none m.ingest && is_none m.watch) is in
      less-task (group_of w t) Live Explored (live-is (get_or m.stages (group_of w t) Finished) (task-test w g window m sound t is_live parts.0)) (omega arith)

  less-finish : (t : ℕ) → may w m (event.Finish t) ≡ true → left_of w (after w m (event.Finish t)) < left_of w m
  less-finish t is = less-task (group_of w t) Explored Finished (explored-is (get_or m.stages (group_of w t) Finished) (task-test w g window m sound t is_explored is)) (omega arith)

  less-fronts : (known front seen : ℕ) → (length w.later - known) + (length w.later - front) + (length w.later - seen) < fronts_left w m →
      left_of w (record { shards = m.shards; ingest = m.ingest; watch = m.watch; parts = m.parts; stamped = m.stamped; stages = m.stages; known = known; front = front; seen = seen }) < left_of w m
  unfolding left_of
  less-fronts known front seen less = total-4 (stages_left m.stages) (ingest_left w m) (prunes_left w m) (fronts_left w m) ((length w.later - known) + (length w.later - front) + (length w.later - seen)) less

  less-see_done : (t : ℕ) → may w m (event.SeeDone t) ≡ true → left_of w (after w m (event.SeeDone t)) < left_of w m
  less-see_done t is =
      let parts = and_parts (task_is w m is_finished t) (eqb t (w.first + (m.known + 1))) is in
      let last = (task-within w g window m sound t is_finished parts.0).1 in
      let here = eqb-true t (w.first + (m.known + 1)) parts.1 in
      less-fronts (m.known + 1) m.front m.seen (omega (arith, last, here))

  less-raise : may w m event.Raise ≡ true → left_of w (after w m event.Raise) < left_of w m
  less-raise is =
      let more = ltb-true m.front m.known is in
      let most = order-known.2 in
      less-fronts m.known m.known m.seen (omega (arith, more, most))

  less-see_front : may w m event.SeeFront ≡ true → left_of w (after w m event.SeeFront) < left_of w m
  less-see_front is =
      let more = ltb-true m.seen m.front is in
      let order = order-known in
      let known = order.1 in
      let most = order.2 in
      less-fronts m.known m.front m.front (omega (arith, more, known, most))

  seen-last : w.first + m.seen ≤ w.first + length w.later
  seen-last = let order = order-known in let front = order.0 in let known = order.1 in let most = order.2 in omega (arith, front, known, most)

  less-prune_put : (s : ℕ) → may w m (event.PrunePut s) ≡ true → left_of w (after w m (event.PrunePut s)) < left_of w m
  unfolding left_of
  less-prune_put s is =
      let held = holds-it m.watch s is in
      let behind = sound.behind s held in
      let low = behind.1 in
      let last = seen-last in
      let one : one_if_held m.watch ≡ 1 = ap one_if_held held in
      let shard = pruned (shard_at m.shards s) (w.first + m.seen) in
      let e = floors-set (w.first + length w.later) m.shards s shard behind.0 in
      let floor : shard.floor ≡ w.first + m.seen = omega (arith, low) in
      let fewer : floors_left (w.first + length w.later) (set m.shards s shard) < floors_left (w.first + length w.later) m.shards = omega (arith, e, floor, low, last) in
      let prunes : prunes_left w (after w m (event.PrunePut s)) < prunes_left w m = omega (arith, fewer, one) in
      total-3 (stages_left m.stages) (ingest_left w m) (prunes_left w m) (fronts_left w m) (prunes_left w (after w m (event.PrunePut s))) prunes

  less-prune_take : (s : ℕ) → may w m (event.PruneTake s) ≡ true → left_of w (after w m (event.PruneTake s)) < left_of w m
  unfolding left_of
  less-prune_take s is =
      let test = prune-is w g window m sound s is in
      let low = ltb-true (shard_at m.shards s).floor (w.first + m.seen) test.3 in
      let last = seen-last in
      let some = floors-some (w.first + length w.later) m.shards s (ltb-true s (length m.shards) test.2) (omega (arith, low, last)) in
      let none : one_if_held m.watch ≡ 0 = ap one_if_held (holds-none m.watch test.0) in
      let prunes : prunes_left w (after w m (event.PruneTake s)) < prunes_left w m = omega (arith, some, none) in
      total-3 (stages_left m.stages) (ingest_left w m) (prunes_left w m) (fronts_left w m) (prunes_left w (after w m (event.PruneTake s))) prunes

  -- each event that may happen lowers what is left
  pub left-less : (what : Event) → may w m what ≡ true → left_of w (after w m what) < left_of w m
  left-less (event.IngestPut s) is = less-put s is
  left-less (event.IngestTake s) is = less-take s is
  left-less event.Stamp is = less-stamp is
  left-less (event.Begin t) is = less-begin t is
  left-less (event.Explore t) is = less-explore t is
  left-less (event.Finish t) is = less-finish t is
  left-less (event.SeeDone t) is = less-see_done t is
  left-less event.Raise is = less-raise is
  left-less event.SeeFront is = less-see_front is
  left-less (event.PrunePut s) is = less-prune_put s is
  left-less (event.PruneTake s) is = less-prune_take s is
