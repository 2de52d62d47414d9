-- The events that digits choose.
use Rattle.std.proofs.Common.{◌≡◌, ◌<◌, ◌+◌, ◌++◌, ◌%◌, ℕ, zero, suc, true, List, [], ◌∷◌, map as mapped, filter, length, get_or, Option, None, Some, inl, inr, refl, sym, ap, subst, ◌∙◌, arith}
use Rattle.std.specs.List.{AllByRecursion, slice_get}
use Rattle.std.proofs.lemmas.List.{append-nil, append_assoc, length-map, length_push}
use Rattle.std.proofs.lemmas.Option.{slice_get-get_or}
use Rattle.graph_types.specs.meaning.Graph.{Graph}
use Rattle.group_window.specs.meaning.Windows.{WindowValue}
use Rattle.shared_lemmas.specs.meaning.Membership.{IsIn}
use Rattle.shared_lemmas.proofs.Membership.{IsIn-from_filter}
use Rattle.rehearsal.specs.declared.event.Event.{Event}
use Rattle.rehearsal.specs.declared.machine.Machine.{Machine}
use Rattle.rehearsal.specs.declared.task.Task.{Task}
use Rattle.rehearsal.specs.meaning.MachineState.{Finished, MachineState, stage_of, state_of}
use Rattle.rehearsal.specs.meaning.Schedules.{Schedules, chosen, digit_of}
use Rattle.rehearsal.specs.meaning.Schedules as schedule
use Rattle.rehearsal.specs.meaning.Shown.{shown_stage}
use Rattle.rehearsal.specs.meaning.Soundness.{IsSoundState}
use Rattle.rehearsal.specs.meaning.Table.{after, all_events, enabled, may}

-- an item that is got is one of the list
got-in : (es : List Event) (k : ℕ) (e : Event) → slice_get es k ≡ Some e → IsIn e es
got-in [] k e is = absurd (cc)
got-in (x ∷ es) zero e is = let same : x ≡ e = cc in inl (sym same)
got-in (x ∷ es) (suc k) e is = inr (got-in es k e is)

-- an event that is chosen may happen
pub chosen-may : (w : WindowValue) (m : MachineState) (d : ℕ) (e : Event) → chosen (enabled w m) d ≡ Some e → may w m e ≡ true
chosen-may w m d e is = (IsIn-from_filter (may w m) e (all_events w) (got-in (enabled w m) (d % length (enabled w m)) e is)).1

-- where none is chosen there is none
pub none-chosen : (es : List Event) (d : ℕ) → chosen es d ≡ None → es ≡ []
none-chosen [] d is = refl
none-chosen (x ∷ es) d is =
    let within : d % length (x ∷ es) < length (x ∷ es) = omega arith in
    let some = slice_get-get_or (x ∷ es) (d % length (x ∷ es)) x within in
    absurd (cc)

-- one event more
pub schedule-next : (w : WindowValue) (digits : List ℕ) (first m next last : MachineState) (events grown rest : List Event) (event : Event) →
    ((rest : List Event) (last : MachineState) → Schedules w digits (length events) m rest last → Schedules w digits 0 first (events ++ rest) last) →
    chosen (enabled w m) (digit_of digits (length events)) ≡ Some event → next ≡ after w m event → grown ≡ events ++ event ∷ [] →
    Schedules w digits (length grown) next rest last → Schedules w digits 0 first (grown ++ rest) last
schedule-next w digits first m next last events grown rest event so_far is next-is grown-is schedules =
    let many : length grown ≡ length events + 1 = ap length grown-is ∙ length_push events event in
    subst (λ es. Schedules w digits 0 first es last) (sym (ap (λ es. es ++ rest) grown-is ∙ append_assoc events (event ∷ []) rest))
    (so_far (event ∷ rest) last
    (schedule.goes_on (length events) m last event rest is
    (subst (λ n. Schedules w digits (length events + 1) n rest last) next-is (subst (λ n. Schedules w digits n next rest last) many schedules))))

-- no event more
pub schedule-ends : (w : WindowValue) (digits : List ℕ) (first m : MachineState) (events : List Event) →
    ((rest : List Event) (last : MachineState) → Schedules w digits (length events) m rest last → Schedules w digits 0 first (events ++ rest) last) → enabled w m ≡ [] → Schedules w digits 0 first events m
schedule-ends w digits first m events so_far none = subst (λ es. Schedules w digits 0 first es m) (append-nil events) (so_far [] m (schedule.ended (length events) m none))

-- tasks that are all finished
pub all-stages : (tasks : List Task) → ((k : ℕ) → k < length tasks → get_or (mapped stage_of tasks) k Finished ≡ Finished) → AllByRecursion (λ task. stage_of task ≡ Finished) tasks
all-stages [] each = tt
all-stages (task ∷ tasks) each = (each 0 (omega arith), all-stages tasks (λ k within. each (suc k) (omega (arith, within))))

pub tasks-many : (w : WindowValue) (g : Graph) (m : Machine) → IsSoundState w g (state_of m) → length m.tasks.items ≡ length w.later
tasks-many w g m sound = sym (length-map m.tasks.items stage_of) ∙ sym (length-map (mapped stage_of m.tasks.items) shown_stage) ∙ sound.ruled.machine.stages

-- what is chosen in a turn
pub chosen-is : (w : WindowValue) (m : MachineState) (digits : List ℕ) (all es events : List Event) (d n : ℕ) (r o : Option Event) → r ≡ chosen (filter (may w m) all) d → all ≡ es → es ≡ all_events w → d ≡ digit_of digits n → n ≡ length events → r ≡ o →
    chosen (enabled w m) (digit_of digits (length events)) ≡ o
chosen-is w m digits all es events d n r o r-is all-are es-are d-is n-is o-is =
    (λ i. chosen (filter (may w m) (sym (all-are ∙ es-are) i)) (sym (d-is ∙ ap (digit_of digits) n-is) i)) ∙ sym r-is ∙ o-is
