-- The tasks, and how far they are.
use Rattle.std.proofs.Common.{◌≡◌, ◌<◌, ⊎_elim, ℕ, true, List, map as mapped, length, set, get_or, refl, sym, ap, subst, ◌∙◌}
use Rattle.std.proofs.lemmas.Bool.{cases_eq, false≢true}
use Rattle.std.proofs.lemmas.List.{get_or-set_other, get_or-set_same, get_or_default, length-map}
use Rattle.group_window.specs.meaning.Windows.{WindowValue}
use Rattle.mining_model.specs.meaning.Embeddings.{Pattern}
use Rattle.rehearsal.specs.calls.Tasks.{finished}
use Rattle.rehearsal.specs.declared.task.Task.{Task}
use Rattle.rehearsal.specs.declared.task.Task.TheVariants as task
use Rattle.rehearsal.specs.meaning.MachineState.{MachineState, Stage, Finished, stage_of}
use Rattle.rehearsal.specs.meaning.Soundness.{HasFound, HaveFound}
use Rattle.rehearsal.specs.meaning.Table.{is_explored}
use Rattle.rehearsal.proofs.Rows.{item-mapped}

-- the state with other stages
abbrev pub with_stages : MachineState → List Stage → MachineState
with_stages m stages = record { shards = m.shards; ingest = m.ingest; watch = m.watch; parts = m.parts; stamped = m.stamped; stages = stages; known = m.known; front = m.front; seen = m.seen }

-- a task that explored is finished
explored-finished : (x : Task) → is_explored (stage_of x) ≡ true → stage_of (finished x) ≡ Finished
explored-finished task.Waiting is = absurd (false≢true is)
explored-finished task.Live is = absurd (false≢true is)
explored-finished (task.Explored delta) is = refl
explored-finished (task.Finished delta) is = absurd (false≢true is)

pub stage-finished : (tasks : List Task) (i : ℕ) (x : Task) → x ≡ get_or tasks i x → i < length tasks → is_explored (get_or (mapped stage_of tasks) i Finished) ≡ true → stage_of (finished x) ≡ Finished
stage-finished tasks i x is within explored =
    let few : i < length (mapped stage_of tasks) = subst (λ n. i < n) (sym (length-map tasks stage_of)) within in
    let same : get_or (mapped stage_of tasks) i Finished ≡ stage_of x = get_or_default (mapped stage_of tasks) i Finished (stage_of x) few ∙ item-mapped stage_of tasks i x ∙ ap stage_of (sym is) in
    explored-finished x (ap is_explored (sym same) ∙ explored)

-- one task found what is right
pub found-set : (pattern : Pattern) (most : ℕ) (w : WindowValue) (tasks : List Task) (k : ℕ) (x : Task) → k < length tasks → HaveFound pattern most w tasks → HasFound pattern most w k x → HaveFound pattern most w (set tasks k x)
found-set pattern most w tasks k x within found right i few =
    ⊎_elim
    (λ same. subst (λ j. HasFound pattern most w j (get_or (set tasks k x) j task.Waiting)) (sym same) (subst (HasFound pattern most w k) (sym (get_or-set_same tasks k x task.Waiting within)) right))
    (λ apart. subst (HasFound pattern most w i) (sym (get_or-set_other tasks k i x task.Waiting apart)) (found i few))
    (cases_eq i k)
