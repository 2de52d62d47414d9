-- A job without batches: each of its groups is one update.
use Rattle.std.proofs.Common.{◌≡◌, ℕ, suc, ◌+◌, Bool, true, false, cond, List, [], ◌∷◌, length, Option, None, Some, Result, Ok, Err, refl, sym, ap, subst, ◌∙◌, arith}
use Rattle.std.specs.Prelude.{nat_lt}
use Rattle.std.specs.List.{AllByRecursion}
use Rattle.graph_types.specs.meaning.Graph.{Graph}
use Rattle.graph_types.specs.declared.refusal.Refusal.{Refusal}
use Rattle.graph_types.specs.declared.update.Update.{Update}
use Rattle.job.specs.meaning.Judging.{Stage, heading, streaming, batching, Judgement, refused, moved, accepted, Verdict, open_updates, verdict_after, verdict_from}
use Rattle.job.specs.meaning.Judging.{content_judgement, header_judgement, judgement, step_judgement, text_judgement}
use Rattle.job.proofs.Following.{accepted-Accepts, verdict-pattern}
use Rattle.job_io.specs.meaning.Lines.{Line, most_line_bytes, without_cr}
use Rattle.line_fields.specs.meaning.Names.{Names}
use Rattle.mining_model.specs.meaning.Embeddings.{Pattern}
use Rattle.mining_model.specs.meaning.Step.{step}
use Rattle.program_grammar.specs.declared.fault.ProgramKind.{ProgramKind}
use Rattle.program_grammar.specs.declared.header.HeaderStep.{HeaderStep}
use Rattle.program_grammar.specs.declared.header.HeaderStep.TheVariants.{More, Ready}
use Rattle.program_grammar.specs.meaning.Header.{header_said}
use Rattle.tesseract.specs.meaning.Summary.{updates_in}
use Rattle.update_reader.specs.meaning.Grammar.{LineContent, nothing, commit, batch_begin, batch_end, update, too_many_labels, bad_line, content_of_line}

-- whatever names are known, the line begins no batch
abbrev pub BeginsNoBatch : List ℕ → Type 0
BeginsNoBatch bytes = (names : Names) → content_of_line names (without_cr bytes) ≡ batch_begin → ⊥

-- no batch is open after a line, and what it brings is one update
Singly : Judgement → Type 0
Singly (refused why) = Unit {0}
Singly (moved next) = open_updates next ≡ None
Singly (accepted us next) = (length us ≡ 1) × (open_updates next ≡ None)

choice : (P : Judgement → Type 0) (b : Bool) (x y : Judgement) → P x → P y → P (cond b x y)
choice P true x y p q = p
choice P false x y p q = q

singly_header : (n : ℕ) (said : Result (HeaderStep × Names) ProgramKind) → Singly (header_judgement n said)
unfolding Singly
singly_header n (Ok (More later, names)) = refl
singly_header n (Ok (Ready program, names)) = refl
singly_header n (Err why) = tt

singly_step : (n : ℕ) (pattern : Pattern) (names : Names) (u : Update) (stepped : Result Graph Refusal) →
    Singly (step_judgement n pattern names u stepped)
unfolding Singly
singly_step n pattern names u (Ok after) = (refl, refl)
singly_step n pattern names u (Err why) = tt

singly_content : (n : ℕ) (pattern : Pattern) (names : Names) (g : Graph) (said : LineContent) → (said ≡ batch_begin → ⊥) →
    Singly (content_judgement n pattern names g said)
unfolding Singly
singly_content n pattern names g nothing other = refl
singly_content n pattern names g commit other = refl
singly_content n pattern names g batch_begin other = absurd (other refl)
singly_content n pattern names g batch_end other = tt
singly_content n pattern names g (update u later) other = singly_step n pattern later u (step g u)
singly_content n pattern names g too_many_labels other = tt
singly_content n pattern names g bad_line other = tt

singly_text : (n : ℕ) (stage : Stage) (text : List ℕ) → open_updates stage ≡ None →
    ((names : Names) → content_of_line names text ≡ batch_begin → ⊥) → Singly (text_judgement n stage text)
singly_text n (heading next names) text closed other = singly_header n (header_said next text names)
singly_text n (streaming pattern names g) text closed other =
    singly_content n pattern names g (content_of_line names text) (other names)
singly_text n (batching pattern names before us) text closed other = absurd (let e : Some us ≡ None = closed in cc)

singly : (most n : ℕ) (stage : Stage) (bytes : List ℕ) → open_updates stage ≡ None → BeginsNoBatch bytes →
    Singly (judgement most n stage bytes)
unfolding Singly
singly most n stage bytes closed other =
    choice Singly (nat_lt most n) _ _ tt
    (choice Singly (nat_lt most_line_bytes (length bytes)) _ _ tt (singly_text n stage (without_cr bytes) closed other))

-- each group of the verdict is one update
AreSingle : Verdict → Type 0
AreSingle v = updates_in v.groups ≡ length v.groups

single_after : (n : ℕ) (stage : Stage) (j : Judgement) (rest : Stage → Verdict) → Singly j →
    ((next : Stage) → open_updates next ≡ None → AreSingle (rest next)) → AreSingle (verdict_after n stage j rest)
unfolding Singly AreSingle
single_after n stage (refused why) rest one later = refl
single_after n stage (moved next) rest one later = later next one
single_after n stage (accepted us next) rest one later = let more = later next one.1 in omega (arith, one.0, more)

single_from : (most n : ℕ) (stage : Stage) (lines : List Line) → open_updates stage ≡ None →
    AllByRecursion (λ line. BeginsNoBatch line.bytes) lines → AreSingle (verdict_from most n stage lines)
unfolding AreSingle
single_from most n stage [] closed others = refl
single_from most n stage (line ∷ lines) closed others =
    single_after n stage (judgement most (suc n) stage line.bytes) (λ next. verdict_from most (suc n) next lines)
    (singly most (suc n) stage line.bytes closed others.0)
    (λ next still. single_from most (suc n) next lines still others.1)

pub updates-single : (most n : ℕ) (stage : Stage) (lines : List Line) → open_updates stage ≡ None →
    AllByRecursion (λ line. BeginsNoBatch line.bytes) lines →
    updates_in (verdict_from most n stage lines).groups ≡ length (verdict_from most n stage lines).groups
unfolding AreSingle
updates-single most n stage lines closed others = single_from most n stage lines closed others

-- ---- without a program

none_after : (most n : ℕ) (stage : Stage) (line : Line) (lines : List Line) →
    ((next : Stage) → (verdict_from most (suc n) next lines).pattern ≡ None → (verdict_from most (suc n) next lines).groups ≡ []) →
    (j : Judgement) → judgement most (suc n) stage line.bytes ≡ j →
    (verdict_after n stage j (λ next. verdict_from most (suc n) next lines)).pattern ≡ None →
    (verdict_after n stage j (λ next. verdict_from most (suc n) next lines)).groups ≡ []
none_after most n stage line lines later (refused why) is none = refl
none_after most n stage line lines later (moved next) is none = later next none
none_after most n stage line lines later (accepted us next) is none =
    let a = accepted-Accepts most (suc n) stage next line.bytes us is in
    let e : Some a.pattern ≡ None = sym (verdict-pattern most (suc n) next lines a.pattern a.same_pattern) ∙ none in
    absurd (cc)

-- no group is accepted before it is known what is mined for
pub groups-none : (most n : ℕ) (stage : Stage) (lines : List Line) → (verdict_from most n stage lines).pattern ≡ None →
    (verdict_from most n stage lines).groups ≡ []
groups-none most n stage [] none = refl
groups-none most n stage (line ∷ lines) none =
    none_after most n stage line lines (λ next unknown. groups-none most (suc n) next lines unknown)
    (judgement most (suc n) stage line.bytes) refl none
