-- What a line may lead to from a stage.
use Rattle.std.proofs.Common.{◌≡◌, ℕ, suc, Bool, true, false, List, [], ◌∷◌, ◌++◌, length, cond}
use Rattle.std.proofs.Common.{None, Some, Result, Ok, Err, refl, sym, ap, subst, ◌∙◌}
use Rattle.std.specs.Prelude.{nat_lt}
use Rattle.graph_types.specs.meaning.Graph.{Graph, empty_graph}
use Rattle.graph_types.specs.declared.refusal.Refusal.{Refusal}
use Rattle.graph_types.specs.declared.update.Update.{Update}
use Rattle.job_io.specs.meaning.Lines.{Line, without_cr, most_line_bytes}
use Rattle.line_fields.specs.meaning.Names.{Names}
use Rattle.mining_model.specs.meaning.Embeddings.{Pattern}
use Rattle.mining_model.specs.meaning.History.{Group}
use Rattle.mining_model.specs.meaning.Step.{step, graph_left_by, graph_after_all}
use Rattle.update_reader.specs.meaning.Grammar.{LineContent, nothing, commit, batch_begin, batch_end, update, too_many_labels, bad_line, content_of_line}
use Rattle.program_grammar.specs.declared.fault.ProgramKind.{ProgramKind}
use Rattle.program_grammar.specs.declared.header.HeaderReader.{HeaderReader}
use Rattle.program_grammar.specs.declared.header.HeaderStep.{HeaderStep}
use Rattle.program_grammar.specs.declared.header.HeaderStep.TheVariants.{More, Ready}
use Rattle.program_grammar.specs.meaning.Header.{header_said}
use Rattle.job.specs.meaning.Judging.{Stage, heading, streaming, batching, Judgement, refused, moved, accepted, most_batch_updates}
use Rattle.job.specs.meaning.Judging.{header_judgement, step_judgement, content_judgement, join_judgement, batch_judgement, text_judgement, judgement}
use Rattle.job.specs.meaning.Judging.{Verdict, verdict_after, verdict_from, pattern_at, graph_of_groups}
use Rattle.job.specs.meaning.Following.{Accepts, LeadsOn}

Follows : Stage → Judgement → Type 0
Follows stage (refused why) = Unit {0}
Follows stage (moved next) = LeadsOn stage next
Follows stage (accepted us next) = Accepts stage us next

choice : (P : Judgement → Type 0) (b : Bool) (x y : Judgement) → P x → P y → P (cond b x y)
choice P true x y p q = p
choice P false x y p q = q

-- while a header is read there is no graph, and nothing to mine for
in_header : (h : HeaderReader) (names : Names) (next : Stage) → graph_of_groups next ≡ empty_graph →
    LeadsOn (heading h names) next
in_header h names next none = record {
  same_graph = none;
  same_pattern = λ pattern known. absurd (let e : None ≡ Some pattern = known in cc);
}

follows_header : (n : ℕ) (h : HeaderReader) (names : Names) (said : Result (HeaderStep × Names) ProgramKind) →
    Follows (heading h names) (header_judgement n said)
unfolding Follows
follows_header n h names (Ok (More later, more)) = in_header h names (heading later more) refl
follows_header n h names (Ok (Ready program, more)) = in_header h names _ refl
follows_header n h names (Err why) = tt

-- a line of the stream that changes nothing
stays : (pattern : Pattern) (names later : Names) (g : Graph) →
    LeadsOn (streaming pattern names g) (streaming pattern later g)
stays pattern names later g = record { same_graph = refl; same_pattern = λ other known. known }

follows_step : (n : ℕ) (pattern : Pattern) (names later : Names) (g : Graph) (u : Update)
    (stepped : Result Graph Refusal) → step g u ≡ stepped →
    Follows (streaming pattern names g) (step_judgement n pattern later u stepped)
unfolding Follows
follows_step n pattern names later g u (Ok now) is = record {
  pattern = pattern;
  known = refl;
  same_pattern = refl;
  stepped = sym (ap (graph_left_by g) is);
  closed = refl;
  whole = refl;
}
follows_step n pattern names later g u (Err why) is = tt

follows_content : (n : ℕ) (pattern : Pattern) (names : Names) (g : Graph) (line : LineContent) →
    Follows (streaming pattern names g) (content_judgement n pattern names g line)
unfolding Follows
follows_content n pattern names g nothing = stays pattern names names g
follows_content n pattern names g commit = stays pattern names names g
follows_content n pattern names g batch_begin = record { same_graph = refl; same_pattern = λ other known. known }
follows_content n pattern names g batch_end = tt
follows_content n pattern names g (update u later) = follows_step n pattern names later g u (step g u) refl
follows_content n pattern names g too_many_labels = tt
follows_content n pattern names g bad_line = tt

-- a line in an open batch that accepts no group
module _ (n : ℕ) (pattern : Pattern) (names : Names) (before : Graph) (us : Group) where
  goes_on : (later : Names) (more : Group) →
      LeadsOn (batching pattern names before us) (batching pattern later before more)
  goes_on later more = record { same_graph = refl; same_pattern = λ other known. known }

  follows_join : (later : Names) (u : Update) (stepped : Result Graph Refusal) →
      Follows (batching pattern names before us) (join_judgement n pattern later before us u stepped)
  unfolding Follows
  follows_join later u (Ok now) = goes_on later (us ++ u ∷ [])
  follows_join later u (Err why) = tt

  follows_batch : (line : LineContent) →
      Follows (batching pattern names before us) (batch_judgement n pattern names before us line)
  unfolding Follows
  follows_batch nothing = goes_on names us
  follows_batch commit = tt
  follows_batch batch_begin = tt
  follows_batch batch_end = record {
    pattern = pattern;
    known = refl;
    same_pattern = refl;
    stepped = refl;
    closed = refl;
    whole = refl;
  }
  follows_batch (update u later) =
      choice (Follows (batching pattern names before us)) (nat_lt (length us) most_batch_updates) _ _
      (follows_join later u (step (graph_after_all before us) u)) tt
  follows_batch too_many_labels = tt
  follows_batch bad_line = tt

follows_text : (n : ℕ) (stage : Stage) (text : List ℕ) → Follows stage (text_judgement n stage text)
follows_text n (heading next names) text = follows_header n next names (header_said next text names)
follows_text n (streaming pattern names g) text = follows_content n pattern names g (content_of_line names text)
follows_text n (batching pattern names before us) text = follows_batch n pattern names before us (content_of_line names text)

-- the same of a line without its CR
pub text-LeadsOn : (n : ℕ) (stage next : Stage) (text : List ℕ) → text_judgement n stage text ≡ moved next → LeadsOn stage next
unfolding Follows
text-LeadsOn n stage next text is = subst (Follows stage) is (follows_text n stage text)

pub text-Accepts : (n : ℕ) (stage next : Stage) (text : List ℕ) (us : Group) →
    text_judgement n stage text ≡ accepted us next → Accepts stage us next
unfolding Follows
text-Accepts n stage next text us is = subst (Follows stage) is (follows_text n stage text)

follows : (most n : ℕ) (stage : Stage) (bytes : List ℕ) → Follows stage (judgement most n stage bytes)
unfolding Follows
follows most n stage bytes =
    choice (Follows stage) (nat_lt most n) _ _ tt
    (choice (Follows stage) (nat_lt most_line_bytes (length bytes)) _ _ tt (follows_text n stage (without_cr bytes)))

pub moved-LeadsOn : (most n : ℕ) (stage next : Stage) (bytes : List ℕ) →
    judgement most n stage bytes ≡ moved next → LeadsOn stage next
unfolding Follows
moved-LeadsOn most n stage next bytes is = subst (Follows stage) is (follows most n stage bytes)

pub accepted-Accepts : (most n : ℕ) (stage next : Stage) (bytes : List ℕ) (us : Group) →
    judgement most n stage bytes ≡ accepted us next → Accepts stage us next
unfolding Follows
accepted-Accepts most n stage next bytes us is = subst (Follows stage) is (follows most n stage bytes)

same_pattern_after : {stage next : Stage} {us : Group} (pattern : Pattern) → Accepts stage us next →
    pattern_at stage ≡ Some pattern → pattern_at next ≡ Some pattern
same_pattern_after pattern a known = a.same_pattern ∙ sym a.known ∙ known

led_pattern : (n : ℕ) (stage : Stage) (j : Judgement) (rest : Stage → Verdict) (pattern : Pattern) →
    pattern_at stage ≡ Some pattern → Follows stage j →
    ((next : Stage) → pattern_at next ≡ Some pattern → (rest next).pattern ≡ Some pattern) →
    (verdict_after n stage j rest).pattern ≡ Some pattern
unfolding Follows
led_pattern n stage (refused why) rest pattern known f after = known
led_pattern n stage (moved next) rest pattern known f after = after next (f.same_pattern pattern known)
led_pattern n stage (accepted us next) rest pattern known f after =
    after next (same_pattern_after pattern f known)

-- once it is known what is mined for, the verdict has it
pub verdict-pattern : (most n : ℕ) (stage : Stage) (lines : List Line) (pattern : Pattern) →
    pattern_at stage ≡ Some pattern → (verdict_from most n stage lines).pattern ≡ Some pattern
verdict-pattern most n stage [] pattern known = known
verdict-pattern most n stage (line ∷ lines) pattern known =
    led_pattern n stage (judgement most (suc n) stage line.bytes) (λ next. verdict_from most (suc n) next lines)
    pattern known (follows most (suc n) stage line.bytes)
    (λ next still. verdict-pattern most (suc n) next lines pattern still)

-- before it is known there is no graph
pub no_graph_yet : (stage : Stage) → pattern_at stage ≡ None → graph_of_groups stage ≡ empty_graph
no_graph_yet (heading next names) none = refl
no_graph_yet (streaming pattern names g) none = absurd (let e : Some pattern ≡ None = none in cc)
no_graph_yet (batching pattern names before us) none = absurd (let e : Some pattern ≡ None = none in cc)
