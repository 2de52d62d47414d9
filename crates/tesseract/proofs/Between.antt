-- A run stands between two lines.
use Rattle.std.proofs.Common.{◌≡◌, ℕ, ◌<◌, ◌≤◌, IsTrue, true, List, [], length, Option, None, IfSome, refl, sym, ap, subst, ◌∙◌, arith}
use Rattle.std.proofs.lemmas.List.FromFn.{length-map-range_with_len}
use Rattle.graph_types.specs.meaning.Graph.{empty_graph}
use Rattle.group_window.specs.meaning.Windows.{WindowValue, last_or}
use Rattle.job.specs.calls.Standing.{IsStageOf}
use Rattle.job.specs.declared.judging.Job.{Job}
use Rattle.job.specs.declared.judging.Job.TheVariants.{Heading, Streaming}
use Rattle.job.specs.meaning.Judging.{first_stage}
use Rattle.job_io.specs.meaning.Lines.{Reading}
use Rattle.record_text.specs.meaning.Text.{count_in}
use Rattle.shard_state.specs.calls.Sharing.{KeepGraph, empty_shards}
use Rattle.shard_state.specs.meaning.Shards.{empty_shard}
use Rattle.shard_state.proofs.TellingOn.{KeepGraph-empty}
use Rattle.tesseract.specs.declared.mine.Run.{Run}
use Rattle.tesseract.specs.declared.terms.Plan.{Plan}
use Rattle.tesseract.specs.declared.terms.Terms.{Terms}
use Rattle.tesseract.specs.declared.waiting.Waiting.{Waiting}
use Rattle.tesseract.specs.calls.Progress.{Progress, first_progress}
use Rattle.tesseract.specs.calls.Running.{IsRunning}
use Rattle.tesseract.specs.calls.Turning.{IsPlan, Stands, StandsAtNext}
use Rattle.tesseract.specs.calls.Waiting.{WaitsFor}
use Rattle.tesseract.proofs.Going.{Running-start}

-- The run stands at a progress, and the reader before the next line.
pub record StandsBetween (terms : Terms) (plan : Plan) (left0 left written0 written : Option (List ℕ)) (page : List ℕ)
    (reader : Reading) (run : Run) : Type 0 where
  pub progress : Progress
  pub running : IsRunning terms left0 left written0 written page reader progress
  pub stands : Stands terms plan progress run
  pub live : IsTrue reader.live
  pub most_is : reader.most ≡ terms.lines
  pub few : reader.number ≤ terms.lines

-- before the first line
pub StandsBetween-start : (terms : Terms) (plan : Plan) (left written : Option (List ℕ)) (page : List ℕ)
    (reader : Reading) (run : Run) → page ≡ [] → Stands terms plan (first_progress terms) run →
    reader.line ≡ record { bytes = []; whole = true } → reader.number ≡ 0 → reader.most ≡ terms.lines →
    reader.live ≡ true → reader.held ≡ [] →
    StandsBetween terms plan left left written written page reader run
StandsBetween-start terms plan left written page reader run nothing stands line number most_is live held =
    subst (λ page. StandsBetween terms plan left left written written page reader run) (sym nothing) (record {
      progress = first_progress terms;
      running = Running-start terms left written reader (ap (λ line. line.whole) line) number held;
      stands = stands;
      live = live;
      most_is = most_is;
      few = omega (arith, number);
    })

-- no group is open before the first line
begun : (job : Job) (w : WindowValue) → IsStageOf first_stage job → w.current ≡ None → (p : Progress) → p.waiting ≡ [] → WaitsFor p job w
begun (Heading header) w at closed p none = (closed, none)
begun (Streaming stream) w at closed p none = absurd (let e = at.mines in cc)

length-shards : (n : ℕ) → length (empty_shards n) ≡ n
length-shards n = length-map-range_with_len (λ number. empty_shard number n) 0 n

-- at the next line
pub StandsBetween-goes : (terms : Terms) (plan : Plan) (left0 left written0 written : Option (List ℕ)) (page : List ℕ)
    (old new : Reading) (next : Run) (most_is : old.most ≡ terms.lines) → StandsAtNext old new →
    (p : Progress) × IsRunning terms left0 left written0 written page new p × Stands terms plan p next →
    StandsBetween terms plan left0 left written0 written page new next
StandsBetween-goes terms plan left0 left written0 written page old new next most_is goes on = record {
  progress = on.0;
  running = on.1;
  stands = on.2;
  live = goes.live;
  most_is = goes.same_most ∙ most_is;
  few = (let f = goes.few in let s = goes.same_most in omega (arith, f, s, most_is));
}

-- a run with nothing stands before the first line
pub Stands-first : (terms : Terms) (plan : Plan) (job : Job) (w : Waiting) → IsPlan plan → IsStageOf first_stage job →
    w.window ≡ record { first = 0; shards = plan.shards; base = None; later = []; current = None } →
    w.shards.items ≡ empty_shards plan.shards → w.standing ≡ 0 →
    Stands terms plan (first_progress terms) (record { job = job; waiting = w })
Stands-first terms plan job w planned at window empty none = record {
  waits = record {
    at = at;
    waits = record {
      first = ap (λ (v : WindowValue). v.first) window;
      follows = record {
        base = subst (λ (v : WindowValue). IfSome v.base (λ g. g ≡ empty_graph)) (sym window) tt;
        parted = ap (λ (v : WindowValue). v.shards) window ∙ sym (ap (λ xs. length xs) empty ∙ length-shards plan.shards);
        keep =
            subst (λ t. KeepGraph w.shards.items t empty_graph) (sym (ap (λ (v : WindowValue). v.first) window))
            (subst (λ shards. KeepGraph shards 0 empty_graph) (sym empty) (KeepGraph-empty plan.shards 0 planned.some_shard));
      };
      later = ap (λ (v : WindowValue). v.later) window;
      parted = ap (λ (v : WindowValue). v.shards) window;
      count = ap (λ n. count_in terms.format n) (sym none);
      few = omega (arith, none);
      stamped = omega arith;
    };
    came = sym (ap (λ (v : WindowValue). last_or empty_graph v.later) window);
    current = begun job w.window at (ap (λ (v : WindowValue). v.current) window) (first_progress terms) refl;
  };
  room = subst (λ (v : WindowValue). length v.later < plan.window) (sym window) (let s = planned.some_group in omega (arith, s));
  lines_are = omega arith;
}
