-- A line leads a run on, or the run ends.
use Rattle.std.proofs.Common.{◌≡◌, ◌≢◌, ℕ, suc, ◌+◌, ◌≤◌, inl, inr, Bool, true, false, if◌then◌else◌, List, [], ◌++◌, Option, None, Some, Result, Err, refl, sym, ap, ◌∙◌, subst, append-nil, arith}
use Rattle.job_io.specs.calls.Ends.{BothKnown, PassesOn, Puts, Gathers}
use Rattle.job_io.proofs.Gathering.{PassesOn-then, Gathers-put}
use Rattle.job_io.specs.meaning.Lines.{Reading, lines_of, GivesLine, GivesEnd, StopsInLine}
use Rattle.job_io.specs.meaning.Lines.{LongLineFollows, without_cr}
use Rattle.job_io.specs.calls.Reading.{ReadsNext}
use Rattle.job_io.specs.declared.line_reader.LineFault.TheVariants as line
use Rattle.job_io.proofs.Known.{BothKnown-map}
use Rattle.job_io.proofs.LinesOf.{some_line}
use Rattle.mining_model.specs.meaning.History.{Group}
use Rattle.job.specs.declared.fault.JobFault.{JobFault}
use Rattle.job.specs.declared.fault.JobFault.TheVariants as fault
use Rattle.job.specs.declared.fault.JobRefusal.{JobRefusal}
use Rattle.job.specs.declared.fault.JobRefusal.TheVariants as refusal
use Rattle.job.specs.meaning.Judging.{Stage, refused, moved, accepted, text_judgement, judgement, close_at}
use Rattle.job.proofs.Limits.{judged-short, judged-long, judged-many}
use Rattle.tesseract.specs.declared.status.Status.{Status}
use Rattle.tesseract.specs.declared.status.Status.TheVariants as status
use Rattle.tesseract.specs.declared.status.LimitKind.TheVariants as limit
use Rattle.tesseract.specs.declared.terms.Terms.{Terms}
use Rattle.tesseract.specs.meaning.Status.{status_of_end, status_of_fault, status_of_refusal}
use Rattle.tesseract.specs.calls.Progress.{Progress}
use Rattle.tesseract.specs.calls.Running.{IsRunning, EndsJob, IsEnd, TellBytes}
use Rattle.tesseract.specs.calls.Turning.{IsGiven}
use Rattle.tesseract.proofs.Leading.{GoesOn, brought_to, moved_to}
use Rattle.tesseract.proofs.Reaching.{opened}

-- what a refused line ends a job with is an end
pub IsEnd-refusal : (why : JobRefusal) → IsEnd (status_of_refusal why)
IsEnd-refusal (refusal.Program line kind) = tt
IsEnd-refusal (refusal.BadLine line) = tt
IsEnd-refusal (refusal.Update line why) = tt
IsEnd-refusal (refusal.Labels line) = tt
IsEnd-refusal (refusal.Batch line) = tt
IsEnd-refusal (refusal.OpenBatch line) = tt
IsEnd-refusal (refusal.LineBytes line) = tt
IsEnd-refusal (refusal.Lines line) = tt

-- and it says nothing of a source that failed
pub refused-read : (why : JobRefusal) → status_of_refusal why ≢ status.ReadFault
refused-read (refusal.Program line kind) e = absurd (cc)
refused-read (refusal.BadLine line) e = absurd (cc)
refused-read (refusal.Update line why) e = absurd (cc)
refused-read (refusal.Labels line) e = absurd (cc)
refused-read (refusal.Batch line) e = absurd (cc)
refused-read (refusal.OpenBatch line) e = absurd (cc)
refused-read (refusal.LineBytes line) e = absurd (cc)
refused-read (refusal.Lines line) e = absurd (cc)

pub fault-read : (why : JobFault) → status_of_fault why ≢ status.ReadFault
fault-read (fault.Refused why) e = refused-read why e
fault-read fault.NoMemory e = absurd (cc)

pub IsEnd-end : (why : Option JobRefusal) → IsEnd (status_of_end why)
IsEnd-end None = tt
IsEnd-end (Some why) = IsEnd-refusal why

-- no line was given, and none is counted
pub same_number : (b : Bool) (old new n : ℕ) → b ≡ false → new ≡ (if b then old + 1 else old) → n ≡ new → n ≡ old
same_number true old new n ended counted is = absurd (let e = ended in cc)
same_number false old new n ended counted is = is ∙ counted

module _ (stage : Stage) (old new : Reading) (was is : Option (List ℕ)) where
  -- the text ended
  pub ends_clean : (n : ℕ) → n ≡ old.number → BothKnown was is (GivesEnd old new) →
      BothKnown was is (λ was is. EndsJob old.most old new was is stage (status_of_end (close_at n stage)))
  ends_clean n same known =
      BothKnown-map _ _ was is known (λ was is gives. inl (record {
        gives_end = gives;
        why_is = ap (λ n. status_of_end (close_at n stage)) same;
      }))

  pub ends_at : (n : ℕ) (why : Status) → why ≡ status_of_end (close_at n stage) → n ≡ old.number → BothKnown was is (GivesEnd old new) →
      IsEnd why × BothKnown was is (λ was is. EndsJob old.most old new was is stage why)
  ends_at n why ends same known =
      subst (λ why. IsEnd why × BothKnown was is (λ was is. EndsJob old.most old new was is stage why)) (sym ends)
      (IsEnd-end (close_at n stage), ends_clean n same known)

  -- the source failed
  pub ends_unread : BothKnown was is (StopsInLine old new) →
      BothKnown was is (λ was is. EndsJob old.most old new was is stage status.ReadFault)
  ends_unread known =
      BothKnown-map _ _ was is known
      (λ was is stops. inr (inr (inl (record { why_is = refl; stops = stops }))))

  -- the next line is too long
  pub ends_long : (n : ℕ) → n ≡ old.number + 1 → n ≤ old.most →
      BothKnown was is (λ was _. LongLineFollows (old.held ++ was)) →
      BothKnown was is (λ was is.
      EndsJob old.most old new was is stage (status.Limit limit.LineBytes n))
  ends_long n next few known = BothKnown-map _ _ was is known (λ was is follows. inr (inl (record {
    line = follows.0;
    others = follows.1;
    refusal = refusal.LineBytes (suc old.number);
    follows = follows.2;
    refused_is =
        judged-long old.most (suc old.number) stage follows.0.bytes (omega (arith, next, few)) follows.3;
    why_is =
        ap (λ n. status.Limit limit.LineBytes n) (let e : n ≡ suc old.number = omega (arith, next) in e);
  })))

-- one line too many follows
pub ends_many : (stage : Stage) (old new : Reading) (was is : Option (List ℕ)) (n : ℕ) →
    n ≡ old.most + 1 → old.number ≡ old.most → BothKnown was is (λ was _. old.held ++ was ≢ []) →
    BothKnown was is (λ was is. EndsJob old.most old new was is stage (status.Limit limit.Lines n))
ends_many stage old new was is n next all known = BothKnown-map _ _ was is known (λ was is nonempty.
    let first = some_line (old.held ++ was) nonempty in
    inr (inl (record {
      line = first.0;
      others = first.1;
      refusal = refusal.Lines (suc old.number);
      follows = first.2;
      refused_is = judged-many old.most (suc old.number) stage first.0.bytes (omega (arith, all));
      why_is =
          ap (λ n. status.Limit limit.Lines n) (let e : n ≡ suc old.number = omega (arith, next, all) in e);
    })))

-- what a reader that gives no line says of the end
pub Nexts-long : (stage : Stage) (old new : Reading) (was is : Option (List ℕ)) (n : ℕ) →
    ReadsNext old new was is (Err (line.TooLong n)) →
    IsEnd (status.Limit limit.LineBytes n)
    × BothKnown was is (λ was is.
    EndsJob old.most old new was is stage (status.Limit limit.LineBytes n))
Nexts-long stage old new was is n (next, few, known) =
    (tt, ends_long stage old new was is n next few known)

pub Nexts-many : (stage : Stage) (old new : Reading) (was is : Option (List ℕ)) (n : ℕ) →
    ReadsNext old new was is (Err (line.TooMany n)) →
    IsEnd (status.Limit limit.Lines n)
    × BothKnown was is (λ was is.
    EndsJob old.most old new was is stage (status.Limit limit.Lines n))
Nexts-many stage old new was is n (next, all, known) =
    (tt, ends_many stage old new was is n next all known)

-- a page that is sent passes on all that it held
pub Puts-gathers : {T E : Type 0} (old new : Option (List ℕ)) (held : List ℕ)
    (result : Result T E) → Puts old new held result → Gathers old held new [] [] result
Puts-gathers old new held result puts =
    Gathers-put held [] (subst (λ text. Puts old new text result) (sym (append-nil held)) puts)

-- nothing is said, and some of what the page held is written
pub Running-sent : (terms : Terms) (left0 left written0 written written' : Option (List ℕ)) (page page' : List ℕ)
    (reader : Reading) (p : Progress) → PassesOn written page written' page' [] →
    IsRunning terms left0 left written0 written page reader p →
    IsRunning terms left0 left written0 written' page' reader p
Running-sent terms left0 left written0 written written' page page' reader p sent running = record {
  counted = running.counted;
  text = running.text;
  passed =
      subst (PassesOn written0 [] written' page') (append-nil running.text)
      (PassesOn-then running.passed sent);
  known = running.known;
}

-- the next line is refused
pub ends_refused : (terms : Terms) (stage : Stage) (old new : Reading) (was is : Option (List ℕ)) (why : JobRefusal) →
    judgement terms.lines (suc old.number) stage new.line.bytes ≡ refused why →
    BothKnown was is (GivesLine old new) →
    BothKnown was is (λ was is. EndsJob terms.lines old new was is stage (status_of_refusal why))
ends_refused terms stage old new was is why refused_is gives =
    BothKnown-map _ _ was is gives (λ was is line. inr (inl (record {
      line = new.line;
      others = lines_of (new.held ++ is);
      refusal = why;
      follows = line.lines;
      refused_is = refused_is;
      why_is = refl;
    })))

-- the reader allows as many lines as the terms do
pub ends_most : (terms : Terms) (stage : Stage) (old new : Reading) (was is : Option (List ℕ)) (why : Status) → old.most ≡ terms.lines →
    BothKnown was is (λ was is. EndsJob old.most old new was is stage why) → BothKnown was is (λ was is. EndsJob terms.lines old new was is stage why)
ends_most terms stage old new was is why most ends = subst (λ m. BothKnown was is (λ was is. EndsJob m old new was is stage why)) most ends

pub ends_starved : (terms : Terms) (stage : Stage) (old new : Reading) (was is : Option (List ℕ)) (X : List ℕ → List ℕ → Type 0) →
    BothKnown was is X → BothKnown was is (λ was is. EndsJob terms.lines old new was is stage status.NoMemory)
ends_starved terms stage old new was is X known = BothKnown-map _ _ was is known (λ was is _. inr (inr (inr refl)))

pub tell_bytes : (was is : Option (List ℕ)) (X : List ℕ → List ℕ → Type 0) → BothKnown was is X → TellBytes was is
tell_bytes was is X known = BothKnown-map _ _ was is known (λ was is _. tt)

-- ---- a line stands at the reader

module _ (terms : Terms) (old new : Reading) (was is : Option (List ℕ)) (n : ℕ) (text : List ℕ)
    (given : IsGiven old new was is n text) (most : old.most ≡ terms.lines) where
  -- the line that was taken is the next one
  pub judged : (p : Progress) → p.lines ≡ old.number →
      judgement terms.lines (suc p.lines) p.stage new.line.bytes ≡ text_judgement n p.stage text
  judged p counted =
      let next : suc p.lines ≡ n = omega (arith, counted, given.number_is, given.stands.counted) in
      judged-short terms.lines (suc p.lines) p.stage new.line.bytes
      (omega (arith, counted, most, given.stands.counted, given.stands.few, given.stands.same_most)) given.fits.short
      ∙ ap (λ n. text_judgement n p.stage (without_cr new.line.bytes)) next
      ∙ ap (λ bytes. text_judgement n p.stage bytes) (sym given.text_is)

  -- the same, counted from the reader
  pub judged_at : (p : Progress) → p.lines ≡ old.number →
      judgement terms.lines (suc old.number) p.stage new.line.bytes ≡ text_judgement n p.stage text
  judged_at p counted = ap (λ k. judgement terms.lines (suc k) p.stage new.line.bytes) (sym counted) ∙ judged p counted

  -- a line that brings no group
  pub moves_on : (p : Progress) (next : Stage) → p.lines ≡ old.number → text_judgement n p.stage text ≡ moved next →
      GoesOn terms p new.line.bytes (moved_to p next) (opened terms.format p.stage next)
  moves_on p next counted is = inl (record { next = next; moved_is = judged p counted ∙ is; leads = refl; text_is = refl })

  -- a line that brings a group
  pub brings_on : (p : Progress) (us : Group) (next : Stage) → p.lines ≡ old.number → text_judgement n p.stage text ≡ accepted us next →
      GoesOn terms p new.line.bytes (brought_to p us next) (opened terms.format p.stage next)
  brings_on p us next counted is =
      inr (record { group = us; next = next; accepted_is = judged p counted ∙ is; leads = refl; text_is = refl })
