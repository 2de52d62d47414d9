-- A run goes from line to line, and ends.
use Rattle.std.proofs.Common.{length}
use Rattle.std.proofs.Common.{◌≡◌, ℕ, suc, ◌⊎◌, inl, inr, Bool, true, false, List, [], ◌∷◌, ◌++◌}
use Rattle.std.proofs.Common.{cond, Option, None, Some, refl, sym, ap, ◌∙◌, subst, append_assoc}
use Rattle.std.proofs.Common.{append-nil}
use Rattle.std.specs.Prelude.{IsTrue, nat_lt}
use Rattle.graph_types.specs.meaning.Graph.{Graph}
use Rattle.mining_model.specs.meaning.Embeddings.{Pattern}
use Rattle.mining_model.specs.meaning.History.{Group}
use Rattle.mining_model.specs.meaning.Step.{graph_after_all}
use Rattle.record_text.specs.meaning.Text.{count_after, record_count, step_text}
use Rattle.std.specs.Io.KnownBytes.{Appends}
use Rattle.std.proofs.Math.Seq.{take-append_seam}
use Rattle.job_io.specs.calls.Ends.{BothKnown, AppendsPrefix, PassesOn}
use Rattle.job_io.proofs.Known.{BothKnown-map, BothKnown-same, BothKnown-then}
use Rattle.job_io.proofs.Gathering.{Appends-then, PassesOn-start, PassesOn-then, AppendsFront-then}
use Rattle.job_io.proofs.Gathering.{AppendsFront-more}
use Rattle.job_io.specs.meaning.Lines.{lf, HasNoLf, Line, Reading, lines_of, whole_lines_of, line_text}
use Rattle.job_io.specs.meaning.Lines.{GivesLine, GivesEnd, StopsInLine}
use Rattle.job_io.proofs.LinesOf.{whole_lines_of-whole, whole_lines_of-none, lines_of-unfinished}
use Rattle.tesseract.specs.declared.status.Status.{Status}
use Rattle.tesseract.specs.declared.status.Status.TheVariants as status
use Rattle.job.specs.declared.fault.JobRefusal.{JobRefusal}
use Rattle.job.specs.declared.fault.JobRefusal.TheVariants as refusal
use Rattle.job.specs.meaning.Judging.{pattern_at, judgement, close_at, verdict_from, verdict}
use Rattle.tesseract.specs.declared.terms.Terms.{Terms}
use Rattle.tesseract.specs.declared.status.LimitKind.TheVariants as limit
use Rattle.tesseract.specs.meaning.Output.{output}
use Rattle.tesseract.specs.meaning.Status.{status_of_end, status_of_refusal}
use Rattle.tesseract.specs.calls.Progress.{Progress, first_progress, output_to_come, HasReached}
use Rattle.tesseract.specs.calls.Run.{IsJob, IsPrefixOfJob, WritesPrefix, Mines}
use Rattle.tesseract.specs.calls.Running.{IsRunning, AtLine, WholeSoFar, IsAfterLast, EndsClean}
use Rattle.tesseract.specs.calls.Running.{EndsRefused, EndsJob}
use Rattle.tesseract.specs.calls.Running.{IfUnread, IsPrefixOfText, HasEnded, IsEnd, TellBytes}
use Rattle.tesseract.proofs.Leading.{GoesOn, lines_next, reached_next}
use Rattle.tesseract.proofs.Reaching.{Reached-start, Reached-mined, Reached-full, Reached-refused}
use Rattle.tesseract.proofs.Reaching.{Reached-end, Reached-no_stop, Reached-no_limit}

pub Running-start : (terms : Terms) (left written : Option (List ℕ)) (reader : Reading) →
    IsTrue reader.line.whole → reader.number ≡ 0 → reader.held ≡ [] →
    IsRunning terms left left written written [] reader (first_progress terms)
Running-start terms left written reader finished none empty = record {
  counted = sym none;
  text = [];
  passed = PassesOn-start written [];
  known = BothKnown-same _ left (λ bytes. record {
    gone = [];
    lines = ap (λ held. lines_of (held ++ bytes)) (sym empty);
    reached = Reached-start terms;
    whole =
        inl (record {
          finished = finished;
          given = [];
          split = ap (λ held. held ++ bytes) (sym empty);
          whole_lines = λ more. refl;
        });
  });
}

-- what LFs ended so far, once the next line was given
whole_next : (bytes was is : List ℕ) (gone : List Line) (old new : Reading) →
    HasNoLf new.line.bytes → GivesLine old new was is →
    (whole : Bool) → new.line.whole ≡ whole → WholeSoFar bytes was gone old ⊎ IsAfterLast was old →
    WholeSoFar bytes is (gone ++ new.line ∷ []) new ⊎ IsAfterLast is new
whole_next bytes was is gone old new no_lf gives false no_end so_far =
    inr (record {
      unfinished = no_end;
      nothing = lines_of-unfinished (old.held ++ was) new.line (new.held ++ is) gives.lines no_end;
    })
whole_next bytes was is gone old new no_lf gives true end (inr last) =
    let none : ◌≡◌ {A = List Line} [] (new.line ∷ lines_of (new.held ++ is)) =
    ap lines_of (sym last.nothing) ∙ gives.lines in cc
whole_next bytes was is gone old new no_lf gives true end (inl so_far) =
    let text = line_text new.line in
    let text_is : text ≡ new.line.bytes ++ lf ∷ [] =
    ap (λ w. new.line.bytes ++ cond w (lf ∷ []) []) end in
    let line_is : record { bytes = new.line.bytes; whole = true } ≡ new.line =
    ap (λ w. let line : Line = record { bytes = new.line.bytes; whole = w } in line)
    (sym end) in
    let first : (more : List ℕ) → whole_lines_of (text ++ more) ≡ new.line ∷ whole_lines_of more =
    λ more.
    ap (λ xs. whole_lines_of (xs ++ more)) text_is
    ∙ ap whole_lines_of (append_assoc new.line.bytes (lf ∷ []) more)
    ∙ whole_lines_of-whole new.line.bytes more no_lf
    ∙ ap (λ line. line ∷ whole_lines_of more) line_is in
    inl (record {
      finished = end;
      given = so_far.given ++ text;
      split =
          so_far.split ∙ ap (λ xs. so_far.given ++ xs) gives.bytes
          ∙ sym (append_assoc so_far.given text (new.held ++ is));
      whole_lines = λ more.
          ap whole_lines_of (append_assoc so_far.given text more)
          ∙ so_far.whole_lines (text ++ more)
          ∙ ap (λ lines. gone ++ lines) (first more)
          ∙ sym (append_assoc gone (new.line ∷ []) (whole_lines_of more));
    })

-- the next line leads on
at_next : (terms : Terms) (bytes was is text more : List ℕ) (old new : Reading) (p q : Progress) → HasNoLf new.line.bytes →
    GoesOn terms p new.line.bytes q more → AtLine terms bytes was text old p → GivesLine old new was is →
    AtLine terms bytes is (text ++ more) new q
at_next terms bytes was is text more old new p q no_lf leads at gives = record {
  gone = at.gone ++ new.line ∷ [];
  lines =
      at.lines ∙ ap (λ lines. at.gone ++ lines) gives.lines
      ∙ sym (append_assoc at.gone (new.line ∷ []) (lines_of (new.held ++ is)));
  reached = reached_next terms at.gone text more p q new.line at.reached leads;
  whole = whole_next bytes was is at.gone old new no_lf gives new.line.whole refl at.whole;
}

pub Running-led : (terms : Terms) (left0 left left' written0 written written' : Option (List ℕ))
    (page page' more : List ℕ) (old new : Reading) (p q : Progress) →
    HasNoLf new.line.bytes → new.number ≡ suc old.number → GoesOn terms p new.line.bytes q more →
    PassesOn written page written' page' more → BothKnown left left' (GivesLine old new) →
    IsRunning terms left0 left written0 written page old p →
    IsRunning terms left0 left' written0 written' page' new q
Running-led terms left0 left left' written0 written written' page page' more old new p q no_lf counted leads passed gives running =
    record {
      counted = lines_next terms p q new.line.bytes more leads ∙ ap suc running.counted ∙ sym counted;
      text = running.text ++ more;
      passed = PassesOn-then running.passed passed;
      known = BothKnown-then _ _ _ left0 left left' running.known gives (λ bytes was is at given.
          at_next terms bytes was is running.text more old new p q no_lf leads at given);
    }

-- ---- a group that waits is mined

-- a job after the first group that waits
abbrev pub mined_to : Pattern → Progress → Group → List Group → Progress
mined_to pattern p us more = record {
  lines = p.lines;
  stage = p.stage;
  stamp = suc p.stamp;
  mined = graph_after_all p.mined us;
  count = count_after pattern p.mined (graph_after_all p.mined us) p.count;
  waiting = more;
}

-- the text of that group
abbrev pub mined_text : Pattern → Progress → Group → List ℕ
mined_text pattern p us = step_text p.count pattern p.mined (graph_after_all p.mined us) (suc p.stamp)

-- A group waits first, under a program.
pub record WaitsFirst (terms : Terms) (many : Bool) (pattern : Pattern) (p : Progress) (us : Group) (more : List Group) : Type 0 where
  pub known : pattern_at p.stage ≡ Some pattern
  pub waits : p.waiting ≡ us ∷ more
  pub count_is : nat_lt terms.records (record_count pattern p.mined (graph_after_all p.mined us)) ≡ many

pub Running-mined : (terms : Terms) (left0 left written0 written written' : Option (List ℕ)) (page page' : List ℕ)
    (reader : Reading) (pattern : Pattern) (p : Progress) (us : Group) (more : List Group) →
    WaitsFirst terms false pattern p us more → PassesOn written page written' page' (mined_text pattern p us) →
    IsRunning terms left0 left written0 written page reader p →
    IsRunning terms left0 left written0 written' page' reader (mined_to pattern p us more)
Running-mined terms left0 left written0 written written' page page' reader pattern p us more first passed running = record {
  counted = running.counted;
  text = running.text ++ mined_text pattern p us;
  passed = PassesOn-then running.passed passed;
  known = BothKnown-map _ _ left0 left running.known (λ bytes is at. record {
    gone = at.gone;
    lines = at.lines;
    reached = Reached-mined terms at.gone running.text p at.reached pattern first.known us more first.waits first.count_is;
    whole = at.whole;
  });
}

-- where no source failed
unless_unread : (why : JobRefusal) (unread read : Type 0) → read → IfUnread (status_of_refusal why) unread read
unless_unread (refusal.Program line kind) unread read so = so
unless_unread (refusal.BadLine line) unread read so = so
unless_unread (refusal.Update line why) unread read so = so
unless_unread (refusal.Labels line) unread read so = so
unless_unread (refusal.Batch line) unread read so = so
unless_unread (refusal.OpenBatch line) unread read so = so
unless_unread (refusal.LineBytes line) unread read so = so
unless_unread (refusal.Lines line) unread read so = so

unless_unread_end : (why : Option JobRefusal) (unread read : Type 0) → read → IfUnread (status_of_end why) unread read
unless_unread_end None unread read so = so
unless_unread_end (Some why) unread read so = unless_unread why unread read so

-- what belongs to a job that came to this output
job_from : (terms : Terms) (bytes text : List ℕ) (end why : Status) (lines : List Line) →
    lines_of bytes ≡ lines → output terms (verdict terms.lines lines) ≡ record { text = text; end = end } →
    why ≡ end → IsJob terms bytes text why
job_from terms bytes text end why lines lines_are output_is why_is =
    let whole : output terms (verdict terms.lines (lines_of bytes)) ≡ record { text = text; end = end } =
    ap (λ lines. output terms (verdict terms.lines lines)) lines_are ∙ output_is in
    record { text_is = sym (ap (λ o. o.text) whole); end_is = why_is ∙ sym (ap (λ o. o.end) whole) }

module _ (terms : Terms) (bytes was is text : List ℕ) (old new : Reading) (p : Progress)
    (at : AtLine terms bytes was text old p) where
  -- the text so far is a prefix of the whole
  front_at : IsPrefixOfText terms bytes text
  front_at =
      let rest = output_to_come terms p (verdict_from terms.lines p.lines p.stage (lines_of (old.held ++ was))) in (
        rest.text,
        ap (λ lines. (output terms (verdict terms.lines lines)).text) at.lines
            ∙ ap (λ o. o.text) (at.reached.whole_output (lines_of (old.held ++ was))),
      )

  -- the first group that waits has too many records
  job_full : (pattern : Pattern) (us : Group) (more : List Group) → WaitsFirst terms true pattern p us more →
      IsJob terms bytes text (status.Limit limit.Records (suc p.stamp))
  job_full pattern us more first =
      job_from terms bytes text (status.Limit limit.Records (suc p.stamp)) (status.Limit limit.Records (suc p.stamp))
      (at.gone ++ lines_of (old.held ++ was)) at.lines
      (Reached-full terms at.gone text p at.reached pattern first.known us more first.waits first.count_is (lines_of (old.held ++ was)))
      refl

  -- Nothing waits, and all lines were counted.
  module _ (nothing : p.waiting ≡ []) (counted : p.lines ≡ old.number) where
    -- no line follows
    nothing_left : GivesEnd old new was is → WholeSoFar bytes was at.gone old ⊎ IsAfterLast was old →
        old.held ++ was ≡ []
    nothing_left ends (inl so_far) = ends.taken ∙ ends.ended so_far.finished
    nothing_left ends (inr last) = last.nothing

    job_clean : (why : Status) → EndsClean old new was is p.stage why → IsJob terms bytes text why
    job_clean why ends =
        let lines : lines_of bytes ≡ at.gone =
        at.lines ∙ ap (λ xs. at.gone ++ lines_of xs) (nothing_left ends.gives_end at.whole)
        ∙ append-nil at.gone in
        job_from terms bytes text (status_of_end (close_at p.lines p.stage)) why at.gone lines
        (Reached-end terms at.gone text p at.reached nothing)
        (ends.why_is ∙ ap (λ n. status_of_end (close_at n p.stage)) (sym counted))

    job_refused : (why : Status) → EndsRefused terms.lines (old.held ++ was) old.number p.stage why →
        IsJob terms bytes text why
    job_refused why ends =
        job_from terms bytes text (status_of_refusal ends.refusal) why (at.gone ++ ends.line ∷ ends.others)
        (at.lines ∙ ap (λ lines. at.gone ++ lines) ends.follows)
        (Reached-refused terms at.gone text p ends.line at.reached ends.refusal nothing
        (ap (λ n. judgement terms.lines (suc n) p.stage ends.line.bytes) counted ∙ ends.refused_is) ends.others)
        ends.why_is

    job_unread : StopsInLine old new was is →
        WholeSoFar bytes was at.gone old ⊎ IsAfterLast was old → IsPrefixOfJob terms bytes is text
    job_unread stops (inr last) =
        let no : false ≡ true = sym last.unfinished ∙ stops.after_whole in cc
    job_unread stops (inl so_far) =
        let lines : whole_lines_of (so_far.given ++ new.held) ≡ at.gone =
        so_far.whole_lines new.held
        ∙ ap (λ lines. at.gone ++ lines) (whole_lines_of-none new.held stops.no_line)
        ∙ append-nil at.gone in
        record {
          taken = so_far.given ++ new.held;
          split =
              so_far.split ∙ ap (λ xs. so_far.given ++ xs) stops.taken
              ∙ sym (append_assoc so_far.given new.held is);
          text_is =
              sym (ap (λ lines. (output terms (verdict terms.lines lines)).text) lines
              ∙ ap (λ o. o.text) (Reached-end terms at.gone text p at.reached nothing));
          no_stop =
              ap (λ lines. (verdict terms.lines lines).stop) lines
              ∙ Reached-no_stop terms at.gone text p at.reached nothing;
          no_limit =
              ap (λ lines. (output terms (verdict terms.lines lines)).end) lines
              ∙ Reached-no_limit terms at.gone text p at.reached nothing
              ∙ ap (λ lines. status_of_end (verdict terms.lines lines).close) (sym lines);
        }

    job_at : (why : Status) → EndsJob terms.lines old new was is p.stage why →
        IfUnread why (IsPrefixOfJob terms bytes is text) (IsJob terms bytes text why)
    job_at why (inl ends) =
        subst (λ end. IfUnread end (IsPrefixOfJob terms bytes is text) (IsJob terms bytes text end))
        (sym ends.why_is)
        (unless_unread_end (close_at old.number p.stage) _ _
        (subst (IsJob terms bytes text) ends.why_is (job_clean why ends)))
    job_at why (inr (inl ends)) =
        subst (λ end. IfUnread end (IsPrefixOfJob terms bytes is text) (IsJob terms bytes text end))
        (sym ends.why_is)
        (unless_unread ends.refusal _ _ (subst (IsJob terms bytes text) ends.why_is (job_refused why ends)))
    job_at why (inr (inr (inr starved))) =
        subst (λ end. IfUnread end (IsPrefixOfJob terms bytes is text) (IsJob terms bytes text end))
        (sym starved) tt
    job_at why (inr (inr (inl ends))) =
        subst (λ end. IfUnread end (IsPrefixOfJob terms bytes is text) (IsJob terms bytes text end))
        (sym ends.why_is) (job_unread ends.stops at.whole)

-- the job ends, and nothing waits
pub Running-ended : (terms : Terms) (left0 left left' written0 written : Option (List ℕ)) (page : List ℕ)
    (old new : Reading) (p : Progress) (why : Status) → p.waiting ≡ [] →
    BothKnown left left' (λ was is. EndsJob terms.lines old new was is p.stage why) →
    IsRunning terms left0 left written0 written page old p →
    HasEnded terms left0 left' written0 written page why
Running-ended terms left0 left left' written0 written page old new p why nothing ends running = record {
  text = running.text;
  passed = running.passed;
  front =
      BothKnown-then _ _ _ left0 left left' running.known ends
      (λ bytes was is at end. front_at terms bytes was is running.text old new p at);
  job =
      BothKnown-then _ _ _ left0 left left' running.known ends
      (λ bytes was is at end. job_at terms bytes was is running.text old new p at nothing running.counted why end);
}

-- memory ran out
pub Running-starved : (terms : Terms) (left0 left left' written0 written : Option (List ℕ)) (page : List ℕ)
    (reader : Reading) (p : Progress) → TellBytes left left' → IsRunning terms left0 left written0 written page reader p →
    HasEnded terms left0 left' written0 written page status.NoMemory
Running-starved terms left0 left left' written0 written page reader p tell running = record {
  text = running.text;
  passed = running.passed;
  front =
      BothKnown-then _ _ _ left0 left left' running.known tell
      (λ bytes was is at _. front_at terms bytes was is running.text reader reader p at);
  job = BothKnown-then _ _ _ left0 left left' running.known tell (λ bytes was is at _. tt);
}

-- the first group that waits has too many records
pub Running-full : (terms : Terms) (left0 left left' written0 written : Option (List ℕ)) (page : List ℕ)
    (reader : Reading) (pattern : Pattern) (p : Progress) (us : Group) (more : List Group) → TellBytes left left' →
    WaitsFirst terms true pattern p us more → IsRunning terms left0 left written0 written page reader p →
    HasEnded terms left0 left' written0 written page (status.Limit limit.Records (suc p.stamp))
Running-full terms left0 left left' written0 written page reader pattern p us more tell first running = record {
  text = running.text;
  passed = running.passed;
  front =
      BothKnown-then _ _ _ left0 left left' running.known tell
      (λ bytes was is at _. front_at terms bytes was is running.text reader reader p at);
  job =
      BothKnown-then _ _ _ left0 left left' running.known tell
      (λ bytes was is at _. job_full terms bytes was is running.text reader reader p at pattern us more first);
}

-- Some lines of an input have this text.
pub record HasText (terms : Terms) (bytes text : List ℕ) : Type 0 where
  pub gone : List Line
  pub others : List Line
  pub reached_to : Progress
  pub lines : lines_of bytes ≡ gone ++ others
  pub reached : HasReached terms gone text reached_to

text_follows : (terms : Terms) (bytes text : List ℕ) → HasText terms bytes text → IsPrefixOfText terms bytes text
text_follows terms bytes text has = (
  (output_to_come terms has.reached_to (verdict_from terms.lines has.reached_to.lines has.reached_to.stage has.others)).text,
  ap (λ lines. (output terms (verdict terms.lines lines)).text) has.lines ∙ ap (λ o. o.text) (has.reached.whole_output has.others),
)

-- the text so far, and what belongs to the next step, could not be written whole
Running-fails : (terms : Terms) (left0 left left' written0 written written' : Option (List ℕ)) (page more : List ℕ)
    (reader : Reading) (p : Progress) (X : List ℕ → List ℕ → Type 0) → AppendsPrefix written written' (page ++ more) →
    BothKnown left left' X → (running : IsRunning terms left0 left written0 written page reader p) →
    ((bytes was is : List ℕ) → AtLine terms bytes was running.text reader p → X was is → HasText terms bytes (running.text ++ more)) →
    WritesPrefix terms left0 left' written0 written'
Running-fails terms left0 left left' written0 written written' page more reader p X front tell running has =
    BothKnown-then _ _ _ left0 left left' running.known tell (λ bytes was is at x.
    let rest = text_follows terms bytes (running.text ++ more) (has bytes was is at x) in
    subst (AppendsPrefix written0 written') (sym rest.1)
    (AppendsFront-more rest.0 (AppendsFront-then more running.passed front)))

-- the page could not be sent
pub Running-unsent : (terms : Terms) (left0 left written0 written written' : Option (List ℕ)) (page : List ℕ)
    (reader : Reading) (p : Progress) → AppendsPrefix written written' (page ++ []) →
    IsRunning terms left0 left written0 written page reader p → WritesPrefix terms left0 left written0 written'
Running-unsent terms left0 left written0 written written' page reader p front running =
    Running-fails terms left0 left left written0 written written' page [] reader p (λ was is. Unit {0}) front
    (BothKnown-same _ left (λ bytes. tt)) running (λ bytes was is at _. record {
      gone = at.gone;
      others = lines_of (reader.held ++ was);
      reached_to = p;
      lines = at.lines;
      reached = subst (λ text. HasReached terms at.gone text p) (sym (append-nil running.text)) at.reached;
    })

-- what stands before the first timestamp could not be written
pub Running-unopened : (terms : Terms) (left0 left left' written0 written written' : Option (List ℕ)) (page more : List ℕ)
    (old new : Reading) (p q : Progress) → BothKnown left left' (GivesLine old new) → GoesOn terms p new.line.bytes q more →
    AppendsPrefix written written' (page ++ more) → IsRunning terms left0 left written0 written page old p →
    WritesPrefix terms left0 left' written0 written'
Running-unopened terms left0 left left' written0 written written' page more old new p q gives leads front running =
    Running-fails terms left0 left left' written0 written written' page more old p (GivesLine old new) front gives running
    (λ bytes was is at line. record {
      gone = at.gone ++ new.line ∷ [];
      others = lines_of (new.held ++ is);
      reached_to = q;
      lines =
          at.lines ∙ ap (λ lines. at.gone ++ lines) line.lines
          ∙ sym (append_assoc at.gone (new.line ∷ []) (lines_of (new.held ++ is)));
      reached = reached_next terms at.gone running.text more p q new.line at.reached leads;
    })

-- the text of the first group that waits could not be written
pub Running-unwritten : (terms : Terms) (left0 left left' written0 written written' : Option (List ℕ)) (page : List ℕ)
    (reader : Reading) (pattern : Pattern) (p : Progress) (us : Group) (more : List Group) → TellBytes left left' →
    WaitsFirst terms false pattern p us more → AppendsPrefix written written' (page ++ mined_text pattern p us) →
    IsRunning terms left0 left written0 written page reader p → WritesPrefix terms left0 left' written0 written'
Running-unwritten terms left0 left left' written0 written written' page reader pattern p us more tell first front running =
    Running-fails terms left0 left left' written0 written written' page (mined_text pattern p us) reader p (λ was is. Unit {0}) front
    tell running (λ bytes was is at _. record {
      gone = at.gone;
      others = lines_of (reader.held ++ was);
      reached_to = mined_to pattern p us more;
      lines = at.lines;
      reached = Reached-mined terms at.gone running.text p at.reached pattern first.known us more first.waits first.count_is;
    })

-- all of what was passed on and held is written
all_written : (terms : Terms) (left0 left' written0 written written' : Option (List ℕ)) (page : List ℕ)
    (why : Status) → Appends written written' page →
    (ended : HasEnded terms left0 left' written0 written page why) →
    Appends written0 written' ended.text
all_written terms left0 left' written0 written written' page why sent ended =
    subst (Appends written0 written') ended.passed.rest
    (Appends-then written0 written written' ended.passed.sent page ended.passed.written sent)

mines_with : (terms : Terms) (left0 left written0 written : Option (List ℕ)) (text : List ℕ)
    (why : Status) → IsEnd why → Appends written0 written text →
    BothKnown left0 left (λ bytes is. IsPrefixOfText terms bytes text) →
    BothKnown left0 left (λ bytes is.
    IfUnread why (IsPrefixOfJob terms bytes is text) (IsJob terms bytes text why)) →
    Mines terms left0 left written0 written why
mines_with terms left0 left written0 written text status.Ok end out front job =
    BothKnown-map _ _ left0 left job (λ bytes is so. (text, so, out))
mines_with terms left0 left written0 written text status.NoMemory end out front job =
    BothKnown-map _ _ left0 left front (λ bytes is rest.
    subst (AppendsPrefix written0 written) (sym rest.1) (record {
      len = length text;
      written = subst (Appends written0 written) (sym (take-append_seam text rest.0)) out;
    }))
mines_with terms left0 left written0 written text status.Usage end out front job = absurd end
mines_with terms left0 left written0 written text (status.BadProgram line kind) end out front job =
    BothKnown-map _ _ left0 left job (λ bytes is so. (text, so, out))
mines_with terms left0 left written0 written text (status.BadInput line kind) end out front job =
    BothKnown-map _ _ left0 left job (λ bytes is so. (text, so, out))
mines_with terms left0 left written0 written text (status.Limit kind at) end out front job =
    BothKnown-map _ _ left0 left job (λ bytes is so. (text, so, out))
mines_with terms left0 left written0 written text status.ReadFault end out front job =
    BothKnown-map _ _ left0 left job (λ bytes is so. (text, so, out))
mines_with terms left0 left written0 written text status.WriteFault end out front job = absurd end

-- the page is sent at the end
pub Ended-sent : (terms : Terms) (left0 left' written0 written written' : Option (List ℕ))
    (page : List ℕ) (why : Status) → IsEnd why → Appends written written' page →
    HasEnded terms left0 left' written0 written page why → Mines terms left0 left' written0 written' why
Ended-sent terms left0 left' written0 written written' page why end sent ended =
    let text = ended.text in
    mines_with terms left0 left' written0 written' text why end
    (all_written terms left0 left' written0 written written' page why sent ended) ended.front ended.job

-- the page could not be sent at the end
pub Ended-fails : (terms : Terms) (left0 left' written0 written written' : Option (List ℕ))
    (page : List ℕ) (why : Status) → AppendsPrefix written written' page →
    HasEnded terms left0 left' written0 written page why →
    WritesPrefix terms left0 left' written0 written'
Ended-fails terms left0 left' written0 written written' page why sent ended =
    let front : AppendsPrefix written0 written' (ended.text ++ []) =
    AppendsFront-then [] ended.passed (AppendsFront-more [] sent) in
    let so : AppendsPrefix written0 written' ended.text =
    subst (AppendsPrefix written0 written') (append-nil ended.text) front in
    BothKnown-map _ _ left0 left' ended.front
    (λ bytes is rest. subst (AppendsPrefix written0 written') (sym rest.1)
    (AppendsFront-more rest.0 so))

-- a run that wants memory before its first line
pub Ended-unbegun : (terms : Terms) (left written : Option (List ℕ)) (page : List ℕ) → page ≡ [] →
    HasEnded terms left left written written page status.NoMemory
Ended-unbegun terms left written page nothing =
    subst (λ page. HasEnded terms left left written written page status.NoMemory) (sym nothing)
    (record {
      text = [];
      passed = PassesOn-start written [];
      front = BothKnown-same _ left (λ bytes. ((output terms (verdict terms.lines (lines_of bytes))).text, refl));
      job = BothKnown-same _ left (λ bytes. tt);
    })
