-- How far a job has come, line by line and group by group.
use Rattle.std.proofs.Common.{◌≡◌, ℕ, suc, Bool, true, false, List, [], ◌∷◌, ◌++◌, cond}
use Rattle.std.proofs.Common.{Option, None, Some, refl, sym, ap, ◌∙◌, append_assoc, append-nil}
use Rattle.std.specs.Prelude.{nat_lt}
use Rattle.graph_types.specs.meaning.Graph.{Graph}
use Rattle.job_io.specs.meaning.Lines.{Line}
use Rattle.mining_model.specs.meaning.Embeddings.{Pattern}
use Rattle.mining_model.specs.meaning.History.{Group}
use Rattle.mining_model.specs.meaning.Step.{graph_after_all}
use Rattle.record_text.specs.declared.record_format.RecordFormat.{RecordFormat}
use Rattle.record_text.specs.meaning.Text.{count_after, opening_text, record_count, step_text}
use Rattle.job.specs.declared.fault.JobRefusal.{JobRefusal}
use Rattle.job.specs.meaning.Judging.{Stage, heading, streaming, batching, pattern_at, Judgement, refused, moved, accepted, judgement}
use Rattle.job.specs.meaning.Judging.{Verdict, verdict_at_end, verdict_after, verdict_from, verdict, close_at, reading_end}
use Rattle.job.proofs.Following.{moved-LeadsOn, accepted-Accepts, verdict-pattern}
use Rattle.tesseract.specs.declared.terms.Terms.{Terms}
use Rattle.tesseract.specs.declared.status.Status.{Status}
use Rattle.tesseract.specs.declared.status.Status.TheVariants as status
use Rattle.tesseract.specs.declared.status.LimitKind.TheVariants as limit
use Rattle.tesseract.specs.meaning.Output.{Output, with_text, opening, output_under, output}
use Rattle.tesseract.specs.meaning.Status.{status_of_end, status_of_refusal}
use Rattle.tesseract.specs.calls.Progress.{Progress, first_progress, opening_to_come, output_to_come, HasReached}

-- nothing was read yet
pub Reached-start : (terms : Terms) → HasReached terms [] [] (first_progress terms)
Reached-start terms =
    record { whole_output = λ lines. refl; whole_stop = λ lines. refl; whole_close = λ lines. refl }

-- one text after another
with_text-then : (text more : List ℕ) (o : Output) → with_text text (with_text more o) ≡ with_text (text ++ more) o
with_text-then text more o =
    ap (λ all. let so : Output = record { text = all; end = o.end } in so) (sym (append_assoc text more o.text))

-- a text and nothing after it
with_text-nothing : (text : List ℕ) (end : Status) →
    with_text text (record { text = []; end = end }) ≡ record { text = text; end = end }
with_text-nothing text end = ap (λ all. let so : Output = record { text = all; end = end } in so) (append-nil text)

-- nothing is written for what is not read, where no group waits
nothing_under : (most : ℕ) (count : Option ℕ) (pattern : Option Pattern) (g : Graph) (t : ℕ) (end : Status) →
    output_under most count pattern g t [] end ≡ record { text = []; end = end }
nothing_under most count None g t end = refl
nothing_under most count (Some pattern) g t end = refl

-- nor where the header ends early
unopened : (format : RecordFormat) (stage : Stage) → opening_to_come format stage (pattern_at stage) ≡ []
unopened format (heading later names) = refl
unopened format (streaming pattern names g) = refl
unopened format (batching pattern names before us) = refl

ended_with : (terms : Terms) (text : List ℕ) (p : Progress) → p.waiting ≡ [] → (stop : Option JobRefusal) →
    with_text text (output_to_come terms p (verdict_at_end p.lines p.stage stop))
    ≡ record { text = text; end = status_of_end (reading_end (verdict_at_end p.lines p.stage stop)) }
ended_with terms text p nothing stop =
    let end = status_of_end (reading_end (verdict_at_end p.lines p.stage stop)) in
    ap (λ groups. with_text text (with_text (opening_to_come terms.format p.stage (pattern_at p.stage))
    (output_under terms.records p.count (pattern_at p.stage) p.mined p.stamp (groups ++ []) end))) nothing
    ∙ ap (λ front. with_text text (with_text front
    (output_under terms.records p.count (pattern_at p.stage) p.mined p.stamp [] end))) (unopened terms.format p.stage)
    ∙ ap (with_text text) (nothing_under terms.records p.count (pattern_at p.stage) p.mined p.stamp end)
    ∙ with_text-nothing text end

-- What stands before the first timestamp, where a line leads from the header to the stream.
abbrev pub opened : RecordFormat → Stage → Stage → List ℕ
opened format (heading later names) (heading next more) = []
opened format (heading later names) (streaming pattern more g) = opening_text format
opened format (heading later names) (batching pattern more g us) = opening_text format
opened format (streaming pattern names g) next = []
opened format (batching pattern names g us) next = []

-- it is written then, and not later
opens : (format : RecordFormat) (stage next : Stage) (pattern : Option Pattern) →
    ((known : Pattern) → pattern_at stage ≡ Some known → pattern_at next ≡ Some known) →
    ((known : Pattern) → pattern_at next ≡ Some known → pattern ≡ Some known) →
    opening_to_come format stage pattern ≡ opened format stage next ++ opening_to_come format next pattern
opens format (heading later names) (heading next more) pattern stays knows = refl
opens format (heading later names) (streaming known more g) pattern stays knows =
    ap (opening format) (knows known refl) ∙ sym (append-nil (opening_text format))
opens format (heading later names) (batching known more g us) pattern stays knows =
    ap (opening format) (knows known refl) ∙ sym (append-nil (opening_text format))
opens format (streaming known names g) (heading next more) pattern stays knows =
    let none = stays known refl in absurd (cc)
opens format (streaming known names g) (streaming next more h) pattern stays knows = refl
opens format (streaming known names g) (batching next more h us) pattern stays knows = refl
opens format (batching known names g us) (heading next more) pattern stays knows =
    let none = stays known refl in absurd (cc)
opens format (batching known names g us) (streaming next more h) pattern stays knows = refl
opens format (batching known names g us) (batching next more h vs) pattern stays knows = refl

module _ (terms : Terms) (gone : List Line) (text : List ℕ) (p : Progress) (line : Line)
    (reached : HasReached terms gone text p) where
  -- the verdict on the next line and those after it, by what the line does
  verdict_led : (j : Judgement) → judgement terms.lines (suc p.lines) p.stage line.bytes ≡ j → (lines : List Line) →
      verdict_from terms.lines p.lines p.stage (line ∷ lines)
      ≡ verdict_after p.lines p.stage j (λ next. verdict_from terms.lines (suc p.lines) next lines)
  verdict_led j is lines =
      ap (λ j. verdict_after p.lines p.stage j (λ next. verdict_from terms.lines (suc p.lines) next lines)) is

  -- what is said of the lines so far, this one and those after it, by what the line does
  module _ {A : Type 0} (all part : Verdict → A)
      (whole : (lines : List Line) →
      all (verdict terms.lines (gone ++ lines)) ≡ part (verdict_from terms.lines p.lines p.stage lines)) where
    part_led : (j : Judgement) → judgement terms.lines (suc p.lines) p.stage line.bytes ≡ j → (lines : List Line) →
        all (verdict terms.lines ((gone ++ line ∷ []) ++ lines))
        ≡ part (verdict_after p.lines p.stage j (λ next. verdict_from terms.lines (suc p.lines) next lines))
    part_led j is lines =
        ap (λ lines. all (verdict terms.lines lines)) (append_assoc gone (line ∷ []) lines) ∙ whole (line ∷ lines)
        ∙ ap part (verdict_led j is lines)

  stop_led : (j : Judgement) → judgement terms.lines (suc p.lines) p.stage line.bytes ≡ j → (lines : List Line) →
      (verdict terms.lines ((gone ++ line ∷ []) ++ lines)).stop
      ≡ (verdict_after p.lines p.stage j (λ next. verdict_from terms.lines (suc p.lines) next lines)).stop
  stop_led = part_led (λ (v : Verdict). v.stop) (λ (v : Verdict). v.stop) reached.whole_stop

  close_led : (j : Judgement) → judgement terms.lines (suc p.lines) p.stage line.bytes ≡ j → (lines : List Line) →
      (verdict terms.lines ((gone ++ line ∷ []) ++ lines)).close
      ≡ (verdict_after p.lines p.stage j (λ next. verdict_from terms.lines (suc p.lines) next lines)).close
  close_led = part_led (λ (v : Verdict). v.close) (λ (v : Verdict). v.close) reached.whole_close

  output_led : (j : Judgement) → judgement terms.lines (suc p.lines) p.stage line.bytes ≡ j → (lines : List Line) →
      output terms (verdict terms.lines ((gone ++ line ∷ []) ++ lines))
      ≡ with_text text (output_to_come terms p
      (verdict_after p.lines p.stage j (λ next. verdict_from terms.lines (suc p.lines) next lines)))
  output_led = part_led (λ v. output terms v) (λ v. with_text text (output_to_come terms p v)) reached.whole_output

  -- what is written of what follows, once the line led on
  led_on : (next : Stage) (groups : List Group) (v : Verdict) →
      ((known : Pattern) → pattern_at p.stage ≡ Some known → pattern_at next ≡ Some known) →
      ((known : Pattern) → pattern_at next ≡ Some known → v.pattern ≡ Some known) →
      with_text text (with_text (opening_to_come terms.format p.stage v.pattern)
      (output_under terms.records p.count v.pattern p.mined p.stamp groups (status_of_end (reading_end v))))
      ≡ with_text (text ++ opened terms.format p.stage next) (with_text (opening_to_come terms.format next v.pattern)
      (output_under terms.records p.count v.pattern p.mined p.stamp groups (status_of_end (reading_end v))))
  led_on next groups v stays knows =
      let rest = output_under terms.records p.count v.pattern p.mined p.stamp groups (status_of_end (reading_end v)) in
      ap (λ front. with_text text (with_text front rest)) (opens terms.format p.stage next v.pattern stays knows)
      ∙ ap (with_text text) (sym (with_text-then (opened terms.format p.stage next) (opening_to_come terms.format next v.pattern) rest))
      ∙ with_text-then text (opened terms.format p.stage next) (with_text (opening_to_come terms.format next v.pattern) rest)

  -- the line leads on, and brings no group
  pub Reached-moved : (next : Stage) → judgement terms.lines (suc p.lines) p.stage line.bytes ≡ moved next →
      HasReached terms (gone ++ line ∷ []) (text ++ opened terms.format p.stage next)
      (record { lines = suc p.lines; stage = next; stamp = p.stamp; mined = p.mined; count = p.count; waiting = p.waiting })
  Reached-moved next is = record {
    whole_output = λ lines.
        let v = verdict_from terms.lines (suc p.lines) next lines in
        output_led (moved next) is lines
        ∙ led_on next (p.waiting ++ v.groups) v
        (moved-LeadsOn terms.lines (suc p.lines) p.stage next line.bytes is).same_pattern
        (λ known is. verdict-pattern terms.lines (suc p.lines) next lines known is);
    whole_stop = stop_led (moved next) is;
    whole_close = close_led (moved next) is;
  }

  -- the line brings a group, which waits to be mined
  pub Reached-accepted : (us : Group) (next : Stage) →
      judgement terms.lines (suc p.lines) p.stage line.bytes ≡ accepted us next →
      HasReached terms (gone ++ line ∷ []) (text ++ opened terms.format p.stage next)
      (record { lines = suc p.lines; stage = next; stamp = p.stamp; mined = p.mined; count = p.count; waiting = p.waiting ++ us ∷ [] })
  Reached-accepted us next is = record {
    whole_output = λ lines.
        let v = verdict_from terms.lines (suc p.lines) next lines in
        let a = accepted-Accepts terms.lines (suc p.lines) p.stage next line.bytes us is in
        output_led (accepted us next) is lines
        ∙ ap (λ groups. with_text text (with_text (opening_to_come terms.format p.stage v.pattern)
        (output_under terms.records p.count v.pattern p.mined p.stamp groups (status_of_end (reading_end v)))))
        (sym (append_assoc p.waiting (us ∷ []) v.groups))
        ∙ led_on next ((p.waiting ++ us ∷ []) ++ v.groups) v
        (λ known is. a.same_pattern ∙ sym a.known ∙ is)
        (λ known is. verdict-pattern terms.lines (suc p.lines) next lines known is);
    whole_stop = stop_led (accepted us next) is;
    whole_close = close_led (accepted us next) is;
  }

  -- the line is refused, and nothing waits
  pub Reached-refused : (why : JobRefusal) → p.waiting ≡ [] →
      judgement terms.lines (suc p.lines) p.stage line.bytes ≡ refused why → (lines : List Line) →
      output terms (verdict terms.lines (gone ++ line ∷ lines))
      ≡ record { text = text; end = status_of_refusal why }
  Reached-refused why nothing is lines =
      reached.whole_output (line ∷ lines)
      ∙ ap (λ v. with_text text (output_to_come terms p v)) (verdict_led (refused why) is lines)
      ∙ ended_with terms text p nothing (Some why)

-- ---- a group that waits is mined

module _ (terms : Terms) (gone : List Line) (text : List ℕ) (p : Progress)
    (reached : HasReached terms gone text p) (pattern : Pattern) (known : pattern_at p.stage ≡ Some pattern)
    (us : Group) (more : List Group) (waits : p.waiting ≡ us ∷ more) where
  abbrev next : Graph
  next = graph_after_all p.mined us

  abbrev text_of : List ℕ
  text_of = step_text p.count pattern p.mined next (suc p.stamp)

  -- what is written after it, by the verdict on the lines to come
  abbrev rest_of : Verdict → Output
  rest_of v =
      output_under terms.records (count_after pattern p.mined next p.count) (Some pattern) next (suc p.stamp)
      (more ++ v.groups) (status_of_end (reading_end v))

  -- the header is whole
  opened_before : (stage : Stage) → pattern_at stage ≡ Some pattern → (q : Option Pattern) → opening_to_come terms.format stage q ≡ []
  opened_before (heading later names) is q = absurd (cc)
  opened_before (streaming mined_for names g) is q = refl
  opened_before (batching mined_for names before us) is q = refl

  -- by whether it has too many records
  output_mined : (many : Bool) → nat_lt terms.records (record_count pattern p.mined next) ≡ many → (lines : List Line) →
      output terms (verdict terms.lines (gone ++ lines))
      ≡ with_text text (cond many (record { text = []; end = status.Limit limit.Records (suc p.stamp) })
      (with_text text_of (rest_of (verdict_from terms.lines p.lines p.stage lines))))
  output_mined many count lines =
      let v = verdict_from terms.lines p.lines p.stage lines in
      let end = status_of_end (reading_end v) in
      let full : Output = record { text = []; end = status.Limit limit.Records (suc p.stamp) } in
      reached.whole_output lines
      ∙ ap (λ front. with_text text (with_text front (output_under terms.records p.count v.pattern p.mined p.stamp (p.waiting ++ v.groups) end)))
      (opened_before p.stage known v.pattern)
      ∙ ap (λ groups. with_text text (output_under terms.records p.count v.pattern p.mined p.stamp (groups ++ v.groups) end)) waits
      ∙ ap (λ q. with_text text (output_under terms.records p.count q p.mined p.stamp (us ∷ (more ++ v.groups)) end))
      (verdict-pattern terms.lines p.lines p.stage lines pattern known)
      ∙ ap (λ b. with_text text (cond b full (with_text text_of (rest_of v)))) count

  -- it takes the next timestamp
  pub Reached-mined : nat_lt terms.records (record_count pattern p.mined next) ≡ false →
      HasReached terms gone (text ++ text_of)
      (record { lines = p.lines; stage = p.stage; stamp = suc p.stamp; mined = next; count = count_after pattern p.mined next p.count; waiting = more })
  Reached-mined few = record {
    whole_output = λ lines.
        let v = verdict_from terms.lines p.lines p.stage lines in
        output_mined false few lines
        ∙ with_text-then text text_of (rest_of v)
        ∙ ap (λ q. with_text (text ++ text_of)
        (output_under terms.records (count_after pattern p.mined next p.count) q next (suc p.stamp) (more ++ v.groups) (status_of_end (reading_end v))))
        (sym (verdict-pattern terms.lines p.lines p.stage lines pattern known))
        ∙ ap (λ front. with_text (text ++ text_of) (with_text front
        (output_under terms.records (count_after pattern p.mined next p.count) v.pattern next (suc p.stamp) (more ++ v.groups) (status_of_end (reading_end v)))))
        (sym (opened_before p.stage known v.pattern));
    whole_stop = reached.whole_stop;
    whole_close = reached.whole_close;
  }

  -- it has too many records, and the job ends before it
  pub Reached-full : nat_lt terms.records (record_count pattern p.mined next) ≡ true → (lines : List Line) →
      output terms (verdict terms.lines (gone ++ lines))
      ≡ record { text = text; end = status.Limit limit.Records (suc p.stamp) }
  Reached-full full lines =
      output_mined true full lines ∙ with_text-nothing text (status.Limit limit.Records (suc p.stamp))

-- ---- no line follows

module _ (terms : Terms) (gone : List Line) (text : List ℕ) (p : Progress)
    (reached : HasReached terms gone text p) (nothing : p.waiting ≡ []) where
  pub Reached-end : output terms (verdict terms.lines gone)
      ≡ record { text = text; end = status_of_end (close_at p.lines p.stage) }
  Reached-end =
      ap (λ all. output terms (verdict terms.lines all)) (sym (append-nil gone)) ∙ reached.whole_output []
      ∙ ended_with terms text p nothing None

  pub Reached-no_stop : (verdict terms.lines gone).stop ≡ None
  Reached-no_stop =
      ap (λ all. (verdict terms.lines all).stop) (sym (append-nil gone)) ∙ reached.whole_stop []

  pub Reached-no_limit : (output terms (verdict terms.lines gone)).end
      ≡ status_of_end (verdict terms.lines gone).close
  Reached-no_limit =
      ap (λ o. o.end) Reached-end
      ∙ ap status_of_end (sym (reached.whole_close []) ∙ ap (λ all. (verdict terms.lines all).close) (append-nil gone))
