-- What a tally counts of a job is what its summary tells.
use Rattle.std.proofs.Common.{◌≡◌, ℕ, ◌<◌, ◌⊎◌, inl, inr, List, [], length, Option, None, Some, refl, sym, ap, subst, ◌∙◌}
use Rattle.graph_types.specs.meaning.Graph.{empty_graph}
use Rattle.job.specs.meaning.Judging.{Verdict, first_stage, reading_end, verdict}
use Rattle.job_io.specs.meaning.Lines.{lines_of}
use Rattle.mining_model.specs.meaning.Embeddings.{Pattern}
use Rattle.mining_model.specs.meaning.History.{history}
use Rattle.record_tally.specs.meaning.Lines.{lines_beginning}
use Rattle.record_tally.proofs.Records.{added-counted, done-counted, removed-counted}
use Rattle.record_text.specs.declared.record_format.RecordFormat.TheVariants.{One}
use Rattle.record_text.specs.meaning.Text.{count_in, history_text}
use Rattle.trial_job.specs.meaning.TrialJob.{trial_text}
use Rattle.tesseract.specs.calls.Run.{IsJob}
use Rattle.tesseract.specs.calls.Trial.{EndsAs, IsSummaryWritten, Tries, WritesSummary}
use Rattle.tesseract.specs.declared.status.Status.{Status}
use Rattle.tesseract.specs.declared.status.Status.TheVariants as status
use Rattle.tesseract.specs.declared.status.LimitKind.TheVariants as limit
use Rattle.tesseract.specs.declared.terms.Terms.{Terms}
use Rattle.tesseract.specs.meaning.Output.{EndsAfterAll, EndsBeforeFull, IsWrittenUpto, opening, output, output_under, with_text}
use Rattle.tesseract.specs.meaning.Status.{status_of_end}
use Rattle.tesseract.specs.meaning.Summary.{added_in, removed_in, summary_line, summary_text, updates_in}
use Rattle.tesseract.proofs.Outputs.{output-upto}
use Rattle.tesseract.proofs.SingleUpdates.{groups-none, updates-single}
use Rattle.tesseract.proofs.TrialLines.{HasNoBatch, trial-HasNoBatch}

-- the lines of a text are counted as a summary tells them of a job
record AreCounted (v : Verdict) (text : List ℕ) : Type 0 where
  done : lines_beginning 68 text ≡ updates_in v.groups
  added : lines_beginning 78 text ≡ added_in v.pattern v.groups
  removed : lines_beginning 82 text ≡ removed_in v.pattern v.groups

module _ (terms : Terms) (format : terms.format ≡ One) (v : Verdict) (well : (output terms v).end ≡ status.Ok)
    (single : updates_in v.groups ≡ length v.groups) where
  -- a job that ends well ends after its last timestamp
  all_of : (pattern : Pattern) (m : ℕ) (end : Status) → end ≡ status.Ok →
      EndsAfterAll v m end ⊎ EndsBeforeFull terms v pattern m end → m ≡ length v.groups
  all_of pattern m end ok (inl last) = last.all
  all_of pattern m end ok (inr full) =
      absurd (let e : status.Ok ≡ status.Limit limit.Records _ = sym ok ∙ full.end_is in cc)

  counted_under : (pattern : Pattern) → v.pattern ≡ Some pattern → AreCounted v (output terms v).text
  counted_under pattern is =
      let written = output-upto terms v pattern is in
      let m = written.0 in
      let graphs = history empty_graph v.groups in
      let all = all_of pattern m (output terms v).end well written.1.end_is in
      let text : (output terms v).text ≡ history_text One pattern empty_graph graphs (length v.groups) =
      written.1.text_is ∙ (λ i. history_text (format i) pattern empty_graph graphs (all i)) in
      record {
        done = ap (lines_beginning 68) text ∙ done-counted pattern empty_graph graphs (length v.groups) ∙ sym single;
        added = ap (lines_beginning 78) text ∙ added-counted pattern empty_graph graphs (length v.groups)
            ∙ ap (λ p. added_in p v.groups) (sym is);
        removed = ap (lines_beginning 82) text ∙ removed-counted pattern empty_graph graphs (length v.groups)
            ∙ ap (λ p. removed_in p v.groups) (sym is);
      }

  counted_without : v.pattern ≡ None → v.groups ≡ [] → AreCounted v (output terms v).text
  counted_without is none =
      let text : (output terms v).text ≡ [] =
      ap (λ p. (with_text (opening terms.format p)
      (output_under terms.records (count_in terms.format 0) p empty_graph 0 v.groups (status_of_end (reading_end v)))).text) is in
      record {
        done = ap (lines_beginning 68) text ∙ ap updates_in (sym none);
        added = ap (lines_beginning 78) text ∙ ap (λ p. added_in p v.groups) (sym is);
        removed = ap (lines_beginning 82) text ∙ ap (λ p. removed_in p v.groups) (sym is);
      }

summary_written : (summary : List ℕ) (written0 written : Option (List ℕ)) (end why : Status) → end ≡ status.Ok →
    IsSummaryWritten summary written0 written why → WritesSummary summary written0 written why × EndsAs end why
summary_written summary written0 written end status.Ok well is = (is, sym well)
summary_written summary written0 written end status.WriteFault well is = (is, tt)
summary_written summary written0 written end why well is = absurd is

module _ (terms : Terms) (format : terms.format ≡ One) (seed n updates : ℕ) where
  abbrev job : List ℕ
  job = trial_text seed n updates

  abbrev v : Verdict
  v = verdict terms.lines (lines_of job)

  single_updates : updates_in v.groups ≡ length v.groups
  unfolding HasNoBatch
  single_updates = updates-single terms.lines 0 first_stage (lines_of job) refl (trial-HasNoBatch seed n updates)

  counted : (output terms v).end ≡ status.Ok → AreCounted v (output terms v).text
  counted well = by_pattern v.pattern refl
    where
      by_pattern : (p : Option Pattern) → v.pattern ≡ p → AreCounted v (output terms v).text
      by_pattern None is = counted_without terms format v well single_updates is (groups-none terms.lines 0 first_stage (lines_of job) is)
      by_pattern (Some pattern) is = counted_under terms format v well single_updates pattern is

  -- where mining it ended well, and the tally has its text, the summary of the tally is that of the job
  pub Tries-counted : (bytes text : List ℕ) (written0 written : Option (List ℕ)) (why : Status) → bytes ≡ job →
      IsJob terms bytes text status.Ok →
      IsSummaryWritten (summary_line (lines_beginning 68 text) (lines_beginning 78 text) (lines_beginning 82 text)) written0 written why →
      Tries terms job written0 written why
  Tries-counted bytes text written0 written why same is wrote =
      let mined : IsJob terms job text status.Ok = subst (λ bytes. IsJob terms bytes text status.Ok) same is in
      let well : (output terms v).end ≡ status.Ok = sym mined.end_is in
      let counts = counted well in
      let line : summary_line (lines_beginning 68 text) (lines_beginning 78 text) (lines_beginning 82 text) ≡ summary_text v = λ i.
      summary_line ((ap (lines_beginning 68) mined.text_is ∙ counts.done) i) ((ap (lines_beginning 78) mined.text_is ∙ counts.added) i)
      ((ap (lines_beginning 82) mined.text_is ∙ counts.removed) i) in
      let both = summary_written (summary_text v) written0 written (output terms v).end why well
      (subst (λ line. IsSummaryWritten line written0 written why) line wrote) in
      record { writes = both.0; ends = both.1 }
