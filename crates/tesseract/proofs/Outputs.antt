-- The output of a job is the text of its first timestamps.
use Rattle.std.proofs.Common.{◌≡◌, ℕ, zero, suc, ◌+◌, ◌<◌, ◌≤◌, ◌⊎◌, inl, inr, List, [], ◌∷◌, ◌++◌, length}
use Rattle.std.proofs.Common.{Option, None, Some, refl, sym, ap, ◌∙◌, subst, append_assoc, append-nil, arith, length-append}
use Rattle.std.specs.Prelude.{nat_lt}
use Rattle.std.proofs.lemmas.Bool.{cases_eq, cond_both, ltb-true, ltb-false}
use Rattle.graph_types.specs.meaning.Graph.{Graph, empty_graph}
use Rattle.mining_model.specs.meaning.Embeddings.{Pattern}
use Rattle.mining_model.specs.meaning.History.{history, graph_at}
use Rattle.mining_model.proofs.Histories.{graph_at-next, length-history}
use Rattle.record_text.specs.declared.record_format.RecordFormat.{RecordFormat}
use Rattle.record_text.specs.meaning.Text.{count_after, count_at, count_in, history_text, opening_text, record_count, step_text, text_upto}
use Rattle.record_text.proofs.Texts.{count_after-in}
use Rattle.tesseract.specs.declared.terms.Terms.{Terms}
use Rattle.tesseract.specs.declared.status.Status.{Status}
use Rattle.tesseract.specs.declared.status.Status.TheVariants as status
use Rattle.tesseract.specs.declared.status.LimitKind.TheVariants as limit
use Rattle.job.specs.meaning.Judging.{Verdict, reading_end}
use Rattle.tesseract.specs.meaning.Status.{status_of_end}
use Rattle.tesseract.specs.meaning.Output.{Output, with_text, opening, output_from, output_under, output, records_at}
use Rattle.tesseract.specs.meaning.Output.{EndsAfterAll, EndsBeforeFull, IsWrittenUpto}

-- an output has the text of timestamps 1 to m of a history, and ends there
record HasTextUpto (most : ℕ) (format : RecordFormat) (pattern : Pattern) (g : Graph) (later : List Graph) (end : Status)
    (o : Output) (m : ℕ) : Type 0 where
  text_is : o.text ≡ text_upto format pattern g later m
  few : (t : ℕ) → t ≤ m → records_at pattern g later t ≤ most
  end_is : ((m ≡ length later) × (o.end ≡ end))
      ⊎ ((m < length later) × (most < records_at pattern g later (suc m))
      × (o.end ≡ status.Limit limit.Records (suc m)))

module _ (most : ℕ) (format : RecordFormat) (pattern : Pattern) (g : Graph) (later : List Graph) (end : Status) where
  abbrev Upto : Output → ℕ → Type 0
  Upto o m = HasTextUpto most format pattern g later end o m

  few_more : (t : ℕ) → ((s : ℕ) → s ≤ t → records_at pattern g later s ≤ most) →
      records_at pattern g later (suc t) ≤ most → (s : ℕ) → s ≤ suc t → records_at pattern g later s ≤ most
  few_more t few last s within = elim (cases_eq s (suc t)) [
    | inl same ↦ subst (λ s. records_at pattern g later s ≤ most) (sym same) last
    | inr fewer ↦ few s (omega (arith, within, fewer))
  ]

  output_of_rest : (seen rest : List Graph) (t : ℕ) → seen ++ rest ≡ later → length seen ≡ t →
      ((s : ℕ) → s ≤ t → records_at pattern g later s ≤ most) →
      (m : ℕ) × Upto
      (with_text (text_upto format pattern g later t)
      (output_from most (count_at format pattern g later t) pattern (graph_at g later t) t rest end)) m
  output_of_rest seen [] t split long few = (
    t,
    record {
      text_is = append-nil _;
      few = few;
      end_is = inl (sym long ∙ ap length (sym (append-nil seen) ∙ split), refl);
    },
  )
  output_of_rest seen (next ∷ rest) t split long few =
      let before = graph_at g later t in
      let upto = text_upto format pattern g later t in
      let n = count_at format pattern g later t in
      let now : graph_at g later (suc t) ≡ next =
      ap (λ graphs. graph_at g graphs (suc t)) (sym split) ∙ graph_at-next g seen next rest t long in
      let count : record_count pattern before next ≡ records_at pattern g later (suc t) =
      ap (λ h. record_count pattern before h) (sym now) in
      let whole : length later ≡ length seen + suc (length rest) =
      ap length (sym split) ∙ length-append seen (next ∷ rest) in
      let more = output_from most (count_after pattern before next n) pattern next (suc t) rest end in
      let none : Output = record { text = []; end = status.Limit limit.Records (suc t) } in
      cond_both (nat_lt most (record_count pattern before next)) none
      (with_text (step_text n pattern before next (suc t)) more)
      (λ (o : Output). (m : ℕ) × Upto (with_text upto o) m)
      (λ full. (
        t,
        record {
          text_is = append-nil _;
          few = few;
          end_is = inr (
            omega (arith, whole, long),
            subst (λ k. most < k) count (ltb-true most _ full),
            refl,
          );
        },
      ))
      (λ small. subst (λ (o : Output). (m : ℕ) × Upto o m)
      (ap (λ c. with_text (text_upto format pattern g later (suc t))
      (output_from most c pattern (graph_at g later (suc t)) (suc t) rest end))
      (sym (count_after-in format pattern before (graph_at g later (suc t)) _))
      ∙ ap (λ h. with_text (upto ++ step_text n pattern before h (suc t))
      (output_from most (count_after pattern before h n) pattern h (suc t) rest end)) now
      ∙ ap (λ all. let o : Output = record { text = all; end = more.end } in o) (append_assoc upto _ more.text))
      (output_of_rest (seen ++ next ∷ []) rest (suc t) (append_assoc seen (next ∷ []) rest ∙ split)
      (omega (arith, long, length-append seen (next ∷ [])))
      (few_more t few (subst (λ k. k ≤ most) count (ltb-false most _ small)))))

  few_none : (t : ℕ) → t ≤ 0 → records_at pattern g later t ≤ most
  few_none zero within = omega arith
  few_none (suc t) within = absurd (omega (arith, within))

  output_from-start : (m : ℕ) × Upto (output_from most (count_in format 0) pattern g 0 later end) m
  output_from-start = output_of_rest [] later 0 refl refl few_none

module _ (terms : Terms) (v : Verdict) (pattern : Pattern) where
  abbrev graphs : List Graph
  graphs = history empty_graph v.groups

  IsWritten-from : (o : Output) (m : ℕ) → with_text (opening_text terms.format) o ≡ output terms v →
      HasTextUpto terms.records terms.format pattern empty_graph graphs (status_of_end (reading_end v)) o m →
      IsWrittenUpto terms v pattern m
  IsWritten-from o m is upto = record {
    text_is = ap (λ o. o.text) (sym is) ∙ ap (λ text. opening_text terms.format ++ text) upto.text_is;
    few = upto.few;
    end_is = elim upto.end_is [
      | inl all ↦ inl (record {
        all = all.0 ∙ length-history empty_graph v.groups;
        end_is = ap (λ o. o.end) (sym is) ∙ all.1;
      })
      | inr full ↦ inr (record {
        of_job = subst (λ n. m < n) (length-history empty_graph v.groups) full.0;
        full = full.1;
        end_is = ap (λ o. o.end) (sym is) ∙ full.2;
      })
    ];
  }

  -- the output of a job with a program
  pub output-upto : v.pattern ≡ Some pattern → (m : ℕ) × IsWrittenUpto terms v pattern m
  output-upto is =
      let upto = output_from-start terms.records terms.format pattern empty_graph graphs (status_of_end (reading_end v)) in (
        upto.0,
        IsWritten-from _ upto.0
            (ap (λ p. with_text (opening terms.format p)
            (output_under terms.records (count_in terms.format 0) p empty_graph 0 v.groups (status_of_end (reading_end v)))) (sym is))
            upto.1,
      )

  within_of : (m : ℕ) (end : Status) → EndsAfterAll v m end ⊎ EndsBeforeFull terms v pattern m end →
      m ≤ length v.groups
  within_of m end (inl last) = omega (arith, last.all)
  within_of m end (inr full) = omega (arith, full.of_job)

  -- no more timestamps are written than there are
  pub written-within : (m : ℕ) → IsWrittenUpto terms v pattern m → m ≤ length v.groups
  written-within m upto = within_of m (output terms v).end upto.end_is
