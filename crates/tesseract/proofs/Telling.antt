-- What was written for a job tells its embeddings, wherever it was cut off.
use Rattle.std.proofs.Common.{◌≡◌, ℕ, false, cond, eqb, ◌≤◌, inl, inr, IsTrue, List, [], ◌∷◌, ◌++◌, take, drop, length, Option, None, Some, refl, sym, ap, subst, ◌∙◌, arith}
use Rattle.std.specs.Io.KnownBytes.{Appends}
use Rattle.std.specs.Option.{is_some}
use Rattle.std.proofs.Math.Seq.{take-length}
use Rattle.std.proofs.lemmas.Bool.{cases_eq, ne_eqb}
use Rattle.std.proofs.lemmas.List.{take-append-drop}
use Rattle.graph_types.specs.meaning.Graph.{empty_graph}
use Rattle.graph_types.specs.meaning.Piece.{PieceValue}
use Rattle.job_io.specs.calls.Ends.{BothKnown, AppendsPrefix}
use Rattle.job_io.specs.meaning.Lines.{lines_of}
use Rattle.job_io.proofs.Known.{BothKnown-map}
use Rattle.mining_model.specs.meaning.Embeddings.{Pattern}
use Rattle.mining_model.specs.meaning.History.{history}
use Rattle.snapshot_fold.specs.meaning.FoldText.{fold_text}
use Rattle.record_text.specs.meaning.Text.{count_in}
use Rattle.snapshot_fold.proofs.Telling.{history_text-tells}
use Rattle.tesseract.specs.declared.terms.Terms.{Terms}
use Rattle.job.specs.meaning.Judging.{Verdict, verdict, reading_end}
use Rattle.tesseract.specs.meaning.Status.{status_of_end}
use Rattle.tesseract.specs.meaning.Output.{IsCountable, IsWrittenUpto, opening, output, output_under, with_text}
use Rattle.tesseract.specs.calls.Run.{TellJob, WritesPrefix, WritesTold}
use Rattle.tesseract.proofs.Jobs.{IsTellable-job}
use Rattle.tesseract.proofs.Outputs.{output-upto, written-within}

nothing_before : (written more : List ℕ) → written ++ more ≡ [] → written ≡ []
nothing_before [] more none = refl
nothing_before (b ∷ written) more none = absurd (cc)

-- no bytes tell nothing
untold : (t : ℕ) (pieces : List PieceValue) → 1 ≤ t → fold_text [] t ≡ Some pieces → ⊥
untold t pieces some told =
    let late : eqb t 0 ≡ false = ne_eqb t 0 (λ e. omega (arith, e, some)) in
    let none : ◌≡◌ {A = Option (List PieceValue)} None (Some pieces) = sym (ap (λ b. cond b (Some []) None) late) ∙ told in cc

pub TellJob-nil : (terms : Terms) (input : List ℕ) → TellJob terms input []
TellJob-nil terms input = record {
  exact = λ t pieces some told. absurd (untold t pieces some told);
  where_done = λ t say. absurd say;
}

module _ (terms : Terms) (input written more : List ℕ) (counts : IsCountable terms) where
  abbrev v : Verdict
  v = verdict terms.lines (lines_of input)

  told_upto : (pattern : Pattern) → v.pattern ≡ Some pattern → (m : ℕ) → IsWrittenUpto terms v pattern m →
      written ++ more ≡ (output terms v).text → TellJob terms input written
  told_upto pattern is m upto split =
      let few = written-within terms v pattern m upto in
      let tells =
      history_text-tells terms.format pattern empty_graph (history empty_graph v.groups) m
      (IsTellable-job terms (lines_of input) counts pattern is m upto) written more (split ∙ upto.text_is) in
      record {
        exact = λ t pieces some told.
            let so = tells.exact t pieces told in
            record { pattern = pattern; of_program = is; of_job = omega (arith, so.0, few); exact = so.1 };
        where_done = λ t say.
            elim (cases_eq t 0) as (λ _. IsTrue (is_some (fold_text written t))) [
              | inl none ↦ ap (λ u. is_some (fold_text written u)) none
              | inr some ↦ (tells.where_done t (omega (arith, some))).1 say
            ];
      }

  told_under : (p : Option Pattern) → v.pattern ≡ p → written ++ more ≡ (output terms v).text →
      TellJob terms input written
  told_under None is split =
      let none : (output terms v).text ≡ [] =
      ap (λ p. (with_text (opening terms.format p)
      (output_under terms.records (count_in terms.format 0) p empty_graph 0 v.groups (status_of_end (reading_end v)))).text) is in
      subst (TellJob terms input) (sym (nothing_before written more (split ∙ none))) (TellJob-nil terms input)
  told_under (Some pattern) is split =
      let upto = output-upto terms v pattern is in told_upto pattern is upto.0 upto.1 split

  -- what begins the text of a job tells it
  pub TellJob-front : written ++ more ≡ (output terms v).text → TellJob terms input written
  TellJob-front = told_under v.pattern refl

pub AppendsPrefix-all : (old new : Option (List ℕ)) (text : List ℕ) → Appends old new text → AppendsPrefix old new text
AppendsPrefix-all old new text all = record { len = length text; written = subst (Appends old new) (sym (take-length text)) all }

pub WritesTold-front : (terms : Terms) (left0 left written0 written : Option (List ℕ)) → IsCountable terms →
    WritesPrefix terms left0 left written0 written → WritesTold terms left0 left written0 written
WritesTold-front terms left0 left written0 written counts front =
    BothKnown-map _ _ left0 left front (λ bytes is some.
    let text = (output terms (verdict terms.lines (lines_of bytes))).text in (
      take some.len text,
      some.written,
      TellJob-front terms bytes (take some.len text) (drop some.len text) counts (take-append-drop some.len text),
    ))
