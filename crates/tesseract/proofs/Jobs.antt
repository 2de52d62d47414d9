-- What the records of a job tell.
use Rattle.std.proofs.Common.{◌≡◌, ℕ, zero, suc, ◌+◌, ◌-◌, ◌*◌, ◌^◌, ◌<◌, ◌≤◌, List, length, Some, ap, subst, sym, ◌∙◌, arith}
use Rattle.std.specs.Option.{IfSome}
use Rattle.graph_types.specs.meaning.Graph.{Graph, empty_graph}
use Rattle.graph_types.specs.meaning.Piece.{most_members}
use Rattle.job_io.specs.meaning.Lines.{Line}
use Rattle.mining_model.specs.meaning.Changes.{added_pieces, removed_pieces}
use Rattle.mining_model.specs.meaning.Embeddings.{Pattern, embeddings}
use Rattle.mining_model.specs.meaning.History.{graph_at, history, snapshot}
use Rattle.record_text.specs.declared.record_format.RecordFormat.{RecordFormat}
use Rattle.record_text.specs.declared.record_format.RecordFormat.TheVariants.{One, Two}
use Rattle.record_text.specs.meaning.Text.{count_at, total_at}
use Rattle.record_text.specs.meaning.Writable.{IsCount}
use Rattle.snapshot_fold.specs.meaning.FoldText.{fold_text}
use Rattle.snapshot_fold.specs.meaning.Records.{IsTellable, pieces_of}
use Rattle.snapshot_fold.proofs.Snapshots.{IsRecordable-empty_graph, IsRecordable-history}
use Rattle.snapshot_fold.proofs.Telling.{fold_text-history}
use Rattle.job.specs.meaning.Judging.{Verdict, verdict}
use Rattle.job.proofs.Bounds.{verdict-bounded}
use Rattle.tesseract.specs.declared.terms.Terms.{Terms}
use Rattle.tesseract.specs.meaning.Output.{IsCountable, IsWrittenUpto, output, records_at}
use Rattle.tesseract.proofs.Outputs.{written-within}
use Rattle.tesseract.proofs.Nothing.{embeddings-empty}

grown : (n added removed m : ℕ) → n ≤ m * 2 ^ 32 → removed + added < 2 ^ 32 → (n + added) - removed ≤ suc m * 2 ^ 32
grown n added removed m few last = omega (arith, few, last)

-- the count after timestamps none of which has as many as 2 ^ 32 records
module _ (pattern : Pattern) (g : Graph) (later : List Graph) where
  total-few : (m : ℕ) → ((t : ℕ) → t ≤ m → records_at pattern g later t < 2 ^ 32) → total_at pattern g later m ≤ m * 2 ^ 32
  total-few zero few = omega arith
  total-few (suc m) few =
      let before = total-few m (λ t within. few t (omega (arith, within))) in
      let last = few (suc m) (omega arith) in
      let added = length (added_pieces pattern (graph_at g later m) (graph_at g later (suc m))) in
      let removed = length (removed_pieces pattern (graph_at g later m) (graph_at g later (suc m))) in
      grown (total_at pattern g later m) added removed m before last

count_fits : (format : RecordFormat) (pattern : Pattern) (g : Graph) (later : List Graph) (t : ℕ) → total_at pattern g later t < 2 ^ 64 →
    IsCount (count_at format pattern g later t)
count_fits One pattern g later t fits = tt
count_fits Two pattern g later t fits = fits

module _ (terms : Terms) (lines : List Line) (counts : IsCountable terms) (pattern : Pattern)
    (is : (verdict terms.lines lines).pattern ≡ Some pattern) where
  abbrev v : Verdict
  v = verdict terms.lines lines

  -- the history of a job can be told, up to what is written of it
  pub IsTellable-job : (m : ℕ) → IsWrittenUpto terms v pattern m →
      IsTellable terms.format pattern empty_graph (history empty_graph v.groups) m
  IsTellable-job m upto =
      let job = verdict-bounded terms.lines lines in
      let within = written-within terms v pattern m upto in
      record {
        small = subst (λ p. IfSome p (λ pattern. pattern.size ≤ most_members)) is job.small;
        nothing_first = embeddings-empty pattern;
        recordable = IsRecordable-history empty_graph v.groups IsRecordable-empty_graph job.short;
        fits = (let f = counts.few in let j = job.few in omega (arith, f, j, within));
        few = λ t early.
            let total =
            total-few pattern empty_graph (history empty_graph v.groups) t
            (λ s before. let r = upto.few s (omega (arith, before, early)) in let n = counts.narrow in omega (arith, r, n)) in
            count_fits terms.format pattern empty_graph (history empty_graph v.groups) t
            (let f = counts.few in let j = job.few in omega (arith, total, early, within, f, j));
      }

  pub fold_text-job : (m t : ℕ) → IsWrittenUpto terms v pattern m → t ≤ m →
      fold_text (output terms v).text t
      ≡ Some (pieces_of pattern.mode (embeddings pattern (snapshot v.groups t)))
  fold_text-job m t upto within =
      ap (λ text. fold_text text t) upto.text_is
      ∙ fold_text-history terms.format pattern empty_graph (history empty_graph v.groups) m (IsTellable-job m upto) t within
