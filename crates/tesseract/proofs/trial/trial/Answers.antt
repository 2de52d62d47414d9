use Rattle.std.proofs.Common.{List, ℕ, ◌≡◌, ◌++◌, ap, ◌∙◌, subst}
use Rattle.record_tally.specs.meaning.Lines.{lines_beginning}
use Rattle.record_tally.specs.storage.Remembered.{TallyState}
use Rattle.tesseract.specs.calls.Trial.{IsSummaryWritten}
use Rattle.tesseract.specs.meaning.Summary.{summary_line}
use Rattle.trial_job.specs.meaning.TrialJob.{trial_text}
use Rattle.tesseract.proofs.Counted.{Tries-counted}
use Rattle.tesseract.proofs.trial.trial.Goals as goal

pub returns-in-Ok-mine-clause-tried : goal.returns-in-Ok-mine-clause-tried
returns-in-Ok-mine-clause-tried g c =
    let mined = c.in-Ok-mine.ensures.mined in
    let text = mined.0 in
    let tallied : c.mine.new.out.written ≡ text = mined.2 ∙ ap (λ (t : TallyState). t.written ++ text) c.new-tally.ensures in
    let old = g.O.Sink.written c.args.out.now in
    let new = g.O.Sink.written c.write_summary.new.out in
    let options = c.args.options.now in
    let job : c.new-source.result ≡ trial_text options.seed options.vertices options.updates =
    ◌∙◌ {c = trial_text options.seed options.vertices options.updates} c.new-source.ensures c.in-Ok.ensures in
    Tries-counted c.args.terms c.requires.counted options.seed options.vertices options.updates c.new-source.result text old new
    c.write_summary.result job mined.1
    (subst (λ (bytes : List ℕ). IsSummaryWritten (summary_line (lines_beginning 68 bytes) (lines_beginning 78 bytes) (lines_beginning 82 bytes)) old new c.write_summary.result)
    tallied c.write_summary.ensures.line)
