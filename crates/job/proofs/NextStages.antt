-- The stage that a line of the stream leads to.
use Rattle.std.proofs.Common.{◌≡◌, ℕ, ◌+◌, Bool, true, false, cond, List, [], ◌∷◌, ◌++◌, length, length-append}
use Rattle.std.proofs.Common.{Option, None, Some, Result, Ok, Err, refl, sym, ap, subst, ◌∙◌}
use Rattle.std.specs.Prelude.{nat_lt}
use Rattle.graph_types.specs.meaning.Graph.{Graph}
use Rattle.graph_types.specs.declared.refusal.Refusal.{Refusal}
use Rattle.graph_types.specs.declared.update.Update.{Update}
use Rattle.line_fields.specs.meaning.Names.{Names}
use Rattle.mining_model.specs.meaning.Embeddings.{Pattern}
use Rattle.mining_model.specs.meaning.History.{Group}
use Rattle.mining_model.specs.meaning.Step.{step, graph_left_by, graph_after, graph_after_all}
use Rattle.update_reader.specs.declared.Item.{Item}
use Rattle.update_reader.specs.declared.Item.TheVariants as item
use Rattle.update_reader.specs.meaning.Grammar.{LineContent, update, too_many_labels, bad_line, content_of_line}
use Rattle.update_reader.specs.calls.Reading.{AnswersContent}
use Rattle.job.specs.declared.fault.JobRefusal.{JobRefusal}
use Rattle.job.specs.declared.fault.JobRefusal.TheVariants as refusal
use Rattle.job.specs.meaning.Judging.{Stage, heading, streaming, batching, refused, most_batch_updates}
use Rattle.job.specs.meaning.Judging.{step_judgement, content_judgement, join_judgement, batch_judgement, text_judgement}
use Rattle.job.specs.calls.Counting.{batch_after, batch_if_accepted}
use Rattle.job.specs.calls.Standing.{IsAt}
use Rattle.job.specs.calls.Taking.{LeadsBy, graph_with, names_with}

-- the graph after one update more
pub graph_after_all-one_more : (g : Graph) (us : List Update) (u : Update) →
    graph_after_all g (us ++ u ∷ []) ≡ graph_after (graph_after_all g us) u
graph_after_all-one_more g [] u = refl
graph_after_all-one_more g (v ∷ us) u = graph_after_all-one_more (graph_after g v) us u

abbrev Counted : Type 0
Counted = Result (Option ℕ) JobRefusal

abbrev counted_ok : Option ℕ → Counted
counted_ok batch = Ok batch

abbrev counted_err : JobRefusal → Counted
counted_err why = Err why

ok_same : (a b : Option ℕ) → counted_ok a ≡ counted_ok b → a ≡ b
ok_same a b e = cc

err_same : (a b : JobRefusal) → counted_err a ≡ counted_err b → a ≡ b
err_same a b e = cc

-- no header is at a stage of the stream
not_heading : (pattern : Pattern) → None ≡ Some pattern → ⊥
not_heading pattern e = cc

-- ---- an item that is accepted

abbrev Leads : ℕ → Stage → List ℕ → Pattern → Names → Graph → Option ℕ → Item → Type 0
Leads n stage text pattern names g batch what =
    (next : Stage) × LeadsBy stage what (text_judgement n stage text) next × IsAt next pattern names (graph_with what g) batch

abbrev Says : Names → List ℕ → Item → Names → Type 0
Says names text what later = AnswersContent names (content_of_line names text) (Ok what) later

module _ (n : ℕ) (p : Pattern) (ns later : Names) (k : Option ℕ) (text : List ℕ) where
  update_alone : (h : Graph) (u : Update) (stepped : Result Graph Refusal) → step h u ≡ stepped →
      content_of_line ns text ≡ update u later → batch_if_accepted n stepped (Ok None) ≡ Ok k →
      Leads n (streaming p ns h) text p later h k (item.Update u)
  update_alone h u (Ok after) is says counts = (
    streaming p later after,
    ap (content_judgement n p ns h) says ∙ ap (step_judgement n p later u) is,
    record { mines = refl; knows = refl; draws = sym (ap (graph_left_by h) is); counts = ok_same None k counts },
  )
  update_alone h u (Err why) is says counts = absurd (let e : Err (refusal.Update n why) ≡ Ok k = counts in cc)

  in_stream : (h : Graph) (what : Item) → Says ns text what later → batch_after n h None what ≡ Ok k →
      Leads n (streaming p ns h) text p later h k what
  in_stream h item.Nothing says counts = (
    streaming p ns h,
    ap (content_judgement n p ns h) says.1,
    record { mines = refl; knows = sym says.0; draws = refl; counts = ok_same None k counts },
  )
  in_stream h item.Commit says counts = (
    streaming p ns h,
    ap (content_judgement n p ns h) says.1,
    record { mines = refl; knows = sym says.0; draws = refl; counts = ok_same None k counts },
  )
  in_stream h item.BatchBegin says counts = (
    batching p ns h [],
    ap (content_judgement n p ns h) says.1,
    record { mines = refl; knows = sym says.0; draws = refl; counts = ok_same (Some 0) k counts },
  )
  in_stream h item.BatchEnd says counts = absurd (let e : Err (refusal.BadLine n) ≡ Ok k = counts in cc)
  in_stream h (item.Update u) says counts = update_alone h u (step h u) refl says counts

  module _ (before : Graph) (us : Group) where
    update_joins : (u : Update) (b : Bool) (stepped : Result Graph Refusal) →
        nat_lt (length us) most_batch_updates ≡ b → step (graph_after_all before us) u ≡ stepped →
        content_of_line ns text ≡ update u later →
        batch_if_accepted n stepped (cond b (Ok (Some (length us + 1))) (Err (refusal.Batch n))) ≡ Ok k →
        Leads n (batching p ns before us) text p later (graph_after_all before us) k (item.Update u)
    update_joins u true (Ok after) room is says counts = (
      batching p later before (us ++ u ∷ []),
      ap (batch_judgement n p ns before us) says
          ∙ ap (λ b. cond b (join_judgement n p later before us u (step (graph_after_all before us) u)) (refused (refusal.Batch n))) room
          ∙ ap (join_judgement n p later before us u) is,
      record {
        mines = refl;
        knows = refl;
        draws = graph_after_all-one_more before us u;
        counts = ap (λ l. Some l) (length-append us (u ∷ [])) ∙ ok_same (Some (length us + 1)) k counts;
      },
    )
    update_joins u true (Err why) room is says counts =
        absurd (let e : Err (refusal.Update n why) ≡ Ok k = counts in cc)
    update_joins u false (Ok after) room is says counts = absurd (let e : Err (refusal.Batch n) ≡ Ok k = counts in cc)
    update_joins u false (Err why) room is says counts = absurd (let e : Err (refusal.Batch n) ≡ Ok k = counts in cc)

    in_batch : (what : Item) → Says ns text what later →
        batch_after n (graph_after_all before us) (Some (length us)) what ≡ Ok k →
        Leads n (batching p ns before us) text p later (graph_after_all before us) k what
    in_batch item.Nothing says counts = (
      batching p ns before us,
      ap (batch_judgement n p ns before us) says.1,
      record { mines = refl; knows = sym says.0; draws = refl; counts = ok_same (Some (length us)) k counts },
    )
    in_batch item.Commit says counts = absurd (let e : Err (refusal.BadLine n) ≡ Ok k = counts in cc)
    in_batch item.BatchBegin says counts = absurd (let e : Err (refusal.BadLine n) ≡ Ok k = counts in cc)
    in_batch item.BatchEnd says counts = (
      streaming p ns (graph_after_all before us),
      ap (batch_judgement n p ns before us) says.1,
      record { mines = refl; knows = sym says.0; draws = refl; counts = ok_same None k counts },
    )
    in_batch (item.Update u) says counts =
        update_joins u (nat_lt (length us) most_batch_updates) (step (graph_after_all before us) u) refl refl says counts

-- what a line leads to whose item is counted
pub item-leads : (n : ℕ) (stage : Stage) (pattern : Pattern) (names later : Names) (g : Graph) (batch k : Option ℕ)
    (text : List ℕ) (what : Item) → IsAt stage pattern names g batch → Says names text what later →
    batch_after n g batch what ≡ Ok k → Leads n stage text pattern later g k what
item-leads n (heading next ns) pattern names later g batch k text what at says counts = absurd (not_heading pattern at.mines)
item-leads n (streaming p ns h) pattern names later g batch k text what at says counts =
    let same : p ≡ pattern = let e : Some p ≡ Some pattern = at.mines in cc in
    let said = subst (λ ns. Says ns text what later) (sym at.knows) says in
    let counted = subst (λ b. batch_after n h b what ≡ Ok k) (sym at.counts)
    (subst (λ g. batch_after n g batch what ≡ Ok k) (sym at.draws) counts) in
    subst (λ p2. Leads n (streaming p ns h) text p2 later g k what) same
    (subst (λ g2. Leads n (streaming p ns h) text p later g2 k what) at.draws (in_stream n p ns later k text h what said counted))
item-leads n (batching p ns before us) pattern names later g batch k text what at says counts =
    let same : p ≡ pattern = let e : Some p ≡ Some pattern = at.mines in cc in
    let said = subst (λ ns. Says ns text what later) (sym at.knows) says in
    let counted = subst (λ b. batch_after n (graph_after_all before us) b what ≡ Ok k) (sym at.counts)
    (subst (λ g. batch_after n g batch what ≡ Ok k) (sym at.draws) counts) in
    subst (λ p2. Leads n (batching p ns before us) text p2 later g k what) same
    (subst (λ g2. Leads n (batching p ns before us) text p later g2 k what) at.draws
    (in_batch n p ns later k text before us what said counted))

-- ---- an item that is refused

module _ (n : ℕ) (p : Pattern) (ns later : Names) (why : JobRefusal) (text : List ℕ) where
  alone_refused : (h : Graph) (u : Update) (stepped : Result Graph Refusal) → step h u ≡ stepped →
      content_of_line ns text ≡ update u later → batch_if_accepted n stepped (Ok None) ≡ Err why →
      text_judgement n (streaming p ns h) text ≡ refused why
  alone_refused h u (Ok after) is says counts = absurd (let e : Ok None ≡ Err why = counts in cc)
  alone_refused h u (Err w) is says counts =
      ap (content_judgement n p ns h) says ∙ ap (step_judgement n p later u) is
      ∙ ap refused (err_same (refusal.Update n w) why counts)

  stream_refused : (h : Graph) (what : Item) → Says ns text what later → batch_after n h None what ≡ Err why →
      text_judgement n (streaming p ns h) text ≡ refused why
  stream_refused h item.Nothing says counts = absurd (let e : Ok None ≡ Err why = counts in cc)
  stream_refused h item.Commit says counts = absurd (let e : Ok None ≡ Err why = counts in cc)
  stream_refused h item.BatchBegin says counts = absurd (let e : Ok (Some 0) ≡ Err why = counts in cc)
  stream_refused h item.BatchEnd says counts =
      ap (content_judgement n p ns h) says.1 ∙ ap refused (err_same (refusal.BadLine n) why counts)
  stream_refused h (item.Update u) says counts = alone_refused h u (step h u) refl says counts

  module _ (before : Graph) (us : Group) where
    join_refused : (u : Update) (b : Bool) (stepped : Result Graph Refusal) →
        nat_lt (length us) most_batch_updates ≡ b → step (graph_after_all before us) u ≡ stepped →
        content_of_line ns text ≡ update u later →
        batch_if_accepted n stepped (cond b (Ok (Some (length us + 1))) (Err (refusal.Batch n))) ≡ Err why →
        text_judgement n (batching p ns before us) text ≡ refused why
    join_refused u true (Ok after) room is says counts =
        absurd (let e : Ok (Some (length us + 1)) ≡ Err why = counts in cc)
    join_refused u true (Err w) room is says counts =
        ap (batch_judgement n p ns before us) says
        ∙ ap (λ b. cond b (join_judgement n p later before us u (step (graph_after_all before us) u)) (refused (refusal.Batch n))) room
        ∙ ap (join_judgement n p later before us u) is
        ∙ ap refused (err_same (refusal.Update n w) why counts)
    join_refused u false stepped room is says counts =
        ap (batch_judgement n p ns before us) says
        ∙ ap (λ b. cond b (join_judgement n p later before us u (step (graph_after_all before us) u)) (refused (refusal.Batch n))) room
        ∙ ap refused (err_same (refusal.Batch n) why (full stepped counts))
      where
        full : (stepped : Result Graph Refusal) → batch_if_accepted n stepped (Err (refusal.Batch n)) ≡ Err why →
            counted_err (refusal.Batch n) ≡ Err why
        full (Ok after) e = e
        full (Err w) e = e

    batch_refused : (what : Item) → Says ns text what later →
        batch_after n (graph_after_all before us) (Some (length us)) what ≡ Err why →
        text_judgement n (batching p ns before us) text ≡ refused why
    batch_refused item.Nothing says counts = absurd (let e : Ok (Some (length us)) ≡ Err why = counts in cc)
    batch_refused item.Commit says counts =
        ap (batch_judgement n p ns before us) says.1 ∙ ap refused (err_same (refusal.BadLine n) why counts)
    batch_refused item.BatchBegin says counts =
        ap (batch_judgement n p ns before us) says.1 ∙ ap refused (err_same (refusal.BadLine n) why counts)
    batch_refused item.BatchEnd says counts = absurd (let e : Ok None ≡ Err why = counts in cc)
    batch_refused (item.Update u) says counts =
        join_refused u (nat_lt (length us) most_batch_updates) (step (graph_after_all before us) u) refl refl says counts

-- a line is refused whose item is
pub item-refused : (n : ℕ) (stage : Stage) (pattern : Pattern) (names later : Names) (g : Graph) (batch : Option ℕ)
    (text : List ℕ) (what : Item) (why : JobRefusal) → IsAt stage pattern names g batch → Says names text what later →
    batch_after n g batch what ≡ Err why → text_judgement n stage text ≡ refused why
item-refused n (heading next ns) pattern names later g batch text what why at says counts = absurd (not_heading pattern at.mines)
item-refused n (streaming p ns h) pattern names later g batch text what why at says counts =
    stream_refused n p ns later why text h what (subst (λ ns. Says ns text what later) (sym at.knows) says)
    (subst (λ b. batch_after n h b what ≡ Err why) (sym at.counts)
    (subst (λ g. batch_after n g batch what ≡ Err why) (sym at.draws) counts))
item-refused n (batching p ns before us) pattern names later g batch text what why at says counts =
    batch_refused n p ns later why text before us what (subst (λ ns. Says ns text what later) (sym at.knows) says)
    (subst (λ b. batch_after n (graph_after_all before us) b what ≡ Err why) (sym at.counts)
    (subst (λ g. batch_after n g batch what ≡ Err why) (sym at.draws) counts))

-- ---- a line that says nothing that counts

module _ (n : ℕ) (pattern : Pattern) (names : Names) (g : Graph) (batch : Option ℕ) (text : List ℕ) where
  pub bad_line-refused : (stage : Stage) → IsAt stage pattern names g batch → content_of_line names text ≡ bad_line →
      text_judgement n stage text ≡ refused (refusal.BadLine n)
  bad_line-refused (heading next ns) at says = absurd (not_heading pattern at.mines)
  bad_line-refused (streaming p ns h) at says =
      ap (content_judgement n p ns h) (ap (λ ns. content_of_line ns text) at.knows ∙ says)
  bad_line-refused (batching p ns before us) at says =
      ap (batch_judgement n p ns before us) (ap (λ ns. content_of_line ns text) at.knows ∙ says)

  pub labels-refused : (stage : Stage) → IsAt stage pattern names g batch →
      content_of_line names text ≡ too_many_labels → text_judgement n stage text ≡ refused (refusal.Labels n)
  labels-refused (heading next ns) at says = absurd (not_heading pattern at.mines)
  labels-refused (streaming p ns h) at says =
      ap (content_judgement n p ns h) (ap (λ ns. content_of_line ns text) at.knows ∙ says)
  labels-refused (batching p ns before us) at says =
      ap (batch_judgement n p ns before us) (ap (λ ns. content_of_line ns text) at.knows ∙ says)

-- what is read leaves the names that the line says
pub names-learnt : (old new : Names) (content : LineContent) (what : Item) → AnswersContent old content (Ok what) new →
    new ≡ names_with old content
names-learnt old new content item.Nothing says = says.0 ∙ sym (ap (names_with old) says.1)
names-learnt old new content item.Commit says = says.0 ∙ sym (ap (names_with old) says.1)
names-learnt old new content item.BatchBegin says = says.0 ∙ sym (ap (names_with old) says.1)
names-learnt old new content item.BatchEnd says = says.0 ∙ sym (ap (names_with old) says.1)
names-learnt old new content (item.Update u) says = sym (ap (names_with old) says)
