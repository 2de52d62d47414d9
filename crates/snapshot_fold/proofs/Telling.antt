-- What the text of a history tells, and each part that it begins with.
use Rattle.std.proofs.Common.{◌≡◌, ℕ, zero, suc, ◌≤◌, ⊎_elim, cond, IsTrue, List, [], ◌∷◌, ◌++◌, length, map, Option, None, Some, refl, sym, ap, subst, ◌∙◌, arith, append_assoc, append-nil}
use Rattle.std.specs.List.{AllByRecursion}
use Rattle.std.specs.Option.{is_some}
use Rattle.std.proofs.lemmas.Bool.{cases_eq, false≢true, ne_eqb}
use Rattle.std.proofs.lemmas.List.{map-append}
use Rattle.graph_types.specs.declared.ids.Mode.{Mode}
use Rattle.graph_types.specs.meaning.Graph.{Graph}
use Rattle.graph_types.specs.meaning.Piece.{PieceValue, most_members}
use Rattle.job_io.specs.meaning.Lines.{Line, whole_lines_of}
use Rattle.mining_model.specs.meaning.Embeddings.{Pattern, embeddings}
use Rattle.mining_model.specs.meaning.History.{graph_at}
use Rattle.mining_model.proofs.Histories.{each-graph_at}
use Rattle.record_text.specs.declared.record_format.RecordFormat.{RecordFormat}
use Rattle.record_text.specs.declared.record_format.RecordFormat.TheVariants.{One, Two}
use Rattle.record_text.specs.meaning.Text.{count_after, count_at, history_text, opening_text, step_text, text_at, text_upto, total_at}
use Rattle.record_text.specs.meaning.Writable.{IsCount, IsStamp, IsWritable}
use Rattle.record_text.proofs.Texts.{count_after-in, text_upto-more}
use Rattle.snapshot_fold.specs.meaning.Accepted.{IsAccepted, TellsHistory, said_by, state_after_lines}
use Rattle.snapshot_fold.specs.meaning.FoldState.{FoldState, empty_fold}
use Rattle.snapshot_fold.specs.meaning.FoldText.{fold_text, pieces_where_done}
use Rattle.snapshot_fold.specs.meaning.Records.{IsRecordable, IsTellable, history_records, opening_records, pieces_of, records_upto, step_records}
use Rattle.snapshot_fold.proofs.Accepting.{IsAt, Leads, leads-append, state_after_lines-said, state_after_said, timestamp_taken}
use Rattle.snapshot_fold.proofs.Embedded.{piece_of, writable-embeddings}
use Rattle.snapshot_fold.proofs.Prefixes.{SayDone-told, fold_text-more, settles, state_after_lines-front, told-SayDone, told-within, whole_lines_of-more}
use Rattle.snapshot_fold.proofs.Saying.{said_by-head, said_by-step}
use Rattle.snapshot_fold.proofs.Totals.{total_after-embeddings}

some_of : {A : Type 0} (o : Option A) → IsTrue (is_some o) → (a : A) × (o ≡ Some a)
some_of None is = absurd (false≢true is)
some_of (Some a) is = (a, refl)

-- a timestamp is looked for in the lines
fold_text-late : (text : List ℕ) (t : ℕ) → 1 ≤ t → fold_text text t ≡ pieces_where_done empty_fold (whole_lines_of text) t
fold_text-late text t some = ap (λ b. cond b (Some []) (pieces_where_done empty_fold (whole_lines_of text) t)) (ne_eqb t 0 (λ e. omega (arith, e, some)))

-- the total counts the embeddings
pub total_at-embeddings : (pattern : Pattern) (first : Graph) (later : List Graph) (t : ℕ) → embeddings pattern first ≡ [] →
    total_at pattern first later t ≡ length (embeddings pattern (graph_at first later t))
total_at-embeddings pattern first later zero none = ap length (sym none)
total_at-embeddings pattern first later (suc t) none =
    total_after-embeddings pattern (graph_at first later t) (graph_at first later (suc t)) (total_at pattern first later t)
    (total_at-embeddings pattern first later t none)

-- what is said before the first timestamp, and after it
said_by-opening : (format : RecordFormat) (rest : List ℕ) → said_by (opening_text format ++ rest) ≡ map Some (opening_records format) ++ said_by rest
said_by-opening One rest = refl
said_by-opening Two rest = said_by-head rest

opening_leads : (format : RecordFormat) (kind : Mode) → Leads empty_fold (opening_records format) (λ next. IsAt next format kind 0 [])
opening_leads One kind = record {
  next = empty_fold;
  so = record {
    within = record { reads = refl; alike = λ _. refl; done = refl; held_is = refl; went_is = refl; came_is = refl };
    settled_is = refl;
  };
  led = λ more. refl;
}
opening_leads Two kind = record {
  next = record empty_fold { format = Some Two };
  so = record {
    within = record { reads = refl; alike = λ _. refl; done = refl; held_is = refl; went_is = refl; came_is = refl };
    settled_is = refl;
  };
  led = λ more. refl;
}

module _ (format : RecordFormat) (pattern : Pattern) (first : Graph) (later : List Graph) (m : ℕ) (can : IsTellable format pattern first later m) where
  abbrev pieces_at : ℕ → List PieceValue
  pieces_at t = pieces_of pattern.mode (embeddings pattern (graph_at first later t))

  abbrev CanBeWritten : Graph → Type 0
  CanBeWritten g = AllByRecursion (λ members. IsWritable (piece_of pattern.mode members)) (embeddings pattern g)

  pub can_at : (t : ℕ) → CanBeWritten (graph_at first later t)
  can_at t =
      each-graph_at CanBeWritten first later t (subst (AllByRecursion (λ members. IsWritable (piece_of pattern.mode members))) (sym can.nothing_first) tt)
      (λ k d within. writable-embeddings pattern _ can.small (can.recordable k d within))

  few_at : (t : ℕ) → suc t ≤ m → IsCount (count_after pattern (graph_at first later t) (graph_at first later (suc t)) (count_at format pattern first later t))
  few_at t within =
      subst IsCount (sym (count_after-in format pattern (graph_at first later t) (graph_at first later (suc t)) (total_at pattern first later t))) (can.few (suc t) within)

  -- what the text of the first t timestamps says, and what is said after it
  said_upto : (t : ℕ) → t ≤ m → (rest : List ℕ) →
      said_by (text_upto format pattern first later t ++ rest) ≡ map Some (records_upto format pattern first later t) ++ said_by rest
  said_upto zero within rest = refl
  said_upto (suc t) within rest =
      let before = graph_at first later t in
      let now = graph_at first later (suc t) in
      let count = count_at format pattern first later t in
      let records = records_upto format pattern first later t in
      let more = step_records count pattern before now (suc t) in
      ap said_by (append_assoc (text_upto format pattern first later t) (text_at format pattern first later (suc t)) rest)
      ∙ said_upto t (omega (arith, within)) (text_at format pattern first later (suc t) ++ rest)
      ∙ ap (λ said. map Some records ++ said) (said_by-step count pattern before now (suc t) (omega (arith, within, can.fits)) (few_at t within) (can_at t) (can_at (suc t)) rest)
      ∙ sym (append_assoc (map Some records) (map Some more) (said_by rest))
      ∙ ap (λ said. said ++ said_by rest) (sym (map-append Some records more))

  -- the lines of a history say its records
  pub history_text-says : (t : ℕ) → t ≤ m → said_by (history_text format pattern first later t) ≡ map Some (history_records format pattern first later t)
  history_text-says t within =
      let upto = text_upto format pattern first later t in
      ap (λ text. said_by (opening_text format ++ text)) (sym (append-nil upto))
      ∙ said_by-opening format (upto ++ [])
      ∙ ap (λ said. map Some (opening_records format) ++ said) (said_upto t within [] ∙ append-nil (map Some (records_upto format pattern first later t)))
      ∙ sym (map-append Some (opening_records format) (records_upto format pattern first later t))

  -- the records of t timestamps lead to the pieces of the last
  leads_from : (s : FoldState) → IsAt s format pattern.mode 0 [] → (t : ℕ) → Leads s (records_upto format pattern first later t) (λ next. IsAt next format pattern.mode t (pieces_at t))
  leads_from s is zero = record {
    next = s;
    so = subst (λ lists. IsAt s format pattern.mode 0 (pieces_of pattern.mode lists)) (sym can.nothing_first) is;
    led = λ more. refl;
  }
  leads_from s is (suc t) =
      let before = graph_at first later t in
      let now = graph_at first later (suc t) in
      let total = total_at pattern first later t in
      leads-append s (records_upto format pattern first later t) (step_records (count_at format pattern first later t) pattern before now (suc t))
      (leads_from s is t) (λ s is. timestamp_taken format pattern before now t s is total (total_at-embeddings pattern first later t can.nothing_first))

  pub leads_upto : (t : ℕ) → Leads empty_fold (history_records format pattern first later t) (λ next. IsAt next format pattern.mode t (pieces_at t))
  leads_upto t = leads-append empty_fold (opening_records format) (records_upto format pattern first later t) (opening_leads format pattern.mode) (λ s is. leads_from s is t)

  -- each whole line of the first t timestamps is taken
  accepted_upto : (t : ℕ) → t ≤ m → state_after_lines empty_fold (whole_lines_of (history_text format pattern first later t)) ≡ Some (leads_upto t).next
  accepted_upto t within =
      let text = history_text format pattern first later t in
      state_after_lines-said empty_fold (whole_lines_of text)
      ∙ ap (state_after_said empty_fold) (history_text-says t within ∙ sym (append-nil (map Some (history_records format pattern first later t))))
      ∙ (leads_upto t).led []

  pub history_text-accepted : IsAccepted (history_text format pattern first later m) m
  history_text-accepted =
      let leads = leads_upto m in
      record { end = leads.next; accepted = accepted_upto m (omega arith); done_is = leads.so.within.done }

  told_last : (t : ℕ) → t ≤ m → fold_text (history_text format pattern first later t) t ≡ Some (pieces_at t)
  told_last zero within = ap (λ lists. Some (pieces_of pattern.mode lists)) (sym can.nothing_first)
  told_last (suc t) within =
      let text = history_text format pattern first later (suc t) in
      let leads = leads_upto (suc t) in
      fold_text-late text (suc t) (omega arith)
      ∙ ⊎_elim
      (λ none. absurd (omega (arith, none.0, leads.so.within.done)))
      (λ some.
      ap (pieces_where_done empty_fold (whole_lines_of text)) (sym leads.so.within.done) ∙ some.1 ∙ ap Some leads.so.settled_is)
      (settles empty_fold leads.next (whole_lines_of text) (accepted_upto (suc t) within))

  pub fold_text-history : (t : ℕ) → t ≤ m → fold_text (history_text format pattern first later m) t ≡ Some (pieces_at t)
  fold_text-history t within =
      let longer = text_upto-more format pattern first later t m within in
      ap (λ text. fold_text text t)
      (ap (λ text. opening_text format ++ text) (sym longer.1) ∙ sym (append_assoc (opening_text format) (text_upto format pattern first later t) longer.0))
      ∙ fold_text-more (history_text format pattern first later t) longer.0 t (pieces_at t) (told_last t within)

  module _ (written more : List ℕ) (split : written ++ more ≡ history_text format pattern first later m) where
    abbrev lines : List Line
    lines = whole_lines_of written

    abbrev all_lines : List Line
    all_lines = whole_lines_of (history_text format pattern first later m)

    -- each whole line before the cut is taken too
    accepted_part : (end : FoldState) × (state_after_lines empty_fold lines ≡ Some end)
    accepted_part =
        let others = whole_lines_of-more written more in
        state_after_lines-front empty_fold history_text-accepted.end lines others.0
        (ap (state_after_lines empty_fold) (sym others.1 ∙ ap whole_lines_of split) ∙ history_text-accepted.accepted)

    told_of_all : (t : ℕ) (pieces : List PieceValue) → fold_text written t ≡ Some pieces → fold_text (history_text format pattern first later m) t ≡ Some pieces
    told_of_all t pieces told = ap (λ text. fold_text text t) (sym split) ∙ fold_text-more written more t pieces told

    within_history : (t : ℕ) (pieces : List PieceValue) → fold_text written t ≡ Some pieces → t ≤ m
    within_history t pieces told =
        ⊎_elim
        (λ none. omega (arith, none))
        (λ other.
        let within =
        told-within empty_fold history_text-accepted.end all_lines t pieces history_text-accepted.accepted
        (sym (fold_text-late (history_text format pattern first later m) t (omega (arith, other))) ∙ told_of_all t pieces told) in
        omega (arith, within, history_text-accepted.done_is))
        (cases_eq t 0)

    pub history_text-tells : TellsHistory pattern first later m written
    history_text-tells = record {
      exact = λ t pieces told.
          let within = within_history t pieces told in
          let both : ◌≡◌ {A = Option (List PieceValue)} (Some pieces) (Some (pieces_at t)) = sym (told_of_all t pieces told) ∙ fold_text-history t within in
          let same : pieces ≡ pieces_at t = cc in (within, same);
      where_done = λ t some. (
        λ is.
            let told = some_of (fold_text written t) is in
            told-SayDone empty_fold lines t told.0 (λ none. omega (arith, none, some)) (sym (fold_text-late written t some) ∙ told.1),
        λ say. ap is_some (fold_text-late written t some) ∙ SayDone-told empty_fold accepted_part.0 lines t accepted_part.1 say,
      );
    }

-- the text of a timestamp says its records
pub step_text-says : (count : Option ℕ) (pattern : Pattern) (before now : Graph) (t : ℕ) → pattern.size ≤ most_members → IsRecordable before → IsRecordable now → IsStamp t →
    IsCount (count_after pattern before now count) → said_by (step_text count pattern before now t) ≡ map Some (step_records count pattern before now t)
step_text-says count pattern before now t small can_before can_now fits few =
    ap said_by (sym (append-nil (step_text count pattern before now t)))
    ∙ said_by-step count pattern before now t fits few (writable-embeddings pattern before small can_before) (writable-embeddings pattern now small can_now) []
    ∙ append-nil (map Some (step_records count pattern before now t))
