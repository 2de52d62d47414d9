-- The text that lines lead to.
use Rattle.std.proofs.Common.{◌≡◌, ℕ, suc, inl, inr, Bool, true, false, cond, List, [], ◌∷◌, ◌++◌, Option, Some, Result, Ok, Err, length, refl, sym, ap, ◌∙◌, subst, append_assoc}
use Rattle.std.specs.Prelude.{filter, IsOk}
use Rattle.std.proofs.lemmas.Bool.{false≢true, true≢false}
use Rattle.graph_types.specs.meaning.Piece.{PieceValue, members_of_all}
use Rattle.job_io.specs.calls.Ends.{Gathers}
use Rattle.job_io.specs.meaning.Lines.{Line, lines_of, whole_lines_of, without_cr}
use Rattle.job_io.proofs.LinesOf.{lf_or_none, lines_of-whole, whole_lines_of-none}
use Rattle.record_text.specs.declared.read.RecordLine.{RecordLine}
use Rattle.record_text.specs.declared.read.RecordLine.TheVariants.{Done}
use Rattle.record_text.specs.meaning.Grammar.{record_of}
use Rattle.record_text.specs.meaning.Text.{delta_text, done_text}
use Rattle.snapshot_fold.specs.declared.fault.FoldRefusal.{FoldRefusal}
use Rattle.snapshot_fold.specs.declared.folding.FoldStop.{FoldStop}
use Rattle.snapshot_fold.specs.meaning.FoldState.{FoldState, empty_fold}
use Rattle.snapshot_fold.specs.meaning.Folding.{state_after_one_line, state_or_stop}
use Rattle.snapshot_fold.specs.meaning.Taking.{state_after_record}
use Rattle.record_migration.specs.calls.Turns.{closing_text, line_adds}
use Rattle.record_migration.specs.meaning.Migrated.{added_text, block_text, migrated_from, migrated_text, unless_refused}

-- the text of more lines begins with that of fewer
migrated_from-more : (most n : ℕ) (s : FoldState) (lines more : List Line) →
    (rest : List ℕ) × (migrated_from most n s (lines ++ more) ≡ migrated_from most n s lines ++ rest)
migrated_from-more most n s [] more = (migrated_from most n s more, refl)
migrated_from-more most n s (line ∷ lines) more =
    let added = added_text s (record_of (without_cr line.bytes)) in
    elim (state_after_one_line most (suc n) s line) as (λ r. (rest : List ℕ) × (unless_refused r (λ b. added ++ migrated_from most (suc n) b (lines ++ more)) ≡ unless_refused r (λ b. added ++ migrated_from most (suc n) b lines) ++ rest)) [
      | Ok behind ↦
          let later = migrated_from-more most (suc n) behind lines more in
          (later.0, ap (λ t. added ++ t) later.1 ∙ sym (append_assoc added (migrated_from most (suc n) behind lines) later.0))
      | Err why ↦ ([], refl)
    ]

pub migrated_text-more : (most : ℕ) (lines more : List Line) → (rest : List ℕ) × (migrated_text most (lines ++ more) ≡ migrated_text most lines ++ rest)
migrated_text-more most lines more =
    let later = migrated_from-more most 0 empty_fold lines more in (later.0, ap (λ t. migrated_text most [] ++ t) later.1)

-- a first line adds its own text, and then others follow, if it is not refused
pub adds_first : {E : Type 0} (r : Result FoldState E) (added : List ℕ) (later : FoldState → List ℕ) →
    (rest : List ℕ) × (unless_refused r (λ b. added ++ later b) ≡ unless_refused r (λ b. added) ++ rest)
adds_first (Ok behind) added later = (later behind, refl)
adds_first (Err why) added later = ([], refl)

-- the first line of a text is the first of the whole lines
pub first_of_whole : (text : List ℕ) (line : Line) (rest : List Line) → lines_of text ≡ line ∷ rest → line.whole ≡ true → whole_lines_of text ≡ line ∷ filter (λ l. l.whole) rest
first_of_whole text line rest first whole =
    ap (filter (λ l. l.whole)) first ∙ ap (λ b. cond b (line ∷ filter (λ l. l.whole) rest) (filter (λ l. l.whole) rest)) whole

-- a text whose first line no LF ends has no whole line
pub none_whole : (text : List ℕ) (line : Line) (rest : List Line) → lines_of text ≡ line ∷ rest → line.whole ≡ false → whole_lines_of text ≡ []
none_whole text line rest first torn =
    elim (lf_or_none text) [
      | inl found ↦
          let both : record { bytes = found.line; whole = true } ∷ lines_of found.rest ≡ line ∷ rest = sym (lines_of-whole found.line found.rest found.no_lf) ∙ ap lines_of (sym found.split) ∙ first in
          let same : record { bytes = found.line; whole = true } ≡ line = cc in
          absurd (true≢false (ap (λ (l : Line). l.whole) same ∙ torn))
      | inr no_lf ↦ whole_lines_of-none text no_lf
    ]

-- where the next line is refused, nothing more is added
pub nothing_added : (most n : ℕ) (s : FoldState) (text : List ℕ) (line : Line) (rest : List Line) (why : FoldStop) → lines_of text ≡ line ∷ rest →
    state_after_one_line most (suc n) s line ≡ Err why → migrated_from most n s (whole_lines_of text) ≡ []
nothing_added most n s text line rest why first refused =
    let others = filter (λ (l : Line). l.whole) rest in
    let by_whole : (w : Bool) → line.whole ≡ w → migrated_from most n s (whole_lines_of text) ≡ [] = elim [
      | true ↦ λ whole.
          ap (migrated_from most n s) (first_of_whole text line rest first whole)
          ∙ ap (λ r. unless_refused r (λ b. added_text s (record_of (without_cr line.bytes)) ++ migrated_from most (suc n) b others)) refused
      | false ↦ λ torn. ap (migrated_from most n s) (none_whole text line rest first torn)
    ] in
    by_whole line.whole refl

-- ---- what one record adds

-- texts that are equal are passed on alike
pub Gathers-as : {T E : Type 0} {old new : Option (List ℕ)} {held holds text other : List ℕ} {result : Result T E} → text ≡ other → Gathers old held new holds text result → Gathers old held new holds other result
Gathers-as {old = old} {new = new} {held = held} {holds = holds} {result = result} same gathers = subst (λ t. Gathers old held new holds t result) same gathers

-- a block, as it is written
pub block_is : (s : FoldState) (t n : ℕ) (went came : List PieceValue) → went ≡ s.went → came ≡ s.came → n ≡ length s.held →
    delta_text t (members_of_all went) (members_of_all came) ++ done_text t (Some n) ≡ block_text s t
block_is s t n went came went_is came_is n_is =
    (λ i. delta_text t (members_of_all (went_is i)) (members_of_all (came_is i)) ++ done_text t (Some (n_is i)))

closes_as : (s : FoldState) (t : ℕ) (count : Option ℕ) (r : Result FoldState FoldRefusal) → IsOk r → unless_refused r (λ b. block_text s t) ≡ block_text s t
closes_as s t count (Ok b) ok = refl
closes_as s t count (Err why) ok = absurd (false≢true ok)

-- a line that closes a timestamp adds its block
pub closes_block : (s : FoldState) (t : ℕ) (count : Option ℕ) → IsOk (state_after_record s (Done t count)) → closing_text s (Done t count) ≡ block_text s t
closes_block s t count ok = closes_as s t count (state_after_record s (Done t count)) ok

-- a line that is refused adds nothing
pub closes_refused : (s : FoldState) (said : RecordLine) (why : FoldRefusal) → state_after_record s said ≡ Err why → closing_text s said ≡ []
closes_refused s said why refused = ap (λ r. unless_refused r (λ b. added_text s (Some said))) refused

none_added : {E : Type 0} (r : Result FoldState E) → unless_refused r (λ b. []) ≡ []
none_added (Ok b) = refl
none_added (Err why) = refl

pub closes_nothing : (s : FoldState) (said : RecordLine) → added_text s (Some said) ≡ [] → closing_text s said ≡ []
closes_nothing s said none = ap (λ t. unless_refused (state_after_record s said) (λ b. t)) none ∙ none_added (state_after_record s said)

at_line : (n : ℕ) (r : Result FoldState FoldRefusal) (t : List ℕ) → unless_refused (state_or_stop n r) (λ b. t) ≡ unless_refused r (λ b. t)
at_line n (Ok b) t = refl
at_line n (Err why) t = refl

-- a line adds what its record does
pub line_adds-said : (n : ℕ) (s : FoldState) (said : RecordLine) → line_adds n s (Some said) ≡ closing_text s said
line_adds-said n s said = at_line n (state_after_record s said) (added_text s (Some said))
