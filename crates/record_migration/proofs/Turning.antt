-- A migration goes from line to line, and ends.
use Rattle.std.proofs.Common.{◌≡◌, ◌≢◌, ℕ, suc, ◌≤◌, inl, inr, Bool, true, false, ◌&&◌, IsTrue, List, [], ◌∷◌, ◌++◌, length, Option, None, Some, Result, Ok, Err, refl, sym, ap, ◌∙◌, subst, arith, append_assoc, append-nil}
use Rattle.std.specs.Prelude.{filter, IfOk, MatchOption}
use Rattle.std.specs.Io.KnownBytes.{Appends}
use Rattle.std.proofs.lemmas.List.{append_cancel_right, take_all}
use Rattle.job_io.specs.calls.Ends.{AppendsPrefix, BothKnown, Gathers, PassesOn}
use Rattle.job_io.specs.calls.Reading.{ReadsNext}
use Rattle.job_io.specs.declared.ends.WriteFault.{WriteFault}
use Rattle.job_io.specs.declared.line_reader.LineFault.{LineFault}
use Rattle.job_io.specs.declared.line_reader.LineFault.TheVariants as line
use Rattle.job_io.specs.meaning.Lines.{Line, Reading, GivesLine, StopsInLine, lines_of, whole_lines_of, without_cr, line_text}
use Rattle.job_io.proofs.Gathering.{Appends-then, AppendsFront-more, AppendsFront-then, PassesOn-then}
use Rattle.job_io.proofs.Known.{BothKnown-map, BothKnown-same, BothKnown-then}
use Rattle.job_io.proofs.LinesOf.{some_line, whole_lines_of-none}
use Rattle.record_text.specs.declared.read.RecordLine.{RecordLine}
use Rattle.record_text.specs.meaning.Grammar.{record_of}
use Rattle.record_text.specs.meaning.Text.{head_text}
use Rattle.snapshot_fold.specs.declared.folding.FoldStop.{FoldStop}
use Rattle.snapshot_fold.specs.declared.folding.FoldStop.TheVariants as stop
use Rattle.snapshot_fold.specs.calls.Folds.{FoldsRecords, IsUnended}
use Rattle.snapshot_fold.specs.calls.Reading.{IsStopOf, LeadsOn, TakesLine, stop_of}
use Rattle.snapshot_fold.specs.meaning.FoldState.{FoldState, empty_fold}
use Rattle.snapshot_fold.specs.meaning.Folding.{state_after_content, state_after_one_line}
use Rattle.snapshot_fold.proofs.Going.{Stands-ends, Stands-next, Stands-start, Stands-stops, first_whole}
use Rattle.snapshot_fold.proofs.Judging.{one_line-long, one_line-many}
use Rattle.snapshot_fold.proofs.Prefixes.{whole_lines_of-more}
use Rattle.snapshot_fold.proofs.Taken.{GivesNext, Takes-fault, Takes-line, Takes-stop, says}
use Rattle.record_migration.specs.declared.migrate.MigrationStop.{MigrationStop}
use Rattle.record_migration.specs.declared.migrate.MigrationStop.TheVariants.{Stopped}
use Rattle.record_migration.specs.declared.migrate.Turn.{Turn}
use Rattle.record_migration.specs.declared.migrate.Turn.TheVariants.{More, End}
use Rattle.record_migration.specs.calls.Migrates.{Migrates, WritesMigrated}
use Rattle.record_migration.specs.calls.Turns.{AtBlock, BeginsText, HasMigrated, IsMigrating, IsOfTaken, LeadsTo, TakesSaid, Turns, line_adds}
use Rattle.record_migration.specs.meaning.Migrated.{added_text, migrated_from, migrated_text, unless_refused}
use Rattle.record_migration.proofs.Blocks.{adds_first, first_of_whole, migrated_text-more, none_whole, nothing_added}

BothKnown-both : (P Q : List ℕ → List ℕ → Type 0) (old new : Option (List ℕ)) → BothKnown old new P → BothKnown old new Q → BothKnown old new (λ bytes is. P bytes is × Q bytes is)
BothKnown-both P Q None new p q = tt
BothKnown-both P Q (Some was) None p q = absurd p
BothKnown-both P Q (Some was) (Some is) p q = (p, q)

-- ---- before the first line

pub IsMigrating-start : {T E : Type 0} {v : T} (most : ℕ) (left written0 written : Option (List ℕ)) (fresh page : List ℕ) (reader : Reading) (s : FoldState) → fresh ≡ [] → s ≡ empty_fold →
    Gathers {T = T} {E = E} written0 fresh written page head_text (Ok v) →
    reader.line ≡ record { bytes = []; whole = true } → reader.number ≡ 0 → reader.most ≡ most → reader.live ≡ true → reader.held ≡ [] →
    IsMigrating most left left written0 written page reader s
IsMigrating-start most left written0 written fresh page reader s is_fresh begun gathers line none most_is live empty = record {
  stands = Stands-start most None left reader s begun line none most_is live empty;
  text = head_text;
  passed = subst (λ held. PassesOn written0 held written page head_text) is_fresh gathers.passed;
  known = BothKnown-same _ left (λ bytes. record {
    gone = [];
    given = [];
    split = ap (λ held. held ++ bytes) (sym empty);
    whole_lines = λ more. refl;
    told = λ lines. (λ i. head_text ++ migrated_from most (sym none i) (sym begun i) lines);
  });
}

-- ---- what all lines lead to

whole_is : (most : ℕ) (bytes is text : List ℕ) (reader : Reading) (s : FoldState) → AtBlock most bytes is text reader s →
    migrated_text most (whole_lines_of bytes) ≡ text ++ migrated_from most reader.number s (whole_lines_of (reader.held ++ is))
whole_is most bytes is text reader s at =
    ap (λ b. migrated_text most (whole_lines_of b)) at.split ∙ ap (migrated_text most) (at.whole_lines (reader.held ++ is))
    ∙ at.told (whole_lines_of (reader.held ++ is))

front_of : (old new : Option (List ℕ)) (text more whole : List ℕ) → whole ≡ text ++ more → AppendsPrefix old new text → AppendsPrefix old new whole
front_of old new text more whole is front = subst (AppendsPrefix old new) (sym is) (AppendsFront-more more front)

-- a prefix of what is held and of more was written
more_written : (written0 old new : Option (List ℕ)) (page text more : List ℕ) → PassesOn written0 [] old page text → AppendsPrefix old new (page ++ more) → AppendsPrefix written0 new (text ++ more)
more_written written0 old new page text more passed front = AppendsFront-then more passed front

module _ (most : ℕ) (left0 left written0 old new : Option (List ℕ)) (page : List ℕ) (reader : Reading) (s : FoldState)
    (goes : IsMigrating most left0 left written0 old page reader s) where
  -- the page was sent
  pub IsMigrating-sent : {T E : Type 0} {v : T} (holds : List ℕ) → Gathers {T = T} {E = E} old page new holds [] (Ok v) → IsMigrating most left0 left written0 new holds reader s
  IsMigrating-sent holds sent = record {
    stands = goes.stands;
    text = goes.text;
    passed = subst (PassesOn written0 [] new holds) (append-nil goes.text) (PassesOn-then goes.passed sent.passed);
    known = goes.known;
  }

  -- it could not be sent
  pub WritesMigrated-unsent : AppendsPrefix old new (page ++ []) → WritesMigrated most left0 left written0 new
  WritesMigrated-unsent front =
      let text = subst (AppendsPrefix written0 new) (append-nil goes.text) (more_written written0 old new page goes.text [] goes.passed front) in
      BothKnown-map _ _ left0 left goes.known
      (λ bytes is at. front_of written0 new goes.text _ (migrated_text most (whole_lines_of bytes)) (whole_is most bytes is goes.text reader s at) text)

-- ---- no line follows, or the next one could not be read

module _ (left0 left left' written0 written : Option (List ℕ)) (page : List ℕ) (old new : Reading) (s behind : FoldState)
    (goes : IsMigrating old.most left0 left written0 written page old s) where
  all_of : (bytes was : List ℕ) → AtBlock old.most bytes was goes.text old s → migrated_from old.most old.number s (whole_lines_of (old.held ++ was)) ≡ [] →
      migrated_text old.most (whole_lines_of bytes) ≡ goes.text
  all_of bytes was at nothing =
      whole_is old.most bytes was goes.text old s at ∙ ap (λ t. goes.text ++ t) nothing ∙ append-nil goes.text

  -- nothing more is added
  pub text_ends : BothKnown left left' (λ was is. migrated_from old.most old.number s (whole_lines_of (old.held ++ was)) ≡ []) →
      BothKnown left0 left' (λ bytes is. migrated_text old.most (whole_lines_of bytes) ≡ goes.text)
  text_ends nothing = BothKnown-then _ _ _ left0 left left' goes.known nothing (λ bytes was is at none. all_of bytes was at none)

  -- all lines are taken
  pub HasMigrated-all : TakesLine old new s s left left' (Ok false) → BothKnown left left' (λ was is. migrated_from old.most old.number s (whole_lines_of (old.held ++ was)) ≡ []) →
      HasMigrated old.most left0 left' written0 written page None
  HasMigrated-all ends nothing = record {
    text = goes.text;
    passed = goes.passed;
    leads =
        BothKnown-map _ _ left0 left'
        (BothKnown-both _ _ left0 left' (text_ends nothing) (Stands-ends old.most None left0 left left' old new s s refl goes.stands (Ok s.settled) ends (inl refl)))
        (λ bytes is both. record { text_is = both.0; pieces = s.settled; none_refused = both.1 });
  }

  -- memory ran out
  begins : BothKnown left0 left (λ bytes is. BeginsText old.most goes.text bytes)
  begins = BothKnown-map _ _ left0 left goes.known (λ bytes is at. record {
    more = migrated_from old.most old.number s (whole_lines_of (old.held ++ is));
    text_is = whole_is old.most bytes is goes.text old s at;
  })

  -- the source failed
  of_taken : (bytes was is : List ℕ) → AtBlock old.most bytes was goes.text old s → StopsInLine old new was is → IsUnended old.most None bytes is → IsOfTaken old.most goes.text bytes is
  of_taken bytes was is at stops un =
      let split : bytes ≡ (at.given ++ new.held) ++ is = at.split ∙ ap (λ xs. at.given ++ xs) stops.taken ∙ sym (append_assoc at.given new.held is) in
      let same : un.taken ≡ at.given ++ new.held = append_cancel_right un.taken (at.given ++ new.held) is (sym un.split ∙ split) in
      let lines : whole_lines_of un.taken ≡ at.gone ++ [] =
      ap whole_lines_of same ∙ at.whole_lines new.held ∙ ap (λ ls. at.gone ++ ls) (whole_lines_of-none new.held stops.no_line) in
      record {
        taken = un.taken;
        split = un.split;
        text_is = ap (migrated_text old.most) lines ∙ at.told [] ∙ append-nil goes.text;
        pieces = un.pieces;
        none_refused = un.none_refused;
      }

  of_accepted : (why : FoldStop) → BothKnown left0 left' (λ bytes is. migrated_text old.most (whole_lines_of bytes) ≡ goes.text) →
      FoldsRecords old.most None left0 left' (Err why) → (why ≢ stop.NoMemory) → (why ≢ stop.ReadFault) → LeadsTo old.most left0 left' goes.text (Some why)
  of_accepted stop.NoMemory text folds memory read = absurd (memory refl)
  of_accepted stop.ReadFault text folds memory read = absurd (read refl)
  of_accepted (stop.BadLine n) text folds memory read = BothKnown-map _ _ left0 left' (BothKnown-both _ _ left0 left' text folds) (λ bytes is both. record { text_is = both.0; first_refused = both.1 })
  of_accepted (stop.Refused n w) text folds memory read = BothKnown-map _ _ left0 left' (BothKnown-both _ _ left0 left' text folds) (λ bytes is both. record { text_is = both.0; first_refused = both.1 })
  of_accepted (stop.NotDone n) text folds memory read = BothKnown-map _ _ left0 left' (BothKnown-both _ _ left0 left' text folds) (λ bytes is both. record { text_is = both.0; first_refused = both.1 })
  of_accepted (stop.TooLong n) text folds memory read = BothKnown-map _ _ left0 left' (BothKnown-both _ _ left0 left' text folds) (λ bytes is both. record { text_is = both.0; first_refused = both.1 })
  of_accepted (stop.TooMany n) text folds memory read = BothKnown-map _ _ left0 left' (BothKnown-both _ _ left0 left' text folds) (λ bytes is both. record { text_is = both.0; first_refused = both.1 })

  -- the next line is refused
  pub HasMigrated-refused : (why : FoldStop) → TakesLine old new s behind left left' (Err why) → (why ≢ stop.NoMemory) → (why ≢ stop.ReadFault) →
      BothKnown left left' (λ was is. migrated_from old.most old.number s (whole_lines_of (old.held ++ was)) ≡ []) → HasMigrated old.most left0 left' written0 written page (Some why)
  HasMigrated-refused why takes memory read nothing = record {
    text = goes.text;
    passed = goes.passed;
    leads = of_accepted why (text_ends nothing) (Stands-stops old.most None left0 left left' old new s behind refl goes.stands why takes) memory read;
  }

  -- the reader gives no line
  pub HasMigrated-fault : (fault : LineFault) → ReadsNext old new left left' (Err fault) → HasMigrated old.most left0 left' written0 written page (Some (stop_of fault))
  HasMigrated-fault line.ReadFault nexts = record {
    text = goes.text;
    passed = goes.passed;
    leads =
        BothKnown-map _ _ left0 left'
        (BothKnown-both _ _ left0 left'
        (BothKnown-then _ _ (λ bytes is. (was : List ℕ) × AtBlock old.most bytes was goes.text old s × StopsInLine old new was is) left0 left left' goes.known nexts.0 (λ bytes was is at stops. (was, at, stops)))
        (Stands-stops old.most None left0 left left' old new s behind refl goes.stands stop.ReadFault (Takes-fault old new s behind left left' line.ReadFault nexts)))
        (λ bytes is both. of_taken bytes both.0.0 is both.0.1 both.0.2 both.1);
  }
  HasMigrated-fault (line.TooLong n) (next, few, known) =
      HasMigrated-refused (stop.TooLong n) (Takes-fault old new s behind left left' (line.TooLong n) (next, few, known)) (λ e. cc) (λ e. cc)
      (BothKnown-map _ _ left left' known (λ was is follows.
      nothing_added old.most old.number s (old.held ++ was) follows.0 follows.1 (stop.TooLong (suc old.number)) follows.2
      (one_line-long old.most (suc old.number) s follows.0 (omega (arith, next, few)) follows.3)))
  HasMigrated-fault (line.TooMany n) (next, all, known) =
      HasMigrated-refused (stop.TooMany n) (Takes-fault old new s behind left left' (line.TooMany n) (next, all, known)) (λ e. cc) (λ e. cc)
      (BothKnown-map _ _ left left' known (λ was is nonempty.
      let first = some_line (old.held ++ was) nonempty in
      nothing_added old.most old.number s (old.held ++ was) first.0 first.1 (stop.TooMany (suc old.number)) first.2
      (one_line-many old.most (suc old.number) s first.0 (omega (arith, all)))))

-- ---- no whole line follows

pub nothing_whole : (left left' : Option (List ℕ)) (old new : Reading) (s : FoldState) (given : Bool) → IsTrue old.line.whole → (given && new.line.whole) ≡ false → ReadsNext old new left left' (Ok given) →
    BothKnown left left' (λ was is. migrated_from old.most old.number s (whole_lines_of (old.held ++ was)) ≡ [])
nothing_whole left left' old new s true whole torn nexts =
    BothKnown-map _ _ left left' nexts (λ was is gives.
    ap (migrated_from old.most old.number s) (none_whole (old.held ++ was) new.line (lines_of (new.held ++ is)) gives.lines torn))
nothing_whole left left' old new s false whole torn nexts =
    BothKnown-map _ _ left left' nexts (λ was is ends.
    ap (λ text. migrated_from old.most old.number s (whole_lines_of text)) (ends.taken ∙ ends.ended whole))

-- ---- a whole line

module _ (left0 left left' written0 written written' : Option (List ℕ)) (page page' : List ℕ) (old new : Reading) (s behind : FoldState)
    (goes : IsMigrating old.most left0 left written0 written page old s) (next : GivesNext old new left left') (whole : new.line.whole ≡ true)
    (n : ℕ) (bytes : List ℕ) (n_is : n ≡ new.number) (bytes_is : bytes ≡ without_cr new.line.bytes) where
  abbrev said : Option RecordLine
  said = record_of bytes

  -- what the line comes to
  judged : state_after_one_line old.most (suc old.number) s new.line ≡ state_after_content n s said
  judged = says old new s behind left left' next whole n bytes n_is bytes_is

  -- the text from the line on
  from_line : (lines : List Line) → migrated_from old.most old.number s (new.line ∷ lines) ≡ unless_refused (state_after_content n s said) (λ b. added_text s said ++ migrated_from old.most (suc old.number) b lines)
  from_line lines =
      ap (λ r. unless_refused r (λ b. added_text s (record_of (without_cr new.line.bytes)) ++ migrated_from old.most (suc old.number) b lines)) judged
      ∙ ap (λ bs. unless_refused (state_after_content n s said) (λ b. added_text s (record_of bs) ++ migrated_from old.most (suc old.number) b lines)) (sym bytes_is)

  -- all that stands before what follows the line
  begins_with_line : BothKnown left0 left' (λ bytes is. BeginsText old.most (goes.text ++ line_adds n s said) bytes)
  begins_with_line = BothKnown-then _ _ _ left0 left left' goes.known next.gives (λ all was is at gives.
      let rest = filter (λ (l : Line). l.whole) (lines_of (new.held ++ is)) in
      let first = first_of_whole (old.held ++ was) new.line (lines_of (new.held ++ is)) gives.lines whole in
      let adds = adds_first (state_after_content n s said) (added_text s said) (λ b. migrated_from old.most (suc old.number) b rest) in
      record {
        more = adds.0;
        text_is =
            whole_is old.most all was goes.text old s at
            ∙ ap (λ t. goes.text ++ t) (ap (migrated_from old.most old.number s) first ∙ from_line rest ∙ adds.1)
            ∙ sym (append_assoc goes.text (line_adds n s said) adds.0);
      })

  -- what the line adds could not be written
  pub WritesMigrated-line : AppendsPrefix written written' (page ++ line_adds n s said) → WritesMigrated old.most left0 left' written0 written'
  WritesMigrated-line front =
      let text = more_written written0 written written' page goes.text (line_adds n s said) goes.passed front in
      BothKnown-map _ _ left0 left' begins_with_line (λ all is begin. front_of written0 written' _ begin.more (migrated_text old.most (whole_lines_of all)) begin.text_is text)

  module _ (passed : PassesOn written page written' page' (line_adds n s said)) where
    -- the line leads on
    leads_on : state_after_content n s said ≡ Ok behind → LeadsOn old new s behind
    leads_on led = (Takes-line old new s behind left left' next whole n bytes n_is bytes_is led).1

    at_next : (all was is text : List ℕ) → state_after_content n s said ≡ Ok behind → AtBlock old.most all was text old s → GivesLine old new was is →
        AtBlock old.most all is (text ++ line_adds n s said) new behind
    at_next all was is text led at gives =
        let counted : suc old.number ≡ new.number = omega (arith, next.counted) in
        let adds : line_adds n s said ≡ added_text s said = ap (λ r. unless_refused r (λ b. added_text s said)) led in
        record {
          gone = at.gone ++ new.line ∷ [];
          given = at.given ++ line_text new.line;
          split =
              at.split ∙ ap (λ xs. at.given ++ xs) gives.bytes
              ∙ sym (append_assoc at.given (line_text new.line) (new.held ++ is));
          whole_lines = λ more.
              ap whole_lines_of (append_assoc at.given (line_text new.line) more)
              ∙ at.whole_lines (line_text new.line ++ more)
              ∙ ap (λ lines. at.gone ++ lines) (first_whole new.line more whole next.fits.no_lf)
              ∙ sym (append_assoc at.gone (new.line ∷ []) (whole_lines_of more));
          told = λ lines.
              ap (migrated_text old.most) (append_assoc at.gone (new.line ∷ []) lines)
              ∙ at.told (new.line ∷ lines)
              ∙ ap (λ t. text ++ t)
              (from_line lines
              ∙ ap (λ r. unless_refused r (λ b. added_text s said ++ migrated_from old.most (suc old.number) b lines)) led
              ∙ (λ i. sym adds i ++ migrated_from old.most (counted i) behind lines))
              ∙ sym (append_assoc text (line_adds n s said) (migrated_from old.most new.number behind lines));
        }

    turns_more : state_after_content n s said ≡ Ok behind → IsMigrating old.most left0 left' written0 written' page' new behind
    turns_more led = record {
      stands = Stands-next old.most None left0 left left' old new s behind refl goes.stands next.gives (leads_on led);
      text = goes.text ++ line_adds n s said;
      passed = PassesOn-then goes.passed passed;
      known = BothKnown-then _ _ _ left0 left left' goes.known next.gives (λ all was is at gives. at_next all was is goes.text led at gives);
    }

    -- the line is refused
    turns_refused : (why : FoldStop) → state_after_content n s said ≡ Err why → (why ≢ stop.NoMemory) → (why ≢ stop.ReadFault) → HasMigrated old.most left0 left' written0 written' page' (Some why)
    turns_refused why refused memory read =
        let nothing : line_adds n s said ≡ [] = ap (λ r. unless_refused r (λ b. added_text s said)) refused in
        let at_sink : IsMigrating old.most left0 left written0 written' page' old s = record {
          stands = goes.stands;
          text = goes.text;
          passed = subst (PassesOn written0 [] written' page') (ap (λ t. goes.text ++ t) nothing ∙ append-nil goes.text) (PassesOn-then goes.passed passed);
          known = goes.known;
        } in
        HasMigrated-refused left0 left left' written0 written' page' old new s behind at_sink why
        (Takes-stop old new s behind left left' next whole n bytes n_is bytes_is why read (inl refused)) memory read
        (BothKnown-map _ _ left left' next.gives (λ was is gives.
        nothing_added old.most old.number s (old.held ++ was) new.line (lines_of (new.held ++ is)) why gives.lines (judged ∙ refused)))

    turns_starved : HasMigrated old.most left0 left' written0 written' page' (Some stop.NoMemory)
    turns_starved = record {
      text = goes.text ++ line_adds n s said;
      passed = PassesOn-then goes.passed passed;
      leads = begins_with_line;
    }

    turns_stop : (why : FoldStop) → IsStopOf (state_after_content n s said) why → (why ≢ stop.ReadFault) → HasMigrated old.most left0 left' written0 written' page' (Some why)
    turns_stop stop.NoMemory stops read = turns_starved
    turns_stop stop.ReadFault stops read = absurd (read refl)
    turns_stop (stop.BadLine m) (inl refused) read = turns_refused (stop.BadLine m) refused (λ e. cc) read
    turns_stop (stop.BadLine m) (inr e) read = cc
    turns_stop (stop.Refused m w) (inl refused) read = turns_refused (stop.Refused m w) refused (λ e. cc) read
    turns_stop (stop.Refused m w) (inr e) read = cc
    turns_stop (stop.NotDone m) (inl refused) read = turns_refused (stop.NotDone m) refused (λ e. cc) read
    turns_stop (stop.NotDone m) (inr e) read = cc
    turns_stop (stop.TooLong m) (inl refused) read = turns_refused (stop.TooLong m) refused (λ e. cc) read
    turns_stop (stop.TooLong m) (inr e) read = cc
    turns_stop (stop.TooMany m) (inl refused) read = turns_refused (stop.TooMany m) refused (λ e. cc) read
    turns_stop (stop.TooMany m) (inr e) read = cc

    turns_ok : (turn : Turn) → TakesSaid n s behind said turn → Turns old.most left0 left' written0 written' page' new behind (Ok turn)
    turns_ok More led = turns_more led
    turns_ok (End None) never = absurd never
    turns_ok (End (Some why)) (stops, read) = turns_stop why stops read

  -- the line was taken
  pub Turns-line : (result : Result Turn WriteFault) → Gathers written page written' page' (line_adds n s said) result → IfOk result (TakesSaid n s behind said) →
      Turns old.most left0 left' written0 written' page' new behind result
  Turns-line (Ok turn) gathers takes = turns_ok gathers.passed turn takes
  Turns-line (Err fault) gathers takes = WritesMigrated-line gathers.front

-- ---- the rest of the page is sent

-- whatever ended the lines, the text begins the whole one
leads_begin : (most : ℕ) (left0 left : Option (List ℕ)) (text : List ℕ) (end : Option FoldStop) → LeadsTo most left0 left text end → BothKnown left0 left (λ bytes is. BeginsText most text bytes)
leads_begin most left0 left text None leads = BothKnown-map _ _ left0 left leads (λ bytes is all. record { more = []; text_is = all.text_is ∙ sym (append-nil text) })
leads_begin most left0 left text (Some stop.NoMemory) leads = leads
leads_begin most left0 left text (Some stop.ReadFault) leads =
    BothKnown-map _ _ left0 left leads (λ bytes is of.
    let lines = whole_lines_of-more of.taken is in
    let longer = migrated_text-more most (whole_lines_of of.taken) lines.0 in
    record {
      more = longer.0;
      text_is = ap (λ b. migrated_text most (whole_lines_of b)) of.split ∙ ap (migrated_text most) lines.1 ∙ longer.1 ∙ ap (λ t. t ++ longer.0) of.text_is;
    })
leads_begin most left0 left text (Some (stop.BadLine n)) leads = BothKnown-map _ _ left0 left leads (λ bytes is of. record { more = []; text_is = of.text_is ∙ sym (append-nil text) })
leads_begin most left0 left text (Some (stop.Refused n w)) leads = BothKnown-map _ _ left0 left leads (λ bytes is of. record { more = []; text_is = of.text_is ∙ sym (append-nil text) })
leads_begin most left0 left text (Some (stop.NotDone n)) leads = BothKnown-map _ _ left0 left leads (λ bytes is of. record { more = []; text_is = of.text_is ∙ sym (append-nil text) })
leads_begin most left0 left text (Some (stop.TooLong n)) leads = BothKnown-map _ _ left0 left leads (λ bytes is of. record { more = []; text_is = of.text_is ∙ sym (append-nil text) })
leads_begin most left0 left text (Some (stop.TooMany n)) leads = BothKnown-map _ _ left0 left leads (λ bytes is of. record { more = []; text_is = of.text_is ∙ sym (append-nil text) })

module _ (most : ℕ) (left0 left written0 old new : Option (List ℕ)) (page : List ℕ) (end : Option FoldStop)
    (has : HasMigrated most left0 left written0 old page end) where
  -- a prefix of what was passed on is a prefix of the whole text
  pub WritesMigrated-front : AppendsPrefix old new page → WritesMigrated most left0 left written0 new
  WritesMigrated-front front =
      let text = subst (AppendsPrefix written0 new) (append-nil has.text) (more_written written0 old new page has.text [] has.passed (AppendsFront-more [] front)) in
      BothKnown-map _ _ left0 left (leads_begin most left0 left has.text end has.leads) (λ bytes is begin. front_of written0 new has.text begin.more (migrated_text most (whole_lines_of bytes)) begin.text_is text)

  pub WritesMigrated-all : Appends old new page → WritesMigrated most left0 left written0 new
  WritesMigrated-all all = WritesMigrated-front (record { len = length page; written = subst (Appends old new) (sym (take_all (length page) page (omega arith))) all })

  -- all of it was sent
  whole_text : Appends old new page → Appends written0 new has.text
  whole_text all = subst (Appends written0 new) has.passed.rest (Appends-then written0 old new has.passed.sent page has.passed.written all)

sent_as : (most : ℕ) (left0 left written0 new : Option (List ℕ)) (text : List ℕ) (end : Option FoldStop) → LeadsTo most left0 left text end → Appends written0 new text →
    MatchOption end (Migrates {T = Unit {0}} most left0 left written0 new (Ok tt)) (λ why. Migrates {T = Unit {0}} most left0 left written0 new (Err (Stopped why)))
sent_as most left0 left written0 new text None leads all =
    BothKnown-map _ _ left0 left leads (λ bytes is of. record { text = subst (Appends written0 new) (sym of.text_is) all; pieces = of.pieces; none_refused = of.none_refused })
sent_as most left0 left written0 new text (Some stop.NoMemory) leads all = tt
sent_as most left0 left written0 new text (Some stop.ReadFault) leads all =
    BothKnown-map _ _ left0 left leads (λ bytes is of. record { taken = of.taken; split = of.split; text = subst (Appends written0 new) (sym of.text_is) all; pieces = of.pieces; none_refused = of.none_refused })
sent_as most left0 left written0 new text (Some (stop.BadLine n)) leads all = BothKnown-map _ _ left0 left leads (λ bytes is of. record { text = subst (Appends written0 new) (sym of.text_is) all; first_refused = of.first_refused })
sent_as most left0 left written0 new text (Some (stop.Refused n w)) leads all = BothKnown-map _ _ left0 left leads (λ bytes is of. record { text = subst (Appends written0 new) (sym of.text_is) all; first_refused = of.first_refused })
sent_as most left0 left written0 new text (Some (stop.NotDone n)) leads all = BothKnown-map _ _ left0 left leads (λ bytes is of. record { text = subst (Appends written0 new) (sym of.text_is) all; first_refused = of.first_refused })
sent_as most left0 left written0 new text (Some (stop.TooLong n)) leads all = BothKnown-map _ _ left0 left leads (λ bytes is of. record { text = subst (Appends written0 new) (sym of.text_is) all; first_refused = of.first_refused })
sent_as most left0 left written0 new text (Some (stop.TooMany n)) leads all = BothKnown-map _ _ left0 left leads (λ bytes is of. record { text = subst (Appends written0 new) (sym of.text_is) all; first_refused = of.first_refused })

-- the result tells how the lines ended
pub Migrates-sent : (most : ℕ) (left0 left written0 old new : Option (List ℕ)) (page : List ℕ) (end : Option FoldStop) (result : Result (Unit {0}) MigrationStop) →
    HasMigrated most left0 left written0 old page end → Appends old new page → MatchOption end (result ≡ Ok tt) (λ why. result ≡ Err (Stopped why)) →
    Migrates most left0 left written0 new result
Migrates-sent most left0 left written0 old new page None result has all is =
    subst (Migrates most left0 left written0 new) (sym is) (sent_as most left0 left written0 new has.text None has.leads (whole_text most left0 left written0 old new page None has all))
Migrates-sent most left0 left written0 old new page (Some why) result has all is =
    subst (Migrates most left0 left written0 new) (sym is) (sent_as most left0 left written0 new has.text (Some why) has.leads (whole_text most left0 left written0 old new page (Some why) has all))

-- ---- before the first line, and round the loop

-- the first line of the text could not be written
pub WritesMigrated-unbegun : (most : ℕ) (left written0 written : Option (List ℕ)) (fresh : List ℕ) → fresh ≡ [] → AppendsPrefix written0 written (fresh ++ head_text) →
    WritesMigrated most left left written0 written
WritesMigrated-unbegun most left written0 written fresh is_fresh front =
    BothKnown-same _ left (λ bytes.
    AppendsFront-more (migrated_from most 0 empty_fold (whole_lines_of bytes)) (subst (λ held. AppendsPrefix written0 written (held ++ head_text)) is_fresh front))

-- memory ran out after it
pub HasMigrated-unbegun : {T E : Type 0} {v : T} (most : ℕ) (left written0 written : Option (List ℕ)) (fresh page : List ℕ) → fresh ≡ [] →
    Gathers {T = T} {E = E} written0 fresh written page head_text (Ok v) → HasMigrated most left left written0 written page (Some stop.NoMemory)
HasMigrated-unbegun most left written0 written fresh page is_fresh gathers = record {
  text = head_text;
  passed = subst (λ held. PassesOn written0 held written page head_text) is_fresh gathers.passed;
  leads = BothKnown-same _ left (λ bytes. record { more = migrated_from most 0 empty_fold (whole_lines_of bytes); text_is = refl });
}

-- what a line leads to, where the reader takes at most so many
pub Turns-from : (most : ℕ) (left0 left left' written0 written written' : Option (List ℕ)) (page page' : List ℕ) (old new : Reading) (s behind : FoldState) (result : Result Turn WriteFault) →
    IsMigrating most left0 left written0 written page old s →
    (IsMigrating old.most left0 left written0 written page old s → Turns old.most left0 left' written0 written' page' new behind result) →
    Turns most left0 left' written0 written' page' new behind result
Turns-from most left0 left left' written0 written written' page page' old new s behind result goes turns =
    subst (λ m. IsMigrating m left0 left written0 written page old s → Turns m left0 left' written0 written' page' new behind result) goes.stands.most_is turns goes

-- no more lines are read than are allowed
pub number_bound : (most : ℕ) (left0 left left' written0 written written' : Option (List ℕ)) (page page' : List ℕ) (old new : Reading) (s behind : FoldState) →
    IsMigrating most left0 left written0 written page old s →
    (IsMigrating old.most left0 left written0 written page old s → IsMigrating old.most left0 left' written0 written' page' new behind) → new.number ≤ most
number_bound most left0 left left' written0 written written' page page' old new s behind goes turns =
    let next = subst (λ m. IsMigrating m left0 left written0 written page old s → IsMigrating m left0 left' written0 written' page' new behind) goes.stands.most_is turns goes in
    next.stands.few
