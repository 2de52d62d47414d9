-- A line is taken from a source.
use Rattle.std.proofs.Common.{◌≡◌, ◌≢◌, ℕ, suc, ◌+◌, ◌≤◌, inl, inr, Bool, ◌&&◌, true, false, cond, IsTrue}
use Rattle.std.proofs.Common.{List, [], ◌∷◌, ◌++◌, Option, Ok, Err}
use Rattle.std.proofs.Common.{refl, sym, ap, ◌∙◌, subst, arith}
use Rattle.std.specs.Bool.{OnTrue}
use Rattle.job_io.specs.calls.Ends.{BothKnown}
use Rattle.job_io.proofs.Known.{BothKnown-map}
use Rattle.job_io.specs.meaning.Lines.{Line, Reading, lines_of, without_cr, FitsLine, GivesLine, GivesEnd}
use Rattle.job_io.specs.calls.Reading.{ReadsNext}
use Rattle.job_io.specs.declared.line_reader.LineFault.{LineFault}
use Rattle.job_io.specs.declared.line_reader.LineFault.TheVariants as line
use Rattle.job_io.proofs.LinesOf.{lines_of-unfinished, some_line}
use Rattle.record_text.specs.meaning.Grammar.{record_of}
use Rattle.snapshot_fold.specs.declared.folding.FoldStop.{FoldStop}
use Rattle.snapshot_fold.specs.declared.folding.FoldStop.TheVariants as stop
use Rattle.snapshot_fold.specs.meaning.FoldState.{FoldState}
use Rattle.snapshot_fold.specs.meaning.Folding.{state_after_content, state_after_one_line, outcome_at_end, outcome_after, fold_outcome_from}
use Rattle.snapshot_fold.specs.calls.Reading.{stop_of, IsStopOf, LinesComeTo, TakesLine}
use Rattle.snapshot_fold.proofs.Judging.{one_line-short, one_line-long, one_line-many}
use Rattle.snapshot_fold.proofs.Told.{folded_from-cons, rest_from}

-- The reader gave the next line.
pub record GivesNext (old new : Reading) (was is : Option (List ℕ)) : Type 0 where
  pub gives : BothKnown was is (GivesLine old new)
  pub fits : FitsLine new.line
  pub counted : new.number ≡ old.number + 1
  pub few : new.number ≤ new.most
  pub same_most : new.most ≡ old.most
  pub live : IsTrue new.live

pub GivesNext-from : (old new : Reading) (was is : Option (List ℕ)) (given : Bool) → given ≡ true → ReadsNext old new was is (Ok given) →
    OnTrue given (FitsLine new.line) → new.number ≡ cond given (old.number + 1) old.number → new.live ≡ given → new.most ≡ old.most →
    new.number ≤ new.most → GivesNext old new was is
GivesNext-from old new was is true so nexts fits counted live same_most few =
    record { gives = nexts; fits = fits; counted = counted; few = few; same_most = same_most; live = live }
GivesNext-from old new was is false so nexts fits counted live same_most few = cc

module _ (old : Reading) (s : FoldState) (to_come : List ℕ) where
  -- the next line stops the fold
  comes_to_stop : (line : Line) (others : List Line) (why : FoldStop) → lines_of to_come ≡ line ∷ others →
      state_after_one_line old.most (suc old.number) s line ≡ Err why → LinesComeTo old s to_come (λ a. Err why)
  comes_to_stop line others why follows stopped = λ a later.
      ap (fold_outcome_from old.most a old.number s) follows
      ∙ folded_from-cons old.most a old.number s line others later
      ∙ ap (λ r. outcome_after r (rest_from old.most a old.number line others)) stopped

  -- nothing follows
  comes_to_end : to_come ≡ [] → LinesComeTo old s to_come (λ a. outcome_at_end a old.number s)
  comes_to_end nothing = λ a later.
      ap (λ text. fold_outcome_from old.most a old.number s (lines_of text)) nothing
      ∙ ap (λ b. cond b (Ok s.settled) (outcome_at_end a old.number s)) later

  -- a last line without LF follows
  comes_to_torn : (line : Line) → lines_of to_come ≡ line ∷ [] → line.whole ≡ false → state_after_one_line old.most (suc old.number) s line ≡ Ok s →
      LinesComeTo old s to_come (λ a. outcome_at_end a old.number s)
  comes_to_torn line follows torn dropped = λ a later.
      ap (fold_outcome_from old.most a old.number s) follows
      ∙ folded_from-cons old.most a old.number s line [] later
      ∙ ap (λ r. outcome_after r (rest_from old.most a old.number line [])) dropped
      ∙ ap (λ w. fold_outcome_from old.most a (cond w (suc old.number) old.number) s []) torn
      ∙ ap (λ b. cond b (Ok s.settled) (outcome_at_end a old.number s)) later

module _ (old new : Reading) (s behind : FoldState) (was is : Option (List ℕ)) where
  -- the reader gives no line
  pub Takes-fault : (fault : LineFault) → ReadsNext old new was is (Err fault) → TakesLine old new s behind was is (Err (stop_of fault))
  Takes-fault line.ReadFault nexts = nexts.0
  Takes-fault (line.TooLong n) (next, few, known) = BothKnown-map _ _ was is known (λ was is follows.
      let same : suc old.number ≡ n = omega (arith, next) in
      comes_to_stop old s (old.held ++ was) follows.0 follows.1 (stop.TooLong n) follows.2
      (one_line-long old.most (suc old.number) s follows.0 (omega (arith, next, few)) follows.3 ∙ ap (λ n. Err (stop.TooLong n)) same))
  Takes-fault (line.TooMany n) (next, all, known) = BothKnown-map _ _ was is known (λ was is nonempty.
      let first = some_line (old.held ++ was) nonempty in
      let same : suc old.number ≡ n = omega (arith, next, all) in
      comes_to_stop old s (old.held ++ was) first.0 first.1 (stop.TooMany n) first.2
      (one_line-many old.most (suc old.number) s first.0 (omega (arith, all)) ∙ ap (λ n. Err (stop.TooMany n)) same))

  -- the text ends after a whole line
  takes_end : IsTrue old.line.whole → BothKnown was is (GivesEnd old new) → TakesLine old new s s was is (Ok false)
  takes_end whole known = (
    refl,
    BothKnown-map _ _ was is known (λ was is ends.
        comes_to_end old s (old.held ++ was) (ends.taken ∙ ends.ended whole)),
  )

  module _ (next : GivesNext old new was is) where
    -- the limits of the line are kept
    kept : state_after_one_line old.most (suc old.number) s new.line
        ≡ cond new.line.whole (state_after_content (suc old.number) s (record_of (without_cr new.line.bytes))) (Ok s)
    kept = one_line-short old.most (suc old.number) s new.line (omega (arith, next.counted, next.few, next.same_most)) next.fits.short

    -- the last line has no LF
    takes_torn : new.line.whole ≡ false → TakesLine old new s s was is (Ok false)
    takes_torn torn = (
      refl,
      BothKnown-map _ _ was is next.gives (λ was is line.
          let none : new.held ++ is ≡ [] = lines_of-unfinished (old.held ++ was) new.line (new.held ++ is) line.lines torn in
          comes_to_torn old s (old.held ++ was) new.line
          (line.lines ∙ ap (λ text. new.line ∷ lines_of text) none) torn
          (kept ∙ ap (λ w. cond w (state_after_content (suc old.number) s (record_of (without_cr new.line.bytes))) (Ok s)) torn)),
    )

    module _ (whole : new.line.whole ≡ true) (n : ℕ) (bytes : List ℕ) (n_is : n ≡ new.number) (bytes_is : bytes ≡ without_cr new.line.bytes) where
      -- what the line says decides
      pub says : state_after_one_line old.most (suc old.number) s new.line ≡ state_after_content n s (record_of bytes)
      says =
          let number : suc old.number ≡ n = omega (arith, n_is, next.counted) in
          kept
          ∙ ap (λ w. cond w (state_after_content (suc old.number) s (record_of (without_cr new.line.bytes))) (Ok s)) whole
          ∙ ap (λ n. state_after_content n s (record_of (without_cr new.line.bytes))) number
          ∙ ap (λ bytes. state_after_content n s (record_of bytes)) (sym bytes_is)

      pub Takes-line : state_after_content n s (record_of bytes) ≡ Ok behind → TakesLine old new s behind was is (Ok true)
      Takes-line led = (
        next.gives,
        record {
          whole = whole;
          fits = next.fits;
          led = says ∙ led;
          counted = next.counted;
          few = next.few;
          same_most = next.same_most;
          live = next.live;
        },
      )

      stopped : (why : FoldStop) → state_after_content n s (record_of bytes) ≡ Err why →
          BothKnown was is (λ was is. LinesComeTo old s (old.held ++ was) (λ a. Err why))
      stopped why is_why = BothKnown-map _ _ was is next.gives (λ was is line.
          comes_to_stop old s (old.held ++ was) new.line (lines_of (new.held ++ is)) why line.lines (says ∙ is_why))

      takes_stop : (why : FoldStop) → why ≢ stop.ReadFault → state_after_content n s (record_of bytes) ≡ Err why →
          TakesLine old new s behind was is (Err why)
      takes_stop stop.NoMemory judged is_why = tt
      takes_stop stop.ReadFault judged is_why = absurd (judged refl)
      takes_stop (stop.BadLine n) judged is_why = stopped (stop.BadLine n) is_why
      takes_stop (stop.Refused n refusal) judged is_why = stopped (stop.Refused n refusal) is_why
      takes_stop (stop.NotDone n) judged is_why = stopped (stop.NotDone n) is_why
      takes_stop (stop.TooLong n) judged is_why = stopped (stop.TooLong n) is_why
      takes_stop (stop.TooMany n) judged is_why = stopped (stop.TooMany n) is_why

      -- the line is refused
      pub Takes-stop : (why : FoldStop) → why ≢ stop.ReadFault → IsStopOf (state_after_content n s (record_of bytes)) why →
          TakesLine old new s behind was is (Err why)
      Takes-stop why judged (inl is_why) = takes_stop why judged is_why
      Takes-stop why judged (inr starved) = subst (λ why. TakesLine old new s behind was is (Err why)) (sym starved) tt

module _ (old new : Reading) (s : FoldState) (was is : Option (List ℕ)) where
  -- no whole line follows
  pub Takes-none : IsTrue old.line.whole → (given : Bool) → (given && new.line.whole) ≡ false → ReadsNext old new was is (Ok given) →
      OnTrue given (FitsLine new.line) → new.number ≡ cond given (old.number + 1) old.number → new.live ≡ given → new.most ≡ old.most →
      new.number ≤ new.most → TakesLine old new s s was is (Ok false)
  Takes-none whole true torn nexts fits counted live same_most few =
      takes_torn old new s s was is (GivesNext-from old new was is true refl nexts fits counted live same_most few) torn
  Takes-none whole false torn nexts fits counted live same_most few = takes_end old new s s was is whole nexts
