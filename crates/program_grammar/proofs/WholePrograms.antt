-- The lines of a program, one by one.
use Rattle.std.proofs.Common.{◌≡◌, ℕ, ◌+◌, ◌<◌, ◌≤◌, Bool, true, false, ◌⊎◌, inl, inr, List, ◌∷◌, length, drop, get_or, Result, Ok, Err, codes, sym, ap, subst, ◌∙◌, arith, length-append, if◌then◌else◌}
use Rattle.std.proofs.lemmas.List.{drop_more}
use Rattle.line_fields.specs.meaning.Fields.{is_nothing_line, words_of}
use Rattle.line_fields.specs.meaning.Names.{Names, most_names}
use Rattle.filter_polarity.specs.meaning.Program.{ProgramValue}
use Rattle.conditions.specs.meaning.Written.{most_tokens}
use Rattle.program_grammar.specs.declared.fault.ProgramFault.{ProgramFault}
use Rattle.program_grammar.specs.declared.fault.ProgramFault.TheVariants as fault
use Rattle.program_grammar.specs.declared.fault.ProgramKind.{ProgramKind}
use Rattle.program_grammar.specs.declared.fault.ProgramKind.TheVariants.{BadLine}
use Rattle.program_grammar.specs.declared.header.HeaderReader.{HeaderReader}
use Rattle.program_grammar.specs.declared.header.HeaderReader.TheVariants as header
use Rattle.program_grammar.specs.declared.header.HeaderStep.{HeaderStep}
use Rattle.program_grammar.specs.declared.header.HeaderStep.TheVariants.{More, Ready}
use Rattle.program_grammar.specs.calls.Answers.{AddsNames, AnswersLine, FewNames, HasRoom, RunsOut}
use Rattle.program_grammar.specs.meaning.Header.{mode_said, size_of, filter_of, condition_after_word, is_word, header_said, awaited_line_said}
use Rattle.program_grammar.specs.meaning.Programs.{LinesFit, LinesRunOut, ReadsProgram, RoomFor, fits_next, outcome_after_line, lines_said, program_said, runs_out_next}
use Rattle.condition_grammar.proofs.Productions.{bind_ok, ok_same}

pub at_line : (lines seen : List (List ℕ)) (i : ℕ) (line text : List ℕ) → seen ≡ lines → line ≡ get_or seen i line → i < length seen → text ≡ line → drop i lines ≡ text ∷ drop (i + 1) lines
at_line lines seen i line text seen_is at within text_is =
    drop_more lines i line (omega (arith, ap length seen_is)) ∙ ap (λ x. x ∷ drop (i + 1) lines) (sym (text_is ∙ at ∙ ap (λ s. get_or s i line) seen_is))

-- room

begin-few : (names : Names) (h : HeaderReader) (p : ProgramValue) (b d : Bool) → length names ≤ most_names → FewNames {A = HeaderStep} (if b then Ok (More h, names) else if d then Ok (Ready p, names) else Err BadLine)
begin-few names h p true d few = few
begin-few names h p false true few = few
begin-few names h p false false few = tt

pub has-room : (h : HeaderReader) (line : List ℕ) (names : Names) → RoomFor h names → HasRoom names (header_said h line names)
unfolding header_said awaited_line_said
has-room header.Mode line names room = inl (omega (arith, room))
has-room (header.Size m) line names room = inl (omega (arith, room))
has-room (header.Filter m n) line names room = inl (omega (arith, room))
has-room (header.Match n f) line names room = inl (omega (arith, room))
has-room (header.Begin n f c) line names room = inr (begin-few names (header.Begin n f c) _ (is_nothing_line line) (is_word (codes "begin") (words_of line)) (omega (arith, room)))

more_same : (x next : HeaderReader) (ns after : Names) → ◌≡◌ {A = Result (HeaderStep × Names) ProgramKind} (Ok (More x, ns)) (Ok (More next, after)) → (x ≡ next) × (ns ≡ after)
more_same x next ns after h =
    let e : ◌≡◌ {A = HeaderStep × Names} (More x, ns) (More next, after) = ok_same h in
    let k : More x ≡ More next = ap (λ (p : HeaderStep × Names). p.0) e in
    (cc, ap (λ (p : HeaderStep × Names). p.1) e)

room-moved : (x next : HeaderReader) (ns after : Names) → RoomFor x ns → ◌≡◌ {A = Result (HeaderStep × Names) ProgramKind} (Ok (More x, ns)) (Ok (More next, after)) → RoomFor next after
room-moved x next ns after room h = let e = more_same x next ns after h in subst (λ y. RoomFor y after) e.0 (subst (RoomFor x) e.1 room)

next-room : (h next : HeaderReader) (line : List ℕ) (names after : Names) → RoomFor h names → length after ≤ length names + most_tokens → awaited_line_said h line names ≡ Ok (More next, after) → RoomFor next after
unfolding awaited_line_said
next-room header.Mode next line names after room grown read =
    let (m, is, done) = bind_ok (mode_said (words_of line)) (λ m. Ok (More (header.Size m), names)) (More next, after) read in room-moved (header.Size m) next names after room done
next-room (header.Size k) next line names after room grown read =
    let (n, is, done) = bind_ok (size_of (words_of line)) (λ n. Ok (More (header.Filter k n), names)) (More next, after) read in room-moved (header.Filter k n) next names after room done
next-room (header.Filter k n) next line names after room grown read =
    let (f, is, done) = bind_ok (filter_of k line names) (λ f. Ok (More (header.Match n f.0), f.1)) (More next, after) read in
    let e = more_same (header.Match n f.0) next f.1 after done in
    room-moved (header.Match n f.0) next f.1 after (omega (arith, room, grown, ap length e.1)) done
next-room (header.Match n f) next line names after room grown read =
    let (c, is, done) = bind_ok (condition_after_word (codes "match") line names) (λ c. Ok (More (header.Begin n f c.0), c.1)) (More next, after) read in
    let e = more_same (header.Begin n f c.0) next c.1 after done in
    room-moved (header.Begin n f c.0) next c.1 after (omega (arith, room, grown, ap length e.1)) done
next-room (header.Begin n f c) next line names after room grown read = absurd (never (is_word (codes "begin") (words_of line)) read)
  where
    never : (b : Bool) → ◌≡◌ {A = Result (HeaderStep × Names) ProgramKind} (if b then Ok (Ready (record { mode = f.mode; size = n; filter = f.cond; matching = c }), names) else Err BadLine) (Ok (More next, after)) → ⊥
    never true h = let e : ◌≡◌ {A = HeaderStep × Names} (Ready (record { mode = f.mode; size = n; filter = f.cond; matching = c }), names) (More next, after) = ok_same h in let k : Ready (record { mode = f.mode; size = n; filter = f.cond; matching = c }) ≡ More next = ap (λ (p : HeaderStep × Names). p.0) e in cc
    never false h = cc

pub line-room : (h next : HeaderReader) (line : List ℕ) (names after : Names) → RoomFor h names → length after ≤ length names + most_tokens → header_said h line names ≡ Ok (More next, after) → RoomFor next after
unfolding header_said
line-room h next line names after room grown read = by_test (is_nothing_line line) read
  where
    by_test : (b : Bool) → (if b then Ok (More h, names) else awaited_line_said h line names) ≡ Ok (More next, after) → RoomFor next after
    by_test true e = room-moved h next names after room e
    by_test false e = next-room h next line names after room grown e

module _ (h : HeaderReader) (n : ℕ) (rest later : List (List ℕ)) (line : List ℕ) (names : Names) (rest_is : rest ≡ line ∷ later) where
  pub room-here : RoomFor h names ⊎ LinesFit h rest names → HasRoom names (header_said h line names)
  room-here (inl room) = has-room h line names room
  room-here (inr fit) = (subst (λ r. LinesFit h r names) rest_is fit).0

  said-here : lines_said h n rest names ≡ outcome_after_line (λ next after. lines_said next (n + 1) later after) (n + 1) names (header_said h line names)
  said-here = ap (λ r. lines_said h n r names) rest_is

  pub starves-here : (new : Names) → RunsOut names (header_said h line names) new → LinesRunOut h rest names new
  starves-here new starves = subst (λ r. LinesRunOut h r names new) (sym rest_is) (inl starves)

  module _ (next : HeaderReader) (after : Names) (read : header_said h line names ≡ Ok (More next, after)) where
    pub said-next : lines_said h n rest names ≡ lines_said next (n + 1) later after
    said-next = said-here ∙ ap (outcome_after_line (λ next after. lines_said next (n + 1) later after) (n + 1) names) read

    pub starves-later : (new : Names) → LinesRunOut next later after new → LinesRunOut h rest names new
    starves-later new starves =
        subst (λ r. LinesRunOut h r names new) (sym rest_is) (inr (subst (runs_out_next (λ next after. LinesRunOut next later after new)) (sym read) starves))

    pub room-next : AddsNames most_tokens names after → RoomFor h names ⊎ LinesFit h rest names → RoomFor next after ⊎ LinesFit next later after
    room-next grows (inl room) = inl (line-room h next line names after room (omega (arith, grows.few, ap length grows.behind, length-append names grows.more)) read)
    room-next grows (inr fit) = inr (subst (fits_next (λ next after. LinesFit next later after)) read (subst (λ r. LinesFit h r names) rest_is fit).1)

  pub said-ready : (p : ProgramValue) (after : Names) → header_said h line names ≡ Ok (Ready p, after) → lines_said h n rest names ≡ (Ok p, after)
  said-ready p after read = said-here ∙ ap (outcome_after_line (λ next after. lines_said next (n + 1) later after) (n + 1) names) read

  said-refused : (kind : ProgramKind) → header_said h line names ≡ Err kind → lines_said h n rest names ≡ (Err (fault.Refused (n + 1) kind), names)
  said-refused kind read = said-here ∙ ap (outcome_after_line (λ next after. lines_said next (n + 1) later after) (n + 1) names) read

  module _ (all : List (List ℕ)) (old after : Names) (same : program_said all old ≡ lines_said h n rest names) (starved : (new : Names) → LinesRunOut h rest names new → LinesRunOut header.Mode all old new) where
    refused : (number : ℕ) (kind : ProgramKind) → number ≡ n + 1 → header_said h line names ≡ Err kind → after ≡ names → program_said all old ≡ (Err (fault.Refused number kind), after)
    refused number kind here read unchanged = same ∙ said-refused kind read ∙ ap (λ x. (Err (fault.Refused x kind), names)) (sym here) ∙ ap (λ ns. (Err (fault.Refused number kind), ns)) (sym unchanged)

    pub said-fault : (r : Result ProgramValue ProgramFault) (e : ProgramFault) → r ≡ Err e → AnswersLine {A = HeaderStep} (n + 1) names (header_said h line names) (Err e) after → ReadsProgram all old r after
    said-fault r fault.NoMemory is answers = subst (λ x. ReadsProgram all old x after) (sym is) (starved after (starves-here after answers))
    said-fault r (fault.Refused number kind) is (here, read, of_line, unchanged) = subst (λ x. ReadsProgram all old x after) (sym is) (refused number kind here read unchanged)
