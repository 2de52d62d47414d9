-- What is written for a history in format 1 is migrated to what is written for it in format 2.
use Rattle.std.proofs.Common.{◌≡◌, ℕ, zero, suc, ◌+◌, ◌*◌, ◌^◌, ◌<◌, ◌≤◌, true, cond, List, [], ◌∷◌, ◌++◌, length, map, None, Some, Result, Ok, Err, refl, sym, ap, subst, ◌∙◌, arith, lit<, append_assoc, append-nil, length-append}
use Rattle.std.specs.Prelude.{codes, decimal}
use Rattle.std.specs.List.{AllByRecursion, flat_map}
use Rattle.std.specs.Option.{option_and_then}
use Rattle.std.proofs.Math.Nat.{lt_trans}
use Rattle.std.proofs.lemmas.Fmt.{length-decimal-le}
use Rattle.std.proofs.lemmas.List.{length-map}
use Rattle.std.proofs.lemmas.List.Elements.{recursion_from_All}
use Rattle.graph_types.specs.meaning.Graph.{Graph}
use Rattle.graph_types.specs.declared.ids.Mode.{Mode}
use Rattle.graph_types.specs.declared.member.Member.{Member}
use Rattle.graph_types.specs.declared.member.Member.TheVariants as member
use Rattle.graph_types.specs.meaning.Piece.{PieceValue, members_of_all}
use Rattle.job_io.specs.meaning.Lines.{HasNoLf, Line, lf, most_line_bytes, whole_lines_of, without_cr}
use Rattle.job_io.proofs.LinesOf.{whole_lines_of-whole}
use Rattle.mining_model.specs.meaning.Changes.{removed_pieces, added_pieces}
use Rattle.mining_model.specs.meaning.Embeddings.{Pattern, embeddings}
use Rattle.mining_model.specs.meaning.History.{graph_at}
use Rattle.record_text.specs.declared.read.RecordLine.{RecordLine}
use Rattle.record_text.specs.declared.read.RecordLine.TheVariants.{Rem, Add, Done}
use Rattle.record_text.specs.declared.record_format.RecordFormat.TheVariants.{One, Two}
use Rattle.record_text.specs.meaning.Grammar.{record_of}
use Rattle.record_text.specs.meaning.Text.{after_space, delta_text, done_text, head_text, history_text, member_text, record_line, records_text, text_at, text_upto, total_at}
use Rattle.record_text.specs.meaning.Writable.{HasShortIds, IsStamp, IsWritable}
use Rattle.record_text.proofs.Written.{HasNoLf-printed, done_written, new_written, rem_written}
use Rattle.shared_lemmas.proofs.Claims.{all-append, all-filter}
use Rattle.snapshot_fold.specs.declared.fault.FoldRefusal.{FoldRefusal}
use Rattle.snapshot_fold.specs.meaning.FoldState.{FoldState, empty_fold}
use Rattle.snapshot_fold.specs.meaning.FoldText.{accepted_state}
use Rattle.snapshot_fold.specs.meaning.Folding.{state_after_content, state_after_one_line, state_or_stop}
use Rattle.snapshot_fold.specs.meaning.Records.{IsTellable, pieces_of, records_upto}
use Rattle.snapshot_fold.specs.meaning.Taking.{state_after_record}
use Rattle.snapshot_fold.proofs.Accepting.{IsAt, changes_taken, done_taken, state_after_said}
use Rattle.snapshot_fold.proofs.Embedded.{piece_of}
use Rattle.snapshot_fold.proofs.Judging.{one_line-short}
use Rattle.snapshot_fold.proofs.Saying.{members-pieces_of}
use Rattle.snapshot_fold.proofs.Telling.{can_at, history_text-says, total_at-embeddings}
use Rattle.record_migration.specs.meaning.Migrated.{added_text, block_text, migrated_from, migrated_text, unless_refused}

-- ---- the text that records lead to

abbrev migrated_said : FoldState → List RecordLine → List ℕ
migrated_said s [] = []
migrated_said s (r ∷ records) = unless_refused (state_after_record s r) (λ b. added_text s (Some r) ++ migrated_said b records)

-- a whole line that is not too long
abbrev IsShortLine : Line → Type 0
IsShortLine line = (line.whole ≡ true) × (length line.bytes ≤ most_line_bytes)

-- lines that are few and short lead to what their records do
from_lines : (most n : ℕ) (s : FoldState) (lines : List Line) (records : List RecordLine) → AllByRecursion IsShortLine lines → n + length lines ≤ most →
    map (λ line. record_of (without_cr line.bytes)) lines ≡ map Some records → migrated_from most n s lines ≡ migrated_said s records
from_lines most n s [] [] short few says = refl
from_lines most n s [] (r ∷ records) short few says = cc
from_lines most n s (line ∷ lines) [] short few says = cc
from_lines most n s (line ∷ lines) (r ∷ records) short few says =
    let first : record_of (without_cr line.bytes) ≡ Some r = cc in
    let rest : map (λ line. record_of (without_cr line.bytes)) lines ≡ map Some records = cc in
    let one : state_after_one_line most (suc n) s line ≡ state_or_stop (suc n) (state_after_record s r) =
    one_line-short most (suc n) s line (omega (arith, few)) short.0.1
    ∙ ap (λ w. cond w (state_after_content (suc n) s (record_of (without_cr line.bytes))) (Ok s)) short.0.0
    ∙ ap (state_after_content (suc n) s) first in
    let by_result : (x : Result FoldState FoldRefusal) →
    unless_refused (state_or_stop (suc n) x) (λ b. added_text s (record_of (without_cr line.bytes)) ++ migrated_from most (suc n) b lines)
    ≡ unless_refused x (λ b. added_text s (Some r) ++ migrated_said b records) = elim [
      | Ok b ↦ (λ i. added_text s (first i) ++ from_lines most (suc n) b lines records short.1 (omega (arith, few)) rest i)
      | Err why ↦ refl
    ] in
    ap (λ x. unless_refused x (λ b. added_text s (record_of (without_cr line.bytes)) ++ migrated_from most (suc n) b lines)) one
    ∙ by_result (state_after_record s r)

-- ---- the records of a timestamp

abbrev AddsNothing : RecordLine → Type 0
AddsNothing r = (s : FoldState) → added_text s (Some r) ≡ []

rems_add_nothing : (t : ℕ) (pieces : List PieceValue) → AllByRecursion AddsNothing (map (λ p. Rem t p) pieces)
rems_add_nothing t [] = tt
rems_add_nothing t (p ∷ pieces) = (λ s. refl, rems_add_nothing t pieces)

news_add_nothing : (t : ℕ) (pieces : List PieceValue) → AllByRecursion AddsNothing (map (λ p. Add t p) pieces)
news_add_nothing t [] = tt
news_add_nothing t (p ∷ pieces) = (λ s. refl, news_add_nothing t pieces)

-- records that close no timestamp lead to no text
past_open : (s mid : FoldState) (records more : List RecordLine) → AllByRecursion AddsNothing records → state_after_said s (map Some records) ≡ Some mid →
    migrated_said s (records ++ more) ≡ migrated_said mid more
past_open s mid [] more none led = let e : s ≡ mid = cc in ap (λ x. migrated_said x more) e
past_open s mid (r ∷ records) more none led =
    let by_result : (x : Result FoldState FoldRefusal) → state_after_record s r ≡ x → option_and_then (λ next. state_after_said next (map Some records)) (accepted_state x) ≡ Some mid →
    migrated_said s (r ∷ records ++ more) ≡ migrated_said mid more = elim [
      | Ok b ↦ λ is led.
          ap (λ x. unless_refused x (λ b. added_text s (Some r) ++ migrated_said b (records ++ more))) is
          ∙ ap (λ t. t ++ migrated_said b (records ++ more)) (none.0 s)
          ∙ past_open b mid records more none.1 led
      | Err why ↦ λ is led. cc
    ] in
    by_result (state_after_record s r) refl led

module _ (pattern : Pattern) (first : Graph) (later : List Graph) (m : ℕ) (can : IsTellable One pattern first later m) where
  abbrev pieces_at : ℕ → List PieceValue
  pieces_at t = pieces_of pattern.mode (embeddings pattern (graph_at first later t))

  -- the first t timestamps lead to their text in format 2
  record Rewritten (t : ℕ) : Type 0 where
    end : FoldState
    is_at : IsAt end One pattern.mode t (pieces_at t)
    leads : (more : List RecordLine) → migrated_said empty_fold (records_upto One pattern first later t ++ more) ≡ text_upto Two pattern first later t ++ migrated_said end more

  rewritten : (t : ℕ) → t ≤ m → Rewritten t
  rewritten zero within = record {
    end = empty_fold;
    is_at = subst (λ lists. IsAt empty_fold One pattern.mode 0 (pieces_of pattern.mode lists)) (sym can.nothing_first) (record {
      within = record { reads = refl; alike = λ _. refl; done = refl; held_is = refl; went_is = refl; came_is = refl };
      settled_is = refl;
    });
    leads = λ more. refl;
  }
  rewritten (suc t) within =
      let kind = pattern.mode in
      let before = graph_at first later t in
      let now = graph_at first later (suc t) in
      let so_far = rewritten t (omega (arith, within)) in
      let s = so_far.end in
      let went = pieces_of kind (removed_pieces pattern before now) in
      let came = pieces_of kind (added_pieces pattern before now) in
      let held = pieces_at (suc t) in
      let rems : List RecordLine = map (λ p. Rem (suc t) p) went in
      let news : List RecordLine = map (λ p. Add (suc t) p) came in
      let done : RecordLine = Done (suc t) None in
      let changed = changes_taken One pattern before now t s so_far.is_at in
      let mid = changed.next in
      let led : state_after_said s (map Some (rems ++ news)) ≡ Some mid = ap (state_after_said s) (sym (append-nil (map Some (rems ++ news)))) ∙ changed.led [] in
      let closes = done_taken mid One kind t (length held) held went came changed.so refl in
      let within_mid = changed.so in
      let counted : length mid.held ≡ total_at pattern first later (suc t) =
      ap length within_mid.held_is ∙ length-map (embeddings pattern now) _ ∙ sym (total_at-embeddings pattern first later (suc t) can.nothing_first) in
      let block : block_text mid (suc t) ≡ text_at Two pattern first later (suc t) =
      (λ i. delta_text (suc t) (members_of_all (within_mid.went_is i)) (members_of_all (within_mid.came_is i)) ++ done_text (suc t) (Some (counted i)))
      ∙ (λ i. delta_text (suc t) (members-pieces_of kind (removed_pieces pattern before now) i) (members-pieces_of kind (added_pieces pattern before now) i) ++ done_text (suc t) (Some (total_at pattern first later (suc t)))) in
      let upto = text_upto Two pattern first later t in
      record {
        end = closes.next;
        is_at = closes.so;
        leads = λ more.
            ap (migrated_said empty_fold) (append_assoc (records_upto One pattern first later t) (rems ++ (news ++ (done ∷ []))) more)
            ∙ so_far.leads ((rems ++ (news ++ (done ∷ []))) ++ more)
            ∙ ap (λ text. upto ++ text)
            (ap (migrated_said s) (ap (λ r. r ++ more) (sym (append_assoc rems news (done ∷ []))) ∙ append_assoc (rems ++ news) (done ∷ []) more)
            ∙ past_open s mid (rems ++ news) (done ∷ more) (all-append AddsNothing rems news (rems_add_nothing (suc t) went) (news_add_nothing (suc t) came)) led
            ∙ ap (λ x. unless_refused x (λ b. block_text mid (suc t) ++ migrated_said b more)) closes.takes
            ∙ ap (λ text. text ++ migrated_said closes.next more) block)
            ∙ sym (append_assoc upto (text_at Two pattern first later (suc t)) (migrated_said closes.next more));
      }

-- ---- lines that were written are short

length-decimal : (n : ℕ) → n < 2 ^ 64 → length (decimal n) ≤ 20
length-decimal n fits = length-decimal-le 20 n (lit< tt) (lt_trans fits (lit< tt)) fits

short_member : (m : Member) → HasShortIds m → length (member_text m) ≤ 41
short_member (member.Vertex v) short = let d = length-decimal v (lt_trans short (lit< tt)) in omega (arith, d)
short_member (member.Edge e) short =
    let low = length-decimal e.0 (lt_trans short.0 (lit< tt)) in
    let high = length-decimal e.1 (lt_trans short.1 (lit< tt)) in
    let a = length-append (decimal e.0 ++ codes "-") (decimal e.1) in
    let b = length-append (decimal e.0) (codes "-") in
    omega (arith, low, high, a, b)

short_members : (members : List Member) → AllByRecursion HasShortIds members → length (flat_map (λ m. after_space (member_text m)) members) ≤ 42 * length members
short_members [] short = omega arith
short_members (m ∷ members) short =
    let one = short_member m short.0 in
    let rest = short_members members short.1 in
    let all = length-append (after_space (member_text m)) (flat_map (λ m. after_space (member_text m)) members) in
    omega (arith, one, rest, all)

-- the line of a record, without its LF
abbrev body : List ℕ → ℕ → List Member → List ℕ
body word t members = word ++ after_space (decimal t) ++ flat_map (λ m. after_space (member_text m)) members

short_body : (word : List ℕ) (t : ℕ) (piece : PieceValue) → length word ≤ 3 → IsStamp t → IsWritable piece → length (body word t piece.members) ≤ most_line_bytes
short_body word t piece short fits can =
    let stamp = length-decimal t fits in
    let members = short_members piece.members (recursion_from_All HasShortIds piece.members can.short_ids) in
    let room = can.sound.room in
    let a = length-append (word ++ after_space (decimal t)) (flat_map (λ m. after_space (member_text m)) piece.members) in
    let b = length-append word (after_space (decimal t)) in
    omega (arith, short, stamp, members, room, a, b)

abbrev HasShortLines : List ℕ → Type 0
HasShortLines text = AllByRecursion IsShortLine (whole_lines_of text)

short_first : (line rest text : List ℕ) → text ≡ line ++ lf ∷ rest → HasNoLf line → length line ≤ most_line_bytes → HasShortLines rest → HasShortLines text
short_first line rest text split no_lf short later =
    subst (AllByRecursion IsShortLine) (sym (ap whole_lines_of split ∙ whole_lines_of-whole line rest no_lf)) ((refl, short), later)

module _ (word : List ℕ) (t : ℕ) (kind : Mode) (few : length word ≤ 3) (fits : IsStamp t)
    (no_lf : (piece : PieceValue) → IsWritable piece → HasNoLf (body word t piece.members)) where
  short_records : (lists : List (List Member)) (rest : List ℕ) → AllByRecursion (λ members. IsWritable (piece_of kind members)) lists → HasShortLines rest → HasShortLines (records_text word t lists ++ rest)
  short_records [] rest can later = later
  short_records (members ∷ lists) rest can later =
      let p = piece_of kind members in
      short_first (body word t members) (records_text word t lists ++ rest) _
      (append_assoc (record_line word t members) (records_text word t lists) rest ∙ append_assoc (body word t members) (codes "\n") (records_text word t lists ++ rest))
      (no_lf p can.0) (short_body word t p few fits can.0) (short_records lists rest can.1 later)

short_done : (t : ℕ) (rest : List ℕ) → IsStamp t → HasShortLines rest → HasShortLines (done_text t None ++ rest)
short_done t rest fits later =
    let line = codes "DONE " ++ decimal t ++ [] in
    let stamp = length-decimal t fits in
    let a = length-append (codes "DONE ") (decimal t) in
    let b = length-append (codes "DONE " ++ decimal t) [] in
    short_first line rest (done_text t None ++ rest) (append_assoc line (codes "\n") rest) (HasNoLf-printed line (done_written t None line fits tt refl).printed)
    (omega (arith, stamp, a, b)) later

module _ (pattern : Pattern) (first : Graph) (later : List Graph) (m : ℕ) (can : IsTellable One pattern first later m) where
  short_step : (t : ℕ) → suc t ≤ m → (rest : List ℕ) → HasShortLines rest → HasShortLines (text_at One pattern first later (suc t) ++ rest)
  short_step t within rest after =
      let kind = pattern.mode in
      let before = graph_at first later t in
      let now = graph_at first later (suc t) in
      let went = removed_pieces pattern before now in
      let came = added_pieces pattern before now in
      let fits : IsStamp (suc t) = omega (arith, within, can.fits) in
      let rem = records_text (codes "REM") (suc t) went in
      let new = records_text (codes "NEW") (suc t) came in
      let closing = done_text (suc t) None in
      subst HasShortLines (sym (append_assoc (rem ++ new) closing rest ∙ append_assoc rem new (closing ++ rest)))
      (short_records (codes "REM") (suc t) kind (omega arith) fits (λ p can. HasNoLf-printed (body (codes "REM") (suc t) p.members) (rem_written (suc t) p (body (codes "REM") (suc t) p.members) fits can refl).printed) went (new ++ (closing ++ rest))
      (all-filter _ _ (embeddings pattern before) (can_at One pattern first later m can t))
      (short_records (codes "NEW") (suc t) kind (omega arith) fits (λ p can. HasNoLf-printed (body (codes "NEW") (suc t) p.members) (new_written (suc t) p (body (codes "NEW") (suc t) p.members) fits can refl).printed) came (closing ++ rest)
      (all-filter _ _ (embeddings pattern now) (can_at One pattern first later m can (suc t)))
      (short_done (suc t) rest fits after)))

  short_upto : (t : ℕ) → t ≤ m → (rest : List ℕ) → HasShortLines rest → HasShortLines (text_upto One pattern first later t ++ rest)
  short_upto zero within rest after = after
  short_upto (suc t) within rest after =
      subst HasShortLines (sym (append_assoc (text_upto One pattern first later t) (text_at One pattern first later (suc t)) rest))
      (short_upto t (omega (arith, within)) (text_at One pattern first later (suc t) ++ rest) (short_step t within rest after))

  -- ---- the whole text

  pub history_migrated : (most : ℕ) → length (whole_lines_of (history_text One pattern first later m)) ≤ most →
      migrated_text most (whole_lines_of (history_text One pattern first later m)) ≡ history_text Two pattern first later m
  history_migrated most few =
      let text = history_text One pattern first later m in
      let short = subst HasShortLines (append-nil text) (short_upto m (omega arith) [] tt) in
      let all = rewritten pattern first later m can m (omega arith) in
      let records = records_upto One pattern first later m in
      ap (λ t. head_text ++ t)
      (from_lines most 0 empty_fold (whole_lines_of text) records short (omega (arith, few)) (history_text-says One pattern first later m can m (omega arith))
      ∙ ap (migrated_said empty_fold) (sym (append-nil records)) ∙ all.leads [] ∙ append-nil (text_upto Two pattern first later m))
