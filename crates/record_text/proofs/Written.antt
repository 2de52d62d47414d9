-- The words of a line that was written, and what they say.
use Rattle.std.proofs.Common.{◌≡◌, ◌≢◌, ℕ, ◌^◌, ◌<◌, ◌≤◌, Bool, true, false, ◌||◌, leb, lit<, List, [], ◌∷◌, ◌++◌, length, map, All, Option, None, Some, refl, sym, ap, subst, ◌∙◌, arith, append_assoc, append-nil, if◌then◌else◌}
use Rattle.std.specs.Prelude.{codes, decimal}
use Rattle.std.specs.List.{AllByRecursion, slice_split, list_all, filter, flat_map}
use Rattle.std.specs.List.Sorted.{IsStrictlySortedBy}
use Rattle.std.specs.Option.{option_map, option_and_then}
use Rattle.std.specs.Ordering.{is_eq}
use Rattle.std.proofs.Math.Nat.{lt_trans}
use Rattle.std.proofs.lemmas.Bool.{and_parts, and_from, lt-ltb, le-leb, leb-true, ne_eqb}
use Rattle.std.proofs.lemmas.List.{append_cancel_right}
use Rattle.std.proofs.lemmas.List.Elements.{All-from_recursion, recursion_from_All}
use Rattle.std.proofs.lemmas.List.Folds.{list_all-append, flat_map-map}
use Rattle.std.proofs.lemmas.List.Splits.{slice_split_none, slice_split_at}
use Rattle.graph_types.specs.declared.ids.Mode.{Mode}
use Rattle.graph_types.specs.declared.member.Member.{Member}
use Rattle.graph_types.specs.declared.member.Member.TheVariants as member
use Rattle.graph_types.specs.meaning.Piece.{PieceValue, IsPiece, IsOfMode, HasLowerFirst, member_cmp, mode_cmp, mode_of, most_members}
use Rattle.line_fields.specs.meaning.Fields.{has_bytes, is_blank, is_digit, number_of, words_of, is_dash}
use Rattle.job_io.specs.meaning.Lines.{HasNoLf, cr, lf, without_cr}
use Rattle.line_fields.proofs.Decimals.{digits-decimal, has_bytes-decimal, id_of-decimal, number_of-decimal}
use Rattle.record_text.specs.meaning.Text.{done_text, head_text, member_text, record_line, after_space}
use Rattle.record_text.specs.declared.read.RecordLine.{RecordLine}
use Rattle.record_text.specs.declared.read.RecordLine.TheVariants.{Head, Rem, Add, Done}
use Rattle.record_text.specs.meaning.Grammar.{are_alike, edge_of_ends, line_said, member_of, member_of_parts, members_said, piece_made, piece_said, record_of, stamped_said}
use Rattle.record_text.specs.meaning.Writable.{HasShortIds, IsCount, IsStamp, IsWritable}
use Rattle.record_text.proofs.Pieces.{Makes, piece_made-of, mode_itself}
use Rattle.record_text.proofs.Words.{slice_split-digits}
use Rattle.shared_lemmas.proofs.Ascending.{ascending_from_sorted}

-- ---- words parted by spaces

-- bytes above the space: neither blanks nor ends of a line
abbrev pub is_graphic : ℕ → Bool
is_graphic b = leb 33 b

pub record IsWord (word : List ℕ) : Type 0 where
  pub some : has_bytes word ≡ true
  pub graphic : list_all is_graphic word ≡ true

not_blank : (b : ℕ) → is_graphic b ≡ true → is_blank b ≡ false
not_blank b graphic =
    let above = leb-true 33 b graphic in
    (λ i. ne_eqb b 32 (λ e. omega (arith, e, above)) i || ne_eqb b 9 (λ e. omega (arith, e, above)) i)

solid : (word : List ℕ) → list_all is_graphic word ≡ true → AllByRecursion (λ b. is_blank b ≡ false) word
solid [] graphic = tt
solid (b ∷ word) graphic = let parts = and_parts _ _ graphic in (not_blank b parts.0, solid word parts.1)

no_blank : (word : List ℕ) → IsWord word → All (λ b. is_blank b ≡ false) word
no_blank word is = All-from_recursion (λ b. is_blank b ≡ false) word (solid word is.graphic)

words_of-word : (word : List ℕ) → IsWord word → words_of word ≡ word ∷ []
words_of-word word is =
    ap (filter has_bytes) (slice_split_none is_blank word (no_blank word is)) ∙ ap (λ b. if b then word ∷ [] else []) is.some

words_of-spaced : (word rest : List ℕ) → IsWord word → words_of (word ++ 32 ∷ rest) ≡ word ∷ words_of rest
words_of-spaced word rest is =
    ap (filter has_bytes) (slice_split_at is_blank word 32 rest (no_blank word is) refl)
    ∙ ap (λ b. if b then word ∷ words_of rest else words_of rest) is.some

-- a first word, and each other one after a space
abbrev pub spread : List ℕ → List (List ℕ) → List ℕ
spread word words = word ++ flat_map after_space words

pub words_of-spread : (word : List ℕ) (words : List (List ℕ)) → IsWord word → AllByRecursion IsWord words → words_of (spread word words) ≡ word ∷ words
words_of-spread word [] is all = ap words_of (append-nil word) ∙ words_of-word word is
words_of-spread word (v ∷ words) is all = words_of-spaced word (spread v words) is ∙ ap (λ ws. word ∷ ws) (words_of-spread v words all.0 all.1)

-- bytes from the space on: no end of a line is among them
abbrev pub is_printed : ℕ → Bool
is_printed b = leb 32 b

pub printed_from_graphic : (word : List ℕ) → list_all is_graphic word ≡ true → list_all is_printed word ≡ true
printed_from_graphic [] graphic = refl
printed_from_graphic (b ∷ word) graphic =
    let parts = and_parts (is_graphic b) (list_all is_graphic word) graphic in
    and_from _ _ (le-leb 32 b (omega (arith, leb-true 33 b parts.0))) (printed_from_graphic word parts.1)

printed-spaced : (words : List (List ℕ)) → AllByRecursion IsWord words → list_all is_printed (flat_map after_space words) ≡ true
printed-spaced [] all = refl
printed-spaced (w ∷ words) all =
    list_all-append is_printed (after_space w) (flat_map after_space words)
    ∙ and_from _ _ (printed_from_graphic w all.0.graphic) (printed-spaced words all.1)

pub printed-spread : (word : List ℕ) (words : List (List ℕ)) → IsWord word → AllByRecursion IsWord words → list_all is_printed (spread word words) ≡ true
printed-spread word words is all =
    list_all-append is_printed word (flat_map after_space words)
    ∙ and_from _ _ (printed_from_graphic word is.graphic) (printed-spaced words all)

-- such a line keeps all of its bytes as a line of a text
pub HasNoLf-printed : (line : List ℕ) → list_all is_printed line ≡ true → HasNoLf line
HasNoLf-printed line printed = All-from_recursion (λ b. b ≢ lf) line (each line printed)
  where
    each : (line : List ℕ) → list_all is_printed line ≡ true → AllByRecursion (λ b. b ≢ lf) line
    each [] printed = tt
    each (b ∷ line) printed =
        let parts = and_parts (is_printed b) (list_all is_printed line) printed in
        (λ e. omega (arith, e, leb-true 32 b parts.0), each line parts.1)

pub without_cr-printed : (line : List ℕ) → list_all is_printed line ≡ true → without_cr line ≡ line
without_cr-printed [] printed = refl
without_cr-printed (b ∷ []) printed =
    let parts = and_parts (is_printed b) true printed in
    ap (λ t. if t then [] else b ∷ []) (ne_eqb b cr (λ e. omega (arith, e, leb-true 32 b parts.0)))
without_cr-printed (b ∷ c ∷ line) printed =
    ap (λ rest. b ∷ rest) (without_cr-printed (c ∷ line) (and_parts (is_printed b) (list_all is_printed (c ∷ line)) printed).1)

-- ---- members

graphic-digits : (ds : List ℕ) → list_all is_digit ds ≡ true → list_all is_graphic ds ≡ true
graphic-digits [] digits = refl
graphic-digits (d ∷ ds) digits =
    let parts = and_parts (is_digit d) (list_all is_digit ds) digits in
    let bounds = and_parts (leb 48 d) (leb d 57) parts.0 in
    and_from _ _ (le-leb 33 d (omega (arith, leb-true 48 d bounds.0))) (graphic-digits ds parts.1)

pub IsWord-decimal : (n : ℕ) → IsStamp n → IsWord (decimal n)
IsWord-decimal n fits = record { some = has_bytes-decimal n fits; graphic = graphic-digits (decimal n) (digits-decimal n fits) }

fits_of : (n : ℕ) → n < 2 ^ 32 → n < 2 ^ 64
fits_of n short = lt_trans short (lit< tt)

has_bytes-append : (xs ys : List ℕ) → has_bytes xs ≡ true → has_bytes (xs ++ ys) ≡ true
has_bytes-append [] ys some = absurd (cc)
has_bytes-append (x ∷ xs) ys some = refl

IsWord-member_text : (m : Member) → HasShortIds m → IsWord (member_text m)
IsWord-member_text (member.Vertex v) short = IsWord-decimal v (fits_of v short)
IsWord-member_text (member.Edge e) short =
    let low = IsWord-decimal e.0 (fits_of e.0 short.0) in
    let high = IsWord-decimal e.1 (fits_of e.1 short.1) in
    record {
      some = has_bytes-append (decimal e.0 ++ codes "-") (decimal e.1) (has_bytes-append (decimal e.0) (codes "-") low.some);
      graphic = list_all-append is_graphic (decimal e.0 ++ codes "-") (decimal e.1)
          ∙ and_from _ _ (list_all-append is_graphic (decimal e.0) (codes "-") ∙ and_from _ _ low.graphic refl) high.graphic;
    }

IsWord-member_texts : (members : List Member) → AllByRecursion HasShortIds members → AllByRecursion IsWord (map member_text members)
IsWord-member_texts [] short = tt
IsWord-member_texts (m ∷ members) short = (IsWord-member_text m short.0, IsWord-member_texts members short.1)

no_dash : (ds : List ℕ) → list_all is_digit ds ≡ true → AllByRecursion (λ b. is_dash b ≡ false) ds
no_dash [] digits = tt
no_dash (d ∷ ds) digits =
    let parts = and_parts (is_digit d) (list_all is_digit ds) digits in
    let bounds = and_parts (leb 48 d) (leb d 57) parts.0 in
    (ne_eqb d 45 (λ e. omega (arith, e, leb-true 48 d bounds.0)), no_dash ds parts.1)

member_of-member_text : (m : Member) → HasShortIds m → HasLowerFirst m → member_of (member_text m) ≡ Some m
member_of-member_text (member.Vertex v) short lower =
    ap member_of_parts (slice_split-digits (decimal v) (digits-decimal v (fits_of v short))) ∙ ap (option_map (λ v. member.Vertex v)) (id_of-decimal v short)
member_of-member_text (member.Edge e) short lower =
    let low = decimal e.0 in
    let high = decimal e.1 in
    let no_dashes = All-from_recursion (λ b. is_dash b ≡ false) low (no_dash low (digits-decimal e.0 (fits_of e.0 short.0))) in
    let parts : slice_split is_dash (low ++ codes "-" ++ high) ≡ low ∷ high ∷ [] =
    ap (slice_split is_dash) (append_assoc low (codes "-") high)
    ∙ slice_split_at is_dash low 45 high no_dashes refl
    ∙ ap (λ parts. low ∷ parts) (slice_split-digits high (digits-decimal e.1 (fits_of e.1 short.1))) in
    ap member_of_parts parts
    ∙ (λ i. option_and_then (λ x. option_and_then (edge_of_ends x) (id_of-decimal e.1 short.1 i)) (id_of-decimal e.0 short.0 i))
    ∙ ap (λ b. if b then Some (member.Edge e) else None) (lt-ltb e.0 e.1 lower)

members_said-texts : (members : List Member) → AllByRecursion HasShortIds members → AllByRecursion HasLowerFirst members → members_said (map member_text members) ≡ Some members
members_said-texts [] short lower = refl
members_said-texts (m ∷ members) short lower =
    ap (λ o. option_and_then (λ n. option_map (λ ms. n ∷ ms) (members_said (map member_text members))) o) (member_of-member_text m short.0 lower.0)
    ∙ ap (option_map (λ ms. m ∷ ms)) (members_said-texts members short.1 lower.1)

-- ---- pieces

alike_all : (m : Member) (kind : Mode) (members : List Member) → mode_of m ≡ kind → AllByRecursion (IsOfMode kind) members → list_all (are_alike m) members ≡ true
alike_all m kind [] same all = refl
alike_all m kind (n ∷ members) same all =
    and_from _ _ (ap (λ k. is_eq (mode_cmp (mode_of m) k)) (all.0 ∙ sym same) ∙ mode_itself (mode_of m)) (alike_all m kind members same all.1)

makes_itself : (m : Member) (members : List Member) (piece : PieceValue) → IsPiece piece → piece.members ≡ m ∷ members → Makes m members piece
makes_itself m members piece sound is =
    let alike = subst (AllByRecursion (IsOfMode piece.mode)) is (recursion_from_All (IsOfMode piece.mode) piece.members sound.of_mode) in
    record {
      alike = alike_all m piece.mode members alike.0 alike.1;
      ascending = ascending_from_sorted member_cmp (m ∷ members) (subst (IsStrictlySortedBy member_cmp) is sound.ascending);
      short = subst (λ ms. length ms ≤ most_members) is sound.room;
      is = λ i. record { mode = alike.0 i; members = sym is i };
    }

piece_said-texts : (m : Member) (members : List Member) (piece : PieceValue) → IsWritable piece → piece.members ≡ m ∷ members → piece_said (map member_text (m ∷ members)) ≡ Some piece
piece_said-texts m members piece can is =
    let short = subst (AllByRecursion HasShortIds) is (recursion_from_All HasShortIds piece.members can.short_ids) in
    let lower = subst (AllByRecursion HasLowerFirst) is (recursion_from_All HasLowerFirst piece.members can.sound.lower_first) in
    ap (option_and_then piece_made) (members_said-texts (m ∷ members) short lower)
    ∙ piece_made-of m members piece (makes_itself m members piece can.sound is)

-- ---- lines

-- a line of these words, that says this
pub record IsWritten (line : List ℕ) (said : RecordLine) : Type 0 where
  pub reads : record_of line ≡ Some said
  pub printed : list_all is_printed line ≡ true

stamp_read : (t : ℕ) → t < 2 ^ 64 → number_of 20 (decimal t) ≡ Some t
stamp_read t fits = number_of-decimal 20 t (lit< tt) (lt_trans fits (lit< tt)) fits

record_words : (word : List ℕ) (t : ℕ) (members : List Member) → record_line word t members ≡ spread word (decimal t ∷ map member_text members) ++ codes "\n"
record_words word t members =
    ap (λ text. text ++ codes "\n")
    (ap (λ text. word ++ after_space (decimal t) ++ text) (sym (flat_map-map after_space member_text members))
    ∙ append_assoc word (after_space (decimal t)) (flat_map after_space (map member_text members)))

written : (word : List ℕ) (words : List (List ℕ)) (line : List ℕ) (said : RecordLine) → IsWord word → AllByRecursion IsWord words → line ≡ spread word words → line_said (word ∷ words) ≡ Some said → IsWritten line said
written word words line said is all is_line says = record {
  reads = ap record_of is_line ∙ ap line_said (words_of-spread word words is all) ∙ says;
  printed = ap (list_all is_printed) is_line ∙ printed-spread word words is all;
}

record_written : (word : List ℕ) (t : ℕ) (piece : PieceValue) (line : List ℕ) (said : RecordLine) → IsWord word → IsStamp t → IsWritable piece → line ++ codes "\n" ≡ record_line word t piece.members
    → ((m : Member) (members : List Member) → piece.members ≡ m ∷ members → line_said (word ∷ decimal t ∷ map member_text (m ∷ members)) ≡ Some said) → IsWritten line said
record_written word t piece line said is fits can is_line says =
    let short = recursion_from_All HasShortIds piece.members can.short_ids in
    let by_members : (members : List Member) → piece.members ≡ members → line_said (word ∷ decimal t ∷ map member_text members) ≡ Some said = elim [
      | [] ↦ λ none. absurd (can.some none)
      | m ∷ members ↦ λ same. says m members same
    ] in
    written word (decimal t ∷ map member_text piece.members) line said is (IsWord-decimal t fits, IsWord-member_texts piece.members short)
    (append_cancel_right line _ (codes "\n") (is_line ∙ record_words word t piece.members))
    (by_members piece.members refl)

pub rem_written : (t : ℕ) (piece : PieceValue) (line : List ℕ) → IsStamp t → IsWritable piece → line ++ codes "\n" ≡ record_line (codes "REM") t piece.members → IsWritten line (Rem t piece)
rem_written t piece line fits can is_line =
    record_written (codes "REM") t piece line (Rem t piece) (record { some = refl; graphic = refl }) fits can is_line
    (λ m members is.
    ap (option_and_then (λ t. stamped_said (codes "REM") t (map member_text (m ∷ members)))) (stamp_read t fits)
    ∙ ap (option_map (λ piece. Rem t piece)) (piece_said-texts m members piece can is))

pub new_written : (t : ℕ) (piece : PieceValue) (line : List ℕ) → IsStamp t → IsWritable piece → line ++ codes "\n" ≡ record_line (codes "NEW") t piece.members → IsWritten line (Add t piece)
new_written t piece line fits can is_line =
    record_written (codes "NEW") t piece line (Add t piece) (record { some = refl; graphic = refl }) fits can is_line
    (λ m members is.
    ap (option_and_then (λ t. stamped_said (codes "NEW") t (map member_text (m ∷ members)))) (stamp_read t fits)
    ∙ ap (option_map (λ piece. Add t piece)) (piece_said-texts m members piece can is))

done_alone : (t : ℕ) (line : List ℕ) → IsStamp t → line ++ codes "\n" ≡ done_text t None → IsWritten line (Done t None)
done_alone t line fits is_line =
    written (codes "DONE") (decimal t ∷ []) line (Done t None) (record { some = refl; graphic = refl }) (IsWord-decimal t fits, tt)
    (append_cancel_right line (spread (codes "DONE") (decimal t ∷ [])) (codes "\n") is_line)
    (ap (option_and_then (λ t. stamped_said (codes "DONE") t [])) (stamp_read t fits))

done_counted : (t n : ℕ) (line : List ℕ) → IsStamp t → n < 2 ^ 64 → line ++ codes "\n" ≡ done_text t (Some n) → IsWritten line (Done t (Some n))
done_counted t n line fits few is_line =
    let words = decimal t ∷ decimal n ∷ [] in
    let tail : codes "DONE " ++ decimal t ++ after_space (decimal n) ≡ spread (codes "DONE") words =
    ap (λ text. codes "DONE " ++ decimal t ++ (codes " " ++ text)) (sym (append-nil (decimal n))) in
    written (codes "DONE") words line (Done t (Some n)) (record { some = refl; graphic = refl }) (IsWord-decimal t fits, (IsWord-decimal n few, tt))
    (append_cancel_right line (spread (codes "DONE") words) (codes "\n") (is_line ∙ ap (λ text. text ++ codes "\n") tail))
    (ap (option_and_then (λ t. stamped_said (codes "DONE") t (decimal n ∷ []))) (stamp_read t fits)
    ∙ ap (λ o. option_map (λ count. Done t count) (option_map (λ n. Some n) o)) (stamp_read n few))

pub done_written : (t : ℕ) (count : Option ℕ) (line : List ℕ) → IsStamp t → IsCount count → line ++ codes "\n" ≡ done_text t count → IsWritten line (Done t count)
done_written t None line fits few is_line = done_alone t line fits is_line
done_written t (Some n) line fits few is_line = done_counted t n line fits few is_line

pub head_written : (line : List ℕ) → line ++ codes "\n" ≡ head_text → IsWritten line Head
head_written line is_line =
    written (codes "records") (codes "2" ∷ []) line Head (record { some = refl; graphic = refl }) (record { some = refl; graphic = refl }, tt)
    (append_cancel_right line (codes "records 2") (codes "\n") is_line) refl
