-- The first word of a line and the others, and the parts of a word round dashes.
use Rattle.std.proofs.Common.{◌≡◌, ℕ, ◌+◌, ◌-◌, ◌^◌, ◌<◌, Bool, true, false, ◌&&◌, cond, ltb, leb, List, [], ◌∷◌, length, take, drop, Option, None, Some, refl, sym, ap, subst, ◌∙◌, arith, if◌then◌else◌}
use Rattle.std.specs.List.{slice_split, onto_first, list_all, filter, position, position_or_len, join_with_byte}
use Rattle.std.specs.Option.{option_and_then, option_map}
use Rattle.std.proofs.lemmas.Bool.{and_parts, and_right, ne_eqb, leb-true, ltb-true, ltb-false}
use Rattle.std.proofs.lemmas.List.Splits.{slice_split_none, slice_split_first, slice_split-cons_no, length-slice_split, join_with_byte-slice_split}
use Rattle.std.proofs.lemmas.List.{take_all, length-drop, nil_from_length}
use Rattle.std.proofs.lemmas.List.Sums.{fails_before_first}
use Rattle.line_fields.specs.meaning.Fields.{is_blank, is_digit, has_bytes, value_after, words_of, trim_start, id_of, is_dash}
use Rattle.line_fields.proofs.WordsOf.{words_of-trim_start, trim_start-first}
use Rattle.graph_types.specs.declared.member.Member.TheVariants as member
use Rattle.record_text.specs.meaning.Grammar.{edge_of_ends, edge_said, member_of, member_of_parts}

-- ---- words

-- of a line that begins with no blank, the part up to the first blank is a word
words_of-parts : (b : ℕ) (bs part : List ℕ) (parts : List (List ℕ)) → is_blank b ≡ false → slice_split is_blank (b ∷ bs) ≡ part ∷ parts → words_of (b ∷ bs) ≡ part ∷ filter has_bytes parts
words_of-parts b bs part parts other split =
    let stays : (w : List ℕ) → b ∷ w ≡ part → filter has_bytes (part ∷ parts) ≡ part ∷ filter has_bytes parts =
    λ w is. ap (λ v. filter has_bytes (v ∷ parts)) (sym is) ∙ ap (λ v. v ∷ filter has_bytes parts) is in
    let by_parts : (more : List (List ℕ)) → onto_first b more ≡ part ∷ parts → filter has_bytes (part ∷ parts) ≡ part ∷ filter has_bytes parts = elim [
      | [] ↦ λ e. stays [] (cc)
      | w ∷ more ↦ λ e. stays w (cc)
    ] in
    ap (filter has_bytes) split ∙ by_parts (slice_split is_blank bs) (sym (slice_split-cons_no is_blank b bs other) ∙ split)

-- a line that is more than blanks has as its first word the first part of what stands after the blanks before it
pub words_of-begun : (line begun part : List ℕ) (parts : List (List ℕ)) → begun ≡ trim_start line → 0 < length begun → slice_split is_blank begun ≡ part ∷ parts → words_of line ≡ part ∷ filter has_bytes parts
words_of-begun line begun part parts is some split =
    let by_begun : (t : List ℕ) → trim_start line ≡ t → 0 < length t → slice_split is_blank t ≡ part ∷ parts → words_of t ≡ part ∷ filter has_bytes parts = elim [
      | [] ↦ λ _ some _. absurd (omega arith)
      | b ∷ bs ↦ λ e _ split. words_of-parts b bs part parts (trim_start-first line b bs e) split
    ] in
    sym (words_of-trim_start line) ∙ ap words_of (sym is) ∙ by_begun begun (sym is) some split

-- a line of blanks has no word
pub words_of-blanks : (line begun : List ℕ) → begun ≡ trim_start line → length begun ≡ 0 → words_of line ≡ []
words_of-blanks line begun is none = sym (words_of-trim_start line) ∙ ap words_of (sym is ∙ nil_from_length begun none)

-- ---- parts

-- digits are one part
pub slice_split-digits : (word : List ℕ) → list_all is_digit word ≡ true → slice_split is_dash word ≡ word ∷ []
slice_split-digits [] digits = refl
slice_split-digits (d ∷ ds) digits =
    let parts = and_parts (is_digit d) (list_all is_digit ds) digits in
    let bounds = and_parts (leb 48 d) (leb d 57) parts.0 in
    let other : is_dash d ≡ false = ne_eqb d 45 (λ e. omega (arith, e, leb-true 48 d bounds.0)) in
    slice_split-cons_no is_dash d ds other ∙ ap (onto_first d) (slice_split-digits ds parts.1)

id_of-other : (word : List ℕ) → list_all is_digit word ≡ false → id_of word ≡ None
id_of-other word other =
    ap (λ b. if b && ltb (value_after 0 word) (2 ^ 32) then Some (value_after 0 word) else None) (and_right (has_bytes word && leb (length word) 10) _ other)

-- an id is one part
pub member_of-id : (word : List ℕ) (id : ℕ) → id_of word ≡ Some id → member_of word ≡ Some (member.Vertex id)
member_of-id word id said =
    let by_digits : (b : Bool) → list_all is_digit word ≡ b → member_of word ≡ Some (member.Vertex id) = elim [
      | true ↦ λ digits. ap member_of_parts (slice_split-digits word digits) ∙ ap (option_map (λ v. member.Vertex v)) said
      | false ↦ λ other. let none : None ≡ Some id = sym (id_of-other word other) ∙ said in absurd (cc)
    ] in
    by_digits (list_all is_digit word) refl

edge_said-none : (low high : List ℕ) → id_of high ≡ None → edge_said low high ≡ None
edge_said-none low high none =
    let nothing : (o : Option ℕ) → option_and_then (λ x. option_and_then (edge_of_ends x) None) o ≡ None = elim [ None ↦ refl | Some x ↦ refl ] in
    ap (λ o. option_and_then (λ x. option_and_then (edge_of_ends x) o) (id_of low)) none ∙ nothing (id_of low)

-- a part and then others make a member where the others are one part, and both are ids
pub member_of_parts-more : (low high : List ℕ) → member_of_parts (low ∷ slice_split is_dash high) ≡ edge_said low high
member_of_parts-more low high =
    let by_parts : (parts : List (List ℕ)) → slice_split is_dash high ≡ parts → member_of_parts (low ∷ parts) ≡ edge_said low high = elim [
      | [] ↦ λ e. absurd (omega (arith, length-slice_split is_dash high, ap length e))
      | x ∷ more ↦ elim more as (λ more. slice_split is_dash high ≡ x ∷ more → member_of_parts (low ∷ x ∷ more) ≡ edge_said low high) [
        | [] ↦ λ e. ap (edge_said low) (ap (join_with_byte 45) (sym e) ∙ join_with_byte-slice_split 45 high)
        | y ∷ parts ↦ λ e.
            let by_digits : (b : Bool) → list_all is_digit high ≡ b → id_of high ≡ None = elim [
              | true ↦ λ digits. let one : high ∷ [] ≡ x ∷ y ∷ parts = sym (slice_split-digits high digits) ∙ e in absurd (cc)
              | false ↦ λ other. id_of-other high other
            ] in
            sym (edge_said-none low high (by_digits (list_all is_digit high) refl))
      ]
    ] in
    by_parts (slice_split is_dash high) refl

-- the first byte that passes parts the bytes
pub slice_split-at : (p : ℕ → Bool) (word : List ℕ) (place : ℕ) → position p word ≡ Some place →
    (place < length word) × (slice_split p word ≡ take place word ∷ slice_split p (drop (place + 1) word))
slice_split-at p word place found =
    let first = position_or_len p word in
    let by_test : (b : Bool) → ltb first (length word) ≡ b → cond b (Some first) None ≡ Some place → (place < length word) × (slice_split p word ≡ take place word ∷ slice_split p (drop (place + 1) word)) = elim [
      | true ↦ λ t same.
          let is : first ≡ place = cc in
          let within = ltb-true first (length word) t in
          (omega (arith, is, within), subst (λ n. slice_split p word ≡ take n word ∷ slice_split p (drop (n + 1) word)) is (slice_split_first p word 0 within))
      | false ↦ λ _ same. absurd (cc)
    ] in
    by_test (ltb first (length word)) refl found

-- where none passes they are one part
pub slice_split-one : (p : ℕ → Bool) (word : List ℕ) → position p word ≡ None → slice_split p word ≡ word ∷ []
slice_split-one p word none =
    let first = position_or_len p word in
    let by_test : (b : Bool) → ltb first (length word) ≡ b → cond b (Some first) None ≡ None → slice_split p word ≡ word ∷ [] = elim [
      | true ↦ λ _ same. absurd (cc)
      | false ↦ λ t _. slice_split_none p word (λ k d within. fails_before_first p word k d (omega (arith, within, ltb-false first (length word) t)))
    ] in
    by_test (ltb first (length word)) refl none

-- what a range from a place to the end has
pub rest_all : (word : List ℕ) (from : ℕ) → drop from word ≡ take (length word - from) (drop from word)
rest_all word from = sym (take_all (length word - from) (drop from word) (omega (arith, length-drop from word)))
