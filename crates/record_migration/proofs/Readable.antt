-- What is read can be written again.
use Rattle.std.proofs.Common.{◌≡◌, ℕ, ◌^◌, ◌<◌, Bool, true, false, ◌&&◌, cond, List, [], ◌∷◌, Option, None, Some, refl, subst}
use Rattle.std.specs.Prelude.{codes, nat_lt}
use Rattle.std.specs.List.{AllByRecursion, list_all, slice_split}
use Rattle.std.specs.Option.{option_map, option_and_then}
use Rattle.std.specs.Ordering.{is_eq}
use Rattle.std.specs.Str.{bytes_eq}
use Rattle.std.proofs.lemmas.Bool.{and_parts, false≢true, ltb-true}
use Rattle.std.proofs.lemmas.List.Elements.{All-from_recursion}
use Rattle.std.proofs.lemmas.Option.{option_and_then_some}
use Rattle.graph_types.specs.declared.ids.Mode.{Mode}
use Rattle.graph_types.specs.declared.ids.Mode.TheVariants as mode
use Rattle.graph_types.specs.declared.member.Member.{Member}
use Rattle.graph_types.specs.declared.member.Member.TheVariants as member
use Rattle.graph_types.specs.meaning.Orders.{member_cmp_total}
use Rattle.graph_types.specs.meaning.Piece.{PieceValue, HasLowerFirst, IsOfMode, mode_cmp, mode_of}
use Rattle.line_fields.specs.meaning.Fields.{id_of, is_dash, is_nothing_words, is_number, number_of, value_after, words_of}
use Rattle.record_text.specs.declared.read.RecordLine.{RecordLine}
use Rattle.record_text.specs.declared.read.RecordLine.TheVariants.{Nothing, Head, Rem, Add, Done}
use Rattle.record_text.specs.meaning.Grammar.{are_alike, count_said, edge_of_ends, head_said, member_of, member_of_parts, members_said, piece_made, piece_said, record_of, record_said, stamp_said, stamped_said}
use Rattle.record_text.specs.meaning.Writable.{HasShortIds, IsStamp, IsWritable}
use Rattle.record_text.proofs.Pieces.{Makes-of}
use Rattle.shared_lemmas.proofs.Ascending.{sorted_from_ascending}

option_map_some : {A B : Type 0} (f : A → B) (o : Option A) (y : B) → option_map f o ≡ Some y → (x : A) × (o ≡ Some x) × (f x ≡ y)
option_map_some f None y is = cc
option_map_some f (Some x) y is = (x, refl, cc)

number_fits : (word : List ℕ) (t : ℕ) → number_of 20 word ≡ Some t → t < 2 ^ 64
number_fits word t is =
    let v = value_after 0 word in
    elim (is_number 20 word && nat_lt v (2 ^ 64)) as (λ b. (is_number 20 word && nat_lt v (2 ^ 64)) ≡ b → cond b (Some v) None ≡ Some t → t < 2 ^ 64) [
      | true ↦ λ test same. let e : v ≡ t = cc in subst (λ x. x < 2 ^ 64) e (ltb-true v (2 ^ 64) (and_parts _ _ test).1)
      | false ↦ λ _ same. cc
    ] refl is

id_fits : (word : List ℕ) (v : ℕ) → id_of word ≡ Some v → v < 2 ^ 32
id_fits word t is =
    let v = value_after 0 word in
    elim (is_number 10 word && nat_lt v (2 ^ 32)) as (λ b. (is_number 10 word && nat_lt v (2 ^ 32)) ≡ b → cond b (Some v) None ≡ Some t → t < 2 ^ 32) [
      | true ↦ λ test same. let e : v ≡ t = cc in subst (λ x. x < 2 ^ 32) e (ltb-true v (2 ^ 32) (and_parts _ _ test).1)
      | false ↦ λ _ same. cc
    ] refl is

-- ---- members

abbrev Carries : Member → Type 0
Carries m = HasShortIds m × HasLowerFirst m

edge_read : (x y : ℕ) (m : Member) → x < 2 ^ 32 → y < 2 ^ 32 → edge_of_ends x y ≡ Some m → Carries m
edge_read x y m low high is =
    elim (nat_lt x y) as (λ b. nat_lt x y ≡ b → cond b (Some (member.Edge (x, y))) None ≡ Some m → Carries m) [
      | true ↦ λ test same. let e : member.Edge (x, y) ≡ m = cc in subst Carries e ((low, high), ltb-true x y test)
      | false ↦ λ _ same. cc
    ] refl is

member_read : (parts : List (List ℕ)) (m : Member) → member_of_parts parts ≡ Some m → Carries m
member_read [] m is = cc
member_read (id ∷ []) m is =
    let found = option_map_some (λ v. member.Vertex v) (id_of id) m is in
    subst Carries found.2 (id_fits id found.0 found.1, tt)
member_read (low ∷ high ∷ []) m is =
    option_and_then_some (λ x. option_and_then (edge_of_ends x) (id_of high)) (id_of low) m is (λ x low_is rest.
    option_and_then_some (edge_of_ends x) (id_of high) m rest (λ y high_is made. edge_read x y m (id_fits low x low_is) (id_fits high y high_is) made))
member_read (a ∷ b ∷ c ∷ parts) m is = cc

members_read : (words : List (List ℕ)) (members : List Member) → members_said words ≡ Some members → AllByRecursion HasShortIds members × AllByRecursion HasLowerFirst members
members_read [] members is = let e : [] ≡ members = cc in subst (λ ms. AllByRecursion HasShortIds ms × AllByRecursion HasLowerFirst ms) e (tt, tt)
members_read (word ∷ words) members is =
    option_and_then_some (λ m. option_map (λ ms. m ∷ ms) (members_said words)) (member_of word) members is (λ m m_is rest.
    let others = option_map_some (λ ms. m ∷ ms) (members_said words) members rest in
    let first = member_read (slice_split is_dash word) m m_is in
    let later = members_read words others.0 others.1 in
    subst (λ ms. AllByRecursion HasShortIds ms × AllByRecursion HasLowerFirst ms) others.2 ((first.0, later.0), (first.1, later.1)))

-- ---- pieces

same_kind : (k l : Mode) → is_eq (mode_cmp k l) ≡ true → l ≡ k
same_kind mode.Vertex mode.Vertex t = refl
same_kind mode.Vertex mode.Edge t = absurd (false≢true t)
same_kind mode.Edge mode.Vertex t = absurd (false≢true t)
same_kind mode.Edge mode.Edge t = refl

all_alike : (m : Member) (members : List Member) → list_all (are_alike m) members ≡ true → AllByRecursion (IsOfMode (mode_of m)) members
all_alike m [] alike = tt
all_alike m (n ∷ members) alike = let parts = and_parts _ _ alike in (same_kind (mode_of m) (mode_of n) parts.0, all_alike m members parts.1)

writable : (members : List Member) (piece : PieceValue) → AllByRecursion HasShortIds members → AllByRecursion HasLowerFirst members → piece_made members ≡ Some piece → IsWritable piece
writable [] piece short lower made = cc
writable (m ∷ members) piece short lower made =
    let makes = Makes-of m members piece made in
    subst IsWritable makes.is (record {
      sound = record {
        room = makes.short;
        ascending = sorted_from_ascending member_cmp_total (m ∷ members) makes.ascending;
        of_mode = All-from_recursion (IsOfMode (mode_of m)) (m ∷ members) (refl, all_alike m members makes.alike);
        lower_first = All-from_recursion HasLowerFirst (m ∷ members) lower;
      };
      some = λ none. cc;
      short_ids = All-from_recursion HasShortIds (m ∷ members) short;
    })

piece_read : (words : List (List ℕ)) (piece : PieceValue) → piece_said words ≡ Some piece → IsWritable piece
piece_read words piece is =
    option_and_then_some piece_made (members_said words) piece is (λ members said made.
    let all = members_read words members said in
    writable members piece all.0 all.1 made)

-- ---- lines

-- what a line says can be written
abbrev pub CanBeWritten : RecordLine → Type 0
CanBeWritten Nothing = Unit {0}
CanBeWritten Head = Unit {0}
CanBeWritten (Rem t p) = IsStamp t × IsWritable p
CanBeWritten (Add t p) = IsStamp t × IsWritable p
CanBeWritten (Done t count) = IsStamp t

stamped_read : (word : List ℕ) (t : ℕ) (rest : List (List ℕ)) (said : RecordLine) → IsStamp t → stamped_said word t rest ≡ Some said → CanBeWritten said
stamped_read word t rest said fits is =
    let new : (b : Bool) → cond b (option_map (λ piece. Add t piece) (piece_said rest)) None ≡ Some said → CanBeWritten said = elim [
      | true ↦ λ is. let found = option_map_some (λ piece. Add t piece) (piece_said rest) said is in subst CanBeWritten found.2 (fits, piece_read rest found.0 found.1)
      | false ↦ λ is. cc
    ] in
    let rem : (b : Bool) → cond b (option_map (λ piece. Rem t piece) (piece_said rest)) (cond (bytes_eq word (codes "NEW")) (option_map (λ piece. Add t piece) (piece_said rest)) None) ≡ Some said → CanBeWritten said = elim [
      | true ↦ λ is. let found = option_map_some (λ piece. Rem t piece) (piece_said rest) said is in subst CanBeWritten found.2 (fits, piece_read rest found.0 found.1)
      | false ↦ λ is. new (bytes_eq word (codes "NEW")) is
    ] in
    elim (bytes_eq word (codes "DONE")) as (λ b. cond b (option_map (λ count. Done t count) (count_said rest))
    (cond (bytes_eq word (codes "REM")) (option_map (λ piece. Rem t piece) (piece_said rest)) (cond (bytes_eq word (codes "NEW")) (option_map (λ piece. Add t piece) (piece_said rest)) None)) ≡ Some said → CanBeWritten said) [
      | true ↦ λ is. let found = option_map_some (λ count. Done t count) (count_said rest) said is in subst CanBeWritten found.2 fits
      | false ↦ λ is. rem (bytes_eq word (codes "REM")) is
    ] is

head_read : (number : List ℕ) (rest : List (List ℕ)) (said : RecordLine) → head_said number rest ≡ Some said → CanBeWritten said
head_read number [] said is =
    elim (bytes_eq number (codes "2")) as (λ b. cond b (Some Head) None ≡ Some said → CanBeWritten said) [
      | true ↦ λ same. let e : Head ≡ said = cc in subst CanBeWritten e tt
      | false ↦ λ same. cc
    ] is
head_read number (word ∷ rest) said is = cc

words_read : (words : List (List ℕ)) (said : RecordLine) → record_said words ≡ Some said → CanBeWritten said
words_read [] said is = cc
words_read (word ∷ []) said is = cc
words_read (word ∷ number ∷ rest) said is =
    elim (bytes_eq word (codes "records")) as (λ b. cond b (head_said number rest) (option_and_then (λ t. stamped_said word t rest) (stamp_said number)) ≡ Some said → CanBeWritten said) [
      | true ↦ λ is. head_read number rest said is
      | false ↦ λ is. option_and_then_some (λ t. stamped_said word t rest) (stamp_said number) said is (λ t t_is made. stamped_read word t rest said (number_fits number t t_is) made)
    ] is

pub record_read : (line : List ℕ) (said : RecordLine) → record_of line ≡ Some said → CanBeWritten said
record_read line said is =
    elim (is_nothing_words (words_of line)) as (λ b. cond b (Some Nothing) (record_said (words_of line)) ≡ Some said → CanBeWritten said) [
      | true ↦ λ same. let e : Nothing ≡ said = cc in subst CanBeWritten e tt
      | false ↦ λ is. words_read (words_of line) said is
    ] is
