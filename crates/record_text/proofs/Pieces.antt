-- A piece that is read member by member.
use Rattle.std.proofs.Common.{◌≡◌, ℕ, ◌<◌, ◌≤◌, Bool, true, false, not, ◌&&◌, cond, leb, IsTrue, List, [], ◌∷◌, ◌++◌, length, Option, None, Some, refl, sym, ap, subst, ◌∙◌, arith, append_assoc, append-nil, length-append, if◌then◌else◌}
use Rattle.std.specs.List.{AllByRecursion, list_all, list_any}
use Rattle.std.specs.List.Sorted.{IsStrictlySortedBy}
use Rattle.std.specs.Option.{option_map, option_and_then}
use Rattle.std.specs.Ordering.{is_eq, is_lt}
use Rattle.std.specs.declared.cmp.Ordering.TheVariants.{Less}
use Rattle.std.proofs.lemmas.Bool.{and_parts, and_from, leb-true, le-leb, false≢true}
use Rattle.std.proofs.lemmas.List.Folds.{list_all-append}
use Rattle.graph_types.specs.declared.ids.Mode.{Mode}
use Rattle.graph_types.specs.declared.ids.Mode.TheVariants as mode
use Rattle.graph_types.specs.declared.member.Member.{Member}
use Rattle.graph_types.specs.meaning.Orders.{member_cmp_total}
use Rattle.graph_types.specs.meaning.Piece.{PieceValue, CanJoin, with_joined, member_cmp, member_eq, member_lt, mode_cmp, mode_of, most_members, with_member}
use Rattle.record_text.specs.meaning.Grammar.{are_alike, member_of, members_said, piece_made, piece_said}
use Rattle.graph_types.proofs.Members.{with_member-end}
use Rattle.shared_lemmas.specs.meaning.Ascending.{is_ascending}
use Rattle.shared_lemmas.proofs.Ascending.{IsStrictlySortedBy-append, absent_above, all-below_last, ascending_from_sorted, sorted-one, sorted-parts, sorted_from_ascending}
use Rattle.shared_lemmas.proofs.Claims.{all-append_parts, all-weaker}
use Rattle.shared_lemmas.proofs.Orderings.{Less-is}

-- a first member and others make this piece
pub record Makes (m : Member) (members : List Member) (piece : PieceValue) : Type 0 where
  pub alike : list_all (are_alike m) members ≡ true
  pub ascending : is_ascending member_cmp (m ∷ members) ≡ true
  pub short : length (m ∷ members) ≤ most_members
  pub is : record { mode = mode_of m; members = m ∷ members } ≡ piece

pub Makes-of : (m : Member) (members : List Member) (piece : PieceValue) → piece_made (m ∷ members) ≡ Some piece → Makes m members piece
Makes-of m members piece made =
    let tests : Bool = list_all (are_alike m) members && is_ascending member_cmp (m ∷ members) && leb (length (m ∷ members)) most_members in
    let it : PieceValue = record { mode = mode_of m; members = m ∷ members } in
    elim tests as (λ b. tests ≡ b → cond b (Some it) None ≡ Some piece → Makes m members piece) [
      | true ↦ λ pass same.
          let long = and_parts _ _ pass in
          let parts = and_parts _ _ long.0 in
          record { alike = parts.0; ascending = parts.1; short = leb-true _ _ long.1; is = cc }
      | false ↦ λ _ same. absurd (cc)
    ] refl made

pub piece_made-of : (m : Member) (members : List Member) (piece : PieceValue) → Makes m members piece → piece_made (m ∷ members) ≡ Some piece
piece_made-of m members piece makes =
    let it : PieceValue = record { mode = mode_of m; members = m ∷ members } in
    ap (λ b. if b then Some it else None) (and_from _ _ (and_from _ _ makes.alike makes.ascending) (le-leb _ _ makes.short)) ∙ ap Some makes.is

same_mode : (k l : Mode) → is_eq (mode_cmp k l) ≡ true → k ≡ l
same_mode mode.Vertex mode.Vertex t = refl
same_mode mode.Vertex mode.Edge t = absurd (false≢true t)
same_mode mode.Edge mode.Vertex t = absurd (false≢true t)
same_mode mode.Edge mode.Edge t = refl

pub mode_itself : (k : Mode) → is_eq (mode_cmp k k) ≡ true
mode_itself mode.Vertex = refl
mode_itself mode.Edge = refl

-- ---- one member more

-- a piece that was read, and its last member
pub record IsRead (piece : PieceValue) (last : Member) : Type 0 where
  pub made : piece_made piece.members ≡ Some piece
  pub front : List Member
  pub ends : piece.members ≡ front ++ last ∷ []

pub IsRead-one : (m : Member) → IsRead (record { mode = mode_of m; members = m ∷ [] }) m
IsRead-one m = record { made = refl; front = []; ends = refl }

module _ (piece : PieceValue) (last m first : Member) (rest front : List Member) (makes : Makes first rest piece) (ends : first ∷ rest ≡ front ++ last ∷ []) where
  sorted : IsStrictlySortedBy member_cmp (first ∷ rest)
  sorted = sorted_from_ascending member_cmp_total (first ∷ rest) makes.ascending

  all_below : member_cmp last m ≡ Less → AllByRecursion (λ x. member_cmp x m ≡ Less) (first ∷ rest)
  all_below below =
      subst (AllByRecursion (λ x. member_cmp x m ≡ Less)) (sym ends)
      (all-below_last member_cmp_total front last m (subst (IsStrictlySortedBy member_cmp) ends sorted) below)

  grows : IsTrue (member_lt last m) → CanJoin piece m → Makes first (rest ++ m ∷ []) (with_joined piece m)
  grows above can =
      let below = all_below ((Less-is (member_cmp last m)).0 above) in
      let kind : mode_of m ≡ mode_of first = can.same_mode ∙ ap (λ p. p.mode) (sym makes.is) in
      let alike : are_alike first m ≡ true = ap (λ k. is_eq (mode_cmp (mode_of first) k)) kind ∙ mode_itself (mode_of first) in
      let members : (first ∷ rest) ++ m ∷ [] ≡ with_member piece.members m = sym (with_member-end (first ∷ rest) m below) ∙ ap (λ p. with_member p.members m) makes.is in
      record {
        alike = list_all-append (are_alike first) rest (m ∷ []) ∙ and_from _ _ makes.alike (and_from _ _ alike refl);
        ascending = ascending_from_sorted member_cmp ((first ∷ rest) ++ m ∷ []) (IsStrictlySortedBy-append member_cmp (first ∷ rest) (m ∷ []) sorted (sorted-one member_cmp m)
            (all-weaker (λ x. member_cmp x m ≡ Less) (λ x. AllByRecursion (λ y. member_cmp x y ≡ Less) (m ∷ [])) (λ x less. (less, tt)) (first ∷ rest) below));
        short = omega (arith, can.room, ap (λ p. length p.members) makes.is, length-append rest (m ∷ []));
        is = λ i. record { mode = ap (λ p. p.mode) makes.is i; members = members i };
      }

  joins : (more : List Member) (whole : PieceValue) → Makes first (rest ++ m ∷ more) whole → IsTrue (member_lt last m) × CanJoin piece m
  joins more whole longer =
      let parts = sorted-parts member_cmp (first ∷ rest) (m ∷ more) (sorted_from_ascending member_cmp_total ((first ∷ rest) ++ m ∷ more) longer.ascending) in
      let below : AllByRecursion (λ x. member_cmp x m ≡ Less) (first ∷ rest) =
      all-weaker (λ x. AllByRecursion (λ y. member_cmp x y ≡ Less) (m ∷ more)) (λ x. member_cmp x m ≡ Less) (λ x less. less.0) (first ∷ rest) parts.apart in
      let room : length piece.members < most_members = omega (arith, longer.short, ap (λ p. length p.members) makes.is, length-append rest (m ∷ more)) in
      let alike = and_parts _ _ (and_parts _ _ (sym (list_all-append (are_alike first) rest (m ∷ more)) ∙ longer.alike)).1 in
      let last_below = all-append_parts (λ x. member_cmp x m ≡ Less) front (last ∷ []) (subst (AllByRecursion (λ x. member_cmp x m ≡ Less)) ends below) in (
        ap is_lt last_below.1.0,
        record {
          same_mode = sym (same_mode (mode_of first) (mode_of m) alike.0) ∙ ap (λ p. p.mode) makes.is;
          absent = ap (λ p. not (list_any (member_eq m) p.members)) (sym makes.is) ∙ ap not (absent_above member_cmp_total m (first ∷ rest) below);
          room = room;
        },
      )

-- a piece has a first member
begins : (members : List Member) (piece : PieceValue) → piece_made members ≡ Some piece → (first : Member) × (rest : List Member) × (members ≡ first ∷ rest) × Makes first rest piece
begins [] piece made = absurd (cc)
begins (first ∷ rest) piece made = (first, rest, refl, Makes-of first rest piece made)

pub IsRead-more : (piece : PieceValue) (last m : Member) → IsRead piece last → IsTrue (member_lt last m) × CanJoin piece m → IsRead (with_joined piece m) m × (with_member piece.members m ≡ piece.members ++ m ∷ [])
IsRead-more piece last m read can =
    let begun = begins piece.members piece read.made in
    let grown = grows piece last m begun.0 begun.1 read.front begun.3 (sym begun.2 ∙ read.ends) can.0 can.1 in
    let members : with_member piece.members m ≡ piece.members ++ m ∷ [] = sym (ap (λ p. p.members) grown.is) ∙ ap (λ ms. ms ++ m ∷ []) (sym begun.2) in (
      record {
        made = ap piece_made (sym (ap (λ p. p.members) grown.is)) ∙ piece_made-of begun.0 (begun.1 ++ m ∷ []) (with_joined piece m) grown;
        front = piece.members;
        ends = members;
      },
      members,
    )

-- what follows the members of a piece makes a piece with them only if its first one can
pub joins-next : (piece : PieceValue) (last m : Member) (more : List Member) (whole : PieceValue) → IsRead piece last → piece_made (piece.members ++ m ∷ more) ≡ Some whole → IsTrue (member_lt last m) × CanJoin piece m
joins-next piece last m more whole read made =
    let begun = begins piece.members piece read.made in
    joins piece last m begun.0 begun.1 read.front begun.3 (sym begun.2 ∙ read.ends) more whole
    (Makes-of begun.0 (begun.1 ++ m ∷ more) whole (ap (λ ms. piece_made (ms ++ m ∷ more)) (sym begun.2) ∙ made))

-- ---- one word more

-- the piece that some members make with those that more words say
abbrev pub goes_on : List Member → List (List ℕ) → Option PieceValue
goes_on members words = option_and_then (λ more. piece_made (members ++ more)) (members_said words)

pub goes_on-end : (piece : PieceValue) (last : Member) (words : List (List ℕ)) → IsRead piece last → words ≡ [] → goes_on piece.members words ≡ Some piece
goes_on-end piece last words read none = ap (goes_on piece.members) none ∙ ap piece_made (append-nil piece.members) ∙ read.made

pub goes_on-no_member : (members : List Member) (word : List ℕ) (words : List (List ℕ)) → member_of word ≡ None → goes_on members (word ∷ words) ≡ None
goes_on-no_member members word words none =
    ap (λ o. option_and_then (λ more. piece_made (members ++ more)) (option_and_then (λ m. option_map (λ ms. m ∷ ms) (members_said words)) o)) none

goes_on-member : (members : List Member) (word : List ℕ) (words : List (List ℕ)) (m : Member) → member_of word ≡ Some m → goes_on members (word ∷ words) ≡ goes_on (members ++ m ∷ []) words
goes_on-member members word words m said =
    let by_rest : (o : Option (List Member)) → option_and_then (λ more. piece_made (members ++ more)) (option_map (λ ms. m ∷ ms) o) ≡ option_and_then (λ more. piece_made ((members ++ m ∷ []) ++ more)) o = elim [
      | None ↦ refl
      | Some more ↦ ap piece_made (sym (append_assoc members (m ∷ []) more))
    ] in
    ap (λ o. option_and_then (λ more. piece_made (members ++ more)) (option_and_then (λ m. option_map (λ ms. m ∷ ms) (members_said words)) o)) said
    ∙ by_rest (members_said words)

-- a member that cannot follow
pub goes_on-stops : (piece : PieceValue) (last m : Member) (word : List ℕ) (words : List (List ℕ)) → IsRead piece last → member_of word ≡ Some m → ¬ (IsTrue (member_lt last m) × CanJoin piece m) → goes_on piece.members (word ∷ words) ≡ None
goes_on-stops piece last m word words read said cannot =
    let by_piece : (more : List Member) (o : Option PieceValue) → piece_made (piece.members ++ m ∷ more) ≡ o → o ≡ None = λ more. elim [
      | None ↦ λ _. refl
      | Some whole ↦ λ made. absurd (cannot (joins-next piece last m more whole read made))
    ] in
    let by_rest : (o : Option (List Member)) → option_and_then (λ more. piece_made ((piece.members ++ m ∷ []) ++ more)) o ≡ None = elim [
      | None ↦ refl
      | Some more ↦ ap piece_made (append_assoc piece.members (m ∷ []) more) ∙ by_piece more (piece_made (piece.members ++ m ∷ more)) refl
    ] in
    goes_on-member piece.members word words m said ∙ by_rest (members_said words)

-- a member that follows
pub goes_on-more : (piece : PieceValue) (last m : Member) (word : List ℕ) (words : List (List ℕ)) → IsRead piece last → member_of word ≡ Some m → IsTrue (member_lt last m) × CanJoin piece m → goes_on piece.members (word ∷ words) ≡ goes_on (with_joined piece m).members words
goes_on-more piece last m word words read said can =
    goes_on-member piece.members word words m said ∙ ap (λ ms. goes_on ms words) (sym (IsRead-more piece last m read can).1)

-- the first word
pub piece_said-first : (word : List ℕ) (words : List (List ℕ)) (m : Member) → member_of word ≡ Some m → piece_said (word ∷ words) ≡ goes_on (m ∷ []) words
piece_said-first word words m said = goes_on-member [] word words m said

pub piece_said-no_member : (word : List ℕ) (words : List (List ℕ)) → member_of word ≡ None → piece_said (word ∷ words) ≡ None
piece_said-no_member word words none = goes_on-no_member [] word words none
