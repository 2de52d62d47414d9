-- The bytes of a record before the LF that ends it: none of them is one.
use Rattle.std.proofs.Common.{◌≡◌, ℕ, zero, suc, ◌+◌, ◌/◌, ◌%◌, Bool, true, false, not, List, [], ◌∷◌, ◌++◌, nat_lt, eqb, refl, ap, ◌∙◌, arith, if◌then◌else◌}
use Rattle.std.specs.Prelude.{codes, decimal}
use Rattle.std.specs.Fmt.{digits, digits_onto, digit_glyph}
use Rattle.std.specs.List.{list_all, flat_map}
use Rattle.std.proofs.lemmas.Bool.{and_from, ne_eqb}
use Rattle.std.proofs.lemmas.List.Folds.{list_all-append}
use Rattle.graph_types.specs.declared.member.Member.{Member}
use Rattle.graph_types.specs.declared.member.Member.TheVariants as member
use Rattle.job_io.specs.meaning.Lines.{is_lf}
use Rattle.record_text.specs.meaning.Text.{after_space, member_text}

abbrev pub is_inner : ℕ → Bool
is_inner b = not (is_lf b)

-- no byte of the text ends a line
abbrev pub are_inner : List ℕ → Bool
are_inner text = list_all is_inner text

pub inner-append : (xs ys : List ℕ) → are_inner xs ≡ true → are_inner ys ≡ true → are_inner (xs ++ ys) ≡ true
inner-append xs ys first later = list_all-append is_inner xs ys ∙ and_from _ _ first later

-- ---- numbers

inner-glyph : (d : ℕ) → is_inner (digit_glyph false d) ≡ true
inner-glyph d = elim (nat_lt d 10) as (λ b. is_inner (if b then 48 + d else (if false then 55 + d else 87 + d)) ≡ true) [
  | true ↦ ap not (ne_eqb (48 + d) 10 (λ e. omega (arith, e)))
  | false ↦ ap not (ne_eqb (87 + d) 10 (λ e. omega (arith, e)))
]

inner-digits_onto : (k n : ℕ) (acc : List ℕ) → are_inner acc ≡ true → are_inner (digits_onto k 10 false n acc) ≡ true
inner-digits_onto zero n acc inner = inner
inner-digits_onto (suc k) n acc inner =
    let more : are_inner (digit_glyph false (n % 10) ∷ acc) ≡ true = and_from _ _ (inner-glyph (n % 10)) inner in
    elim (eqb (n / 10) 0) as (λ b. are_inner (if b then digit_glyph false (n % 10) ∷ acc else digits_onto k 10 false (n / 10) (digit_glyph false (n % 10) ∷ acc)) ≡ true) [
      | true ↦ more
      | false ↦ inner-digits_onto k (n / 10) (digit_glyph false (n % 10) ∷ acc) more
    ]

pub inner-decimal : (n : ℕ) → are_inner (decimal n) ≡ true
unfolding digits
inner-decimal n = inner-digits_onto 64 n [] refl

-- ---- members

inner-member : (m : Member) → are_inner (after_space (member_text m)) ≡ true
inner-member (member.Vertex v) = inner-decimal v
inner-member (member.Edge e) =
    inner-append (decimal e.0 ++ codes "-") (decimal e.1) (inner-append (decimal e.0) (codes "-") (inner-decimal e.0) refl) (inner-decimal e.1)

pub inner-members : (members : List Member) → are_inner (flat_map (λ m. after_space (member_text m)) members) ≡ true
inner-members [] = refl
inner-members (m ∷ members) =
    inner-append (after_space (member_text m)) (flat_map (λ m. after_space (member_text m)) members) (inner-member m) (inner-members members)
