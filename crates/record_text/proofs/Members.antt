-- The end of a line with members, and one more member before them.
use Rattle.std.proofs.Common.{◌≡◌, ℕ, zero, suc, ◌+◌, ◌*◌, ◌≤◌, List, [], ◌∷◌, ◌++◌, length, drop, Some, sym, ap, ◌∙◌, append_assoc, arith}
use Rattle.std.specs.Prelude.{codes, decimal, slice_get}
use Rattle.std.specs.List.{flat_map}
use Rattle.graph_types.specs.declared.member.Member.{Member}
use Rattle.record_text.specs.meaning.Text.{member_text, record_line, after_space}

abbrev said : Member → List ℕ
said m = after_space (member_text m)

-- each of these members after a space, and the end of a line
abbrev pub end_of : List Member → List ℕ
end_of members = flat_map said members ++ codes "\n"

-- the line has the members from this place on
pub record HasFrom (members : List Member) (line : List ℕ) (place : ℕ) : Type 0 where
  pub text : line ≡ end_of (drop place members)
  pub short : length line + 22 * place ≤ 1 + 22 * length members

end_of-before : (members : List Member) (place : ℕ) (m : Member) → slice_get members place ≡ Some m → end_of (drop place members) ≡ said m ++ end_of (drop (suc place) members)
end_of-before [] place m at = cc
end_of-before (first ∷ members) zero m at = ap (λ x. end_of (x ∷ members)) (let e : first ≡ m = cc in e) ∙ append_assoc (said m) _ _
end_of-before (first ∷ members) (suc place) m at = end_of-before members place m at

-- the member before these
pub HasFrom-more : (members : List Member) (line after : List ℕ) (place later : ℕ) (m : Member) → later ≡ suc place →
    HasFrom members line later → slice_get members place ≡ Some m → after ≡ said m ++ line → length after ≤ length line + 22 →
    HasFrom members after place
HasFrom-more members line after place later m next has at text short = record {
  text = text ∙ ap (λ xs. said m ++ xs) (has.text ∙ ap (λ n. end_of (drop n members)) next) ∙ sym (end_of-before members place m at);
  short = omega (arith, next, short, has.short);
}

-- a record begins with its word and its timestamp
pub line_begun : (word : List ℕ) (t : ℕ) (members : List Member) (start line : List ℕ) → start ≡ word ++ after_space (decimal t) → line ≡ start ++ flat_map said members ++ codes "\n" → line ≡ record_line word t members
line_begun word t members start line begins is = is ∙ ap (λ s. s ++ flat_map said members ++ codes "\n") begins
