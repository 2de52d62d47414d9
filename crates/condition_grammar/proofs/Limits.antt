-- A condition that was read is no larger, as it is written, than what was read.
use Rattle.std.proofs.Common.{◌≡◌, ℕ, zero, suc, ◌+◌, ◌-◌, ◌<◌, ◌≤◌, Bool, true, false, ◌&&◌, IsTrue, ⊎_elim, inl, inr, List, [], ◌∷◌, ◌++◌, length, eqb, nat_lt, nat_le, Option, None, Some, option_map, Ok, Err, codes, refl, sym, ap, subst, ◌∙◌, arith, length-append, if◌then◌else◌}
use Rattle.std.specs.List.{list_all, sum_by}
use Rattle.std.proofs.lemmas.Bool.{and_from, le-leb, lt-ltb, le-ltb, ltb-false, cases_lt}
use Rattle.std.proofs.lemmas.List.Sums.{sum_by-cons, sum_by-append}
use Rattle.std.proofs.lemmas.List.Folds.{list_all-append}
use Rattle.line_fields.specs.meaning.Fields.{number_of}
use Rattle.line_fields.specs.meaning.Names.{Names}
use Rattle.conditions.specs.declared.condition.Cond.{Cond}
use Rattle.conditions.specs.declared.condition.Cond.TheOpen as form
use Rattle.conditions.specs.declared.condition.Cond.TheViews.{roll-Cond}
use Rattle.conditions.specs.declared.condition.Cond.TheFolds.{fold-roll-Cond, map-Cond}
use Rattle.conditions.specs.declared.condition.Factor.{Factor}
use Rattle.conditions.specs.declared.condition.Op.{Op}
use Rattle.conditions.specs.declared.condition.Term.{Term}
use Rattle.conditions.specs.declared.condition.Term.TheVariants as term
use Rattle.conditions.specs.meaning.Written.{WrittenSize, written_size, written_size_by, tokens_at, depth_at, parentheses_needed, term_tokens, factor_tokens, shape_tokens, sum_tokens, are_numbers_within, are_numbers_within_of, IsWithinLimits, most_times, most_bound, most_factors, most_depth, most_tokens}
use Rattle.condition_grammar.specs.declared.fault.ConditionKind.TheVariants.{TooDeep}
use Rattle.condition_grammar.specs.declared.joint.Joint.{Joint}
use Rattle.condition_grammar.specs.declared.joint.Joint.TheVariants.{And, Or}
use Rattle.condition_grammar.specs.declared.term_name.TermName.{TermName}
use Rattle.condition_grammar.specs.meaning.Token.{Token, is_same_token, bytes_in, digits_in, op_in, word, opening, closing, comma, plus, times}
use Rattle.condition_grammar.specs.meaning.Grammar.{Production, Nested, ◌>>=◌, tokens_after, or_bad_form, tokens_past, first_of, at_most, value_up_to, label, bound, operator, term_name, named_term, optional_label, two_labels, term_after_name, term_of, factor, factor_by, use_of, more_uses, sum_of, comparison, neg, joint_word, joined, chain, joined_by, conj, cond_within, nested_within, nothing_after, condition, condition_of}
use Rattle.condition_grammar.proofs.Deriving.{pattern-took, shape_word}
use Rattle.condition_grammar.proofs.Shapes.{shape-fits}
use Rattle.condition_grammar.proofs.Productions.{OfAtoms, OfTerms, alone-read, bind_ok, chain-keeps, comparison-read, condition_of-read, found_ok, label-read, more_uses-keeps, neg-read, ok_same, optional_label-read, some_same, term_behind-read, two_labels-read, use_of-read}

-- how many tokens are left

pub behind-length : (t : Token) (ts rest : List Token) → tokens_after t ts ≡ Some rest → length rest + 1 ≡ length ts
behind-length t [] rest h = absurd (let no : None ≡ Some rest = h in cc)
behind-length t (u ∷ ts) rest h = by_test (is_same_token u t) h
  where
    by_test : (b : Bool) → (if b then Some ts else None) ≡ Some rest → length rest + 1 ≡ length (u ∷ ts)
    by_test true e = let same : Some ts ≡ Some rest = e in let equal : ts ≡ rest = cc in omega (arith, ap length equal)
    by_test false e = absurd (let no : None ≡ Some rest = e in cc)

passed-length : (t : Token) (ts rest : List Token) → tokens_past t ts ≡ Ok rest → length rest + 1 ≡ length ts
passed-length t ts rest h = behind-length t ts rest (found_ok (tokens_after t ts) rest h)

first_of-length : {A : Type 0} (kind : Token → Option A) (ts : List Token) (x : A) (rest : List Token) → first_of kind ts ≡ Some (x, rest) → length rest + 1 ≡ length ts
first_of-length kind [] x rest h = absurd (let no : None ≡ Some (x, rest) = h in cc)
first_of-length {A} kind (t ∷ ts) x rest h = by_kind (kind t) h
  where
    by_kind : (o : Option A) → option_map {U = A × List Token} (λ x. (x, ts)) o ≡ Some (x, rest) → length rest + 1 ≡ length (t ∷ ts)
    by_kind None e = absurd (let no : None ≡ Some (x, rest) = e in cc)
    by_kind (Some y) e = omega (arith, ap (λ (p : A × List Token). length p.1) (some_same e))

label-length : (ts : List Token) (names : Names) (x : ℕ × List Token × Names) → label ts names ≡ Ok x → length x.1 + 1 ≡ length ts
label-length ts names x h =
    let (w, first, is) = label-read ts names x h in
    omega (arith, first_of-length bytes_in ts w.0 w.1 first, ap (λ (y : ℕ × List Token × Names). length y.1) is)

-- terms

abbrev label_tokens : Option ℕ → ℕ
label_tokens None = 0
label_tokens (Some l) = 3

optional_label-tokens : (ts : List Token) (names : Names) (x : Option ℕ × List Token × Names) → optional_label ts names ≡ Ok x → label_tokens x.0 + length x.1 ≤ length ts
optional_label-tokens ts names x h =
    let P : Option ℕ × List Token × Names → Type 0 = λ y. label_tokens y.0 + length y.1 ≤ length ts in
    ⊎_elim (λ equal. subst P equal (omega arith))
    (λ r. subst P r.is (omega (arith, behind-length opening ts r.start r.opens, label-length r.start names r.inner r.reads, passed-length closing r.inner.1 r.end r.closes)))
    (optional_label-read ts names x h)

two_labels-tokens : (ts : List Token) (names : Names) (x : (ℕ × ℕ) × List Token × Names) → two_labels ts names ≡ Ok x → 5 + length x.1 ≤ length ts
two_labels-tokens ts names x h =
    let r = two_labels-read ts names x h in
    omega (
      arith,
      ap (λ (y : (ℕ × ℕ) × List Token × Names). length y.1) r.is,
      passed-length opening ts r.start r.opens,
      label-length r.start names r.first r.reads,
      passed-length comma r.first.1 r.middle r.parts,
      label-length r.middle r.first.2 r.second r.reads_too,
      passed-length closing r.second.1 r.end r.closes,
    )

vertices_tokens : (l : Option ℕ) → term_tokens (term.Vertices l) ≡ 1 + label_tokens l
vertices_tokens None = refl
vertices_tokens (Some l) = refl

edges_tokens : (l : Option ℕ) → term_tokens (term.Edges l) ≡ 1 + label_tokens l
edges_tokens None = refl
edges_tokens (Some l) = refl

-- the tokens of a term, of which its name was taken
abbrev TermFits : List Token → Term × List Token × Names → Type 0
TermFits ts x = term_tokens x.0 + length x.1 ≤ length ts + 1

term_behind-tokens : (n : TermName) (ts : List Token) (names : Names) (x : Term × List Token × Names) → term_after_name n ts names ≡ Ok x → TermFits ts x
term_behind-tokens n ts names x = term_behind-read ts names (TermFits ts) each x n
  where
    each : OfTerms ts names (TermFits ts)
    each = record {
      vertices = λ l read. omega (arith, optional_label-tokens ts names l read, vertices_tokens l.0);
      edges = λ l read. omega (arith, optional_label-tokens ts names l read, edges_tokens l.0);
      joins = λ l read. let few = two_labels-tokens ts names l read in omega (arith, few);
      kinds = omega arith;
      degree = omega arith;
      missing = omega arith;
      least = omega arith;
    }

named_term-length : (ts : List Token) (n : TermName × List Token) → named_term ts ≡ Ok n → length n.1 + 1 ≡ length ts
unfolding named_term
named_term-length ts n h =
    let (w, first, h1) = bind_ok (or_bad_form (first_of bytes_in ts)) _ n h in
    let (k, named, h2) = bind_ok (or_bad_form (term_name w.0)) _ n h1 in
    let equal : (k, w.1) ≡ n = ok_same h2 in
    omega (arith, first_of-length bytes_in ts w.0 w.1 (found_ok (first_of bytes_in ts) w first), ap (λ (y : TermName × List Token). length y.1) equal)

term_of-tokens : (ts : List Token) (names : Names) (x : Term × List Token × Names) → term_of ts names ≡ Ok x → term_tokens x.0 + length x.1 ≤ length ts
unfolding term_of
term_of-tokens ts names x h =
    let (n, named, goes_on) = bind_ok (named_term ts) (λ n. term_after_name n.0 n.1 names) x h in
    omega (arith, named_term-length ts n named, term_behind-tokens n.0 n.1 names x goes_on)

-- uses

value_up_to-le : (most : ℕ) (digits : List ℕ) (n : ℕ) → value_up_to most digits ≡ Ok n → IsTrue (nat_le n most)
value_up_to-le most digits n h = by_number (number_of 10 digits) (found_ok (at_most most (number_of 10 digits)) n h)
  where
    by_test : (m : ℕ) (b : Bool) → nat_le m most ≡ b → (if b then Some m else None) ≡ Some n → IsTrue (nat_le n most)
    by_test m true e same = let is : Some m ≡ Some n = same in let equal : m ≡ n = cc in ap (λ k. nat_le k most) (sym equal) ∙ e
    by_test m false e same = absurd (let no : None ≡ Some n = same in cc)

    by_number : (o : Option ℕ) → at_most most o ≡ Some n → IsTrue (nat_le n most)
    by_number None e = absurd (let no : None ≡ Some n = e in cc)
    by_number (Some m) e = by_test m (nat_le m most) refl e

abbrev times_tokens : ℕ → ℕ
times_tokens n = if eqb n 1 then 0 else 2

times_tokens-le : (n : ℕ) → times_tokens n ≤ 2
times_tokens-le n = elim (eqb n 1) as (λ b. (if b then 0 else 2) ≤ 2) [ true ↦ omega arith | false ↦ omega arith ]

record FactorFits (ts : List Token) (x : ℕ × List Token) : Type 0 where
  few : IsTrue (nat_le x.0 most_times)
  tokens : times_tokens x.0 + length x.1 ≤ length ts

factor-fits : (ts : List Token) (x : ℕ × List Token) → factor ts ≡ Ok x → FactorFits ts x
unfolding factor
factor-fits ts x h = by_digits (first_of digits_in ts) refl h
  where
    by_digits : (o : Option (List ℕ × List Token)) → first_of digits_in ts ≡ o → factor_by ts o ≡ Ok x → FactorFits ts x
    by_digits None e h = let equal : (1, ts) ≡ x = ok_same h in subst (FactorFits ts) equal (record { few = refl; tokens = omega arith })
    by_digits (Some d) e h =
        let (n, value, h1) = bind_ok (value_up_to most_times d.0) (λ n. tokens_past times d.1 >>= λ rest. Ok (n, rest)) x h in
        let (rest, star, h2) = bind_ok (tokens_past times d.1) (λ rest. Ok (n, rest)) x h1 in
        let equal : (n, rest) ≡ x = ok_same h2 in
        subst (FactorFits ts) equal (record {
          few = value_up_to-le most_times d.0 n value;
          tokens = omega (arith, times_tokens-le n, first_of-length digits_in ts d.0 d.1 e, passed-length times d.1 rest star);
        })

record UseFits (ts : List Token) (x : Factor × List Token × Names) : Type 0 where
  few : IsTrue (nat_le x.0.times most_times)
  tokens : factor_tokens x.0 + length x.1 ≤ length ts

use_of-fits : (ts : List Token) (names : Names) (x : Factor × List Token × Names) → use_of ts names ≡ Ok x → UseFits ts x
use_of-fits ts names x h =
    let r = use_of-read ts names x h in
    let fits = factor-fits ts r.times r.counts in
    subst (UseFits ts) r.is (record { few = fits.few; tokens = omega (arith, fits.tokens, term_of-tokens r.times.1 names r.inner r.reads) })

-- sums

-- with room for more uses
record SumFits (ts : List Token) (room : ℕ) (x : List Factor × List Token × Names) : Type 0 where
  some : 1 ≤ length x.0
  few : length x.0 + room ≤ most_factors
  times : list_all (λ (f : Factor). nat_le f.times most_times) x.0 ≡ true
  tokens : sum_tokens x.0 + length x.1 ≤ length ts

sum_tokens-push : (sum : List Factor) (u : Factor) → 1 ≤ length sum → sum_tokens (sum ++ u ∷ []) ≡ sum_tokens sum + 1 + factor_tokens u
sum_tokens-push sum u some =
    let all : sum_by factor_tokens (sum ++ u ∷ []) ≡ sum_by factor_tokens sum + sum_by factor_tokens (u ∷ []) = sum_by-append factor_tokens sum (u ∷ []) in
    let last : sum_by factor_tokens (u ∷ []) ≡ factor_tokens u + sum_by factor_tokens [] = sum_by-cons factor_tokens u [] in
    let none : sum_by factor_tokens [] ≡ 0 = refl in
    omega (arith, all, last, none, length-append sum (u ∷ []))

times-push : (sum : List Factor) (u : Factor) → list_all (λ (f : Factor). nat_le f.times most_times) sum ≡ true → IsTrue (nat_le u.times most_times)
    → list_all (λ (f : Factor). nat_le f.times most_times) (sum ++ u ∷ []) ≡ true
times-push sum u all here =
    let test : Factor → Bool = λ f. nat_le f.times most_times in
    list_all-append test sum (u ∷ []) ∙ ap (λ b. b && (test u && true)) all ∙ ap (λ b. b && true) here

sum_of-fits : (ts : List Token) (names : Names) (x : List Factor × List Token × Names) → sum_of ts names ≡ Ok x → (room : ℕ) × SumFits ts room x
unfolding sum_of
sum_of-fits ts names x h =
    let (u, used, later) = bind_ok (use_of ts names) (λ u. more_uses (most_factors - 1) (u.0 ∷ []) u.1 u.2) x h in
    let fits = use_of-fits ts names u used in
    let one : sum_tokens (u.0 ∷ []) ≡ factor_tokens u.0 = omega (arith, sum_by-cons factor_tokens u.0 []) in
    more_uses-keeps (SumFits ts) one_more (most_factors - 1) (u.0 ∷ []) u.1 u.2 x
    (record { some = omega arith; few = omega arith; times = ap (λ b. b && true) fits.few; tokens = omega (arith, fits.tokens, one) }) later
  where
    one_more : (room : ℕ) (sum : List Factor) (now rest : List Token) (names : Names) (u : Factor × List Token × Names) → SumFits ts (suc room) (sum, now, names) → tokens_after plus now ≡ Some rest → use_of rest names ≡ Ok u
        → SumFits ts room (sum ++ u.0 ∷ [], u.1, u.2)
    one_more room sum now rest names u sums next used =
        let fits = use_of-fits rest names u used in
        let long = length-append sum (u.0 ∷ []) in
        record {
          some = omega (arith, long);
          few = omega (arith, sums.few, long);
          times = times-push sum u.0 sums.times fits.few;
          tokens = omega (arith, sums.tokens, fits.tokens, sum_tokens-push sum u.0 sums.some, behind-length plus now rest next);
        }

-- how much room a condition takes where its place asks for some binding

pub record Fits (asked room : ℕ) (ts : List Token) (x : Cond × List Token × Names) : Type 0 where
  pub numbers : IsTrue (are_numbers_within x.0)
  pub tokens : tokens_at asked (written_size x.0) + length x.1 ≤ length ts
  pub depth : depth_at asked (written_size x.0) ≤ room

pairs-le : (asked : ℕ) (w : WrittenSize) → parentheses_needed asked w ≤ 1
pairs-le asked w = elim (nat_lt w.binding asked) as (λ b. (if b then 1 else 0) ≤ 1) [ true ↦ omega arith | false ↦ omega arith ]

pairs-none : (asked : ℕ) (w : WrittenSize) → asked ≤ w.binding → parentheses_needed asked w ≡ 0
pairs-none asked w bound = ap (λ b. if b then 1 else 0) (le-ltb w.binding asked bound)

pairs-one : (asked : ℕ) (w : WrittenSize) → w.binding < asked → parentheses_needed asked w ≡ 1
pairs-one asked w below = ap (λ b. if b then 1 else 0) (lt-ltb w.binding asked below)

pairs-mono : (asked more : ℕ) (w : WrittenSize) → asked ≤ more → parentheses_needed asked w ≤ parentheses_needed more w
pairs-mono asked more w le = elim (cases_lt w.binding asked) [
  | inl below ↦ omega (arith, pairs-one asked w below, pairs-one more w (omega arith))
  | inr above ↦ omega (arith, pairs-none asked w above)
]

weaker : (asked more room : ℕ) (ts : List Token) (x : Cond × List Token × Names) → asked ≤ more → Fits more room ts x → Fits asked room ts x
weaker asked more room ts x le fits =
    let few = pairs-mono asked more (written_size x.0) le in
    record { numbers = fits.numbers; tokens = omega (arith, fits.tokens, few); depth = omega (arith, fits.depth, few) }

-- what is written, form by form
module _ (x : form.Cond-F Cond) where
  written-form : written_size (roll-Cond x) ≡ written_size_by (map-Cond Cond WrittenSize written_size x)
  written-form = fold-roll-Cond WrittenSize written_size_by x

  numbers-form : are_numbers_within (roll-Cond x) ≡ are_numbers_within_of (map-Cond Cond Bool are_numbers_within x)
  numbers-form = fold-roll-Cond Bool are_numbers_within_of x

-- by what is written of it
form_fits : (asked room : ℕ) (c : Cond) (w : WrittenSize) (ts later : List Token) (names : Names) → written_size c ≡ w → asked ≤ w.binding → IsTrue (are_numbers_within c) → w.tokens + length later ≤ length ts → w.depth ≤ room
    → Fits asked room ts (c, later, names)
form_fits asked room c w ts later names is bound numbers tokens depth =
    let none = pairs-none asked w bound in
    record {
      numbers = numbers;
      tokens = subst (λ (w : WrittenSize). tokens_at asked w + length later ≤ length ts) (sym is) (omega (arith, none));
      depth = subst (λ (w : WrittenSize). depth_at asked w ≤ room) (sym is) (omega (arith, none));
    }

atom_fits : (asked room : ℕ) (x : form.Cond-F Cond) (ts rest : List Token) (names : Names) → written_size_by (map-Cond Cond WrittenSize written_size x) ≡ record { binding = 2; tokens = 1; depth = 0 } → asked ≤ 2
    → are_numbers_within_of (map-Cond Cond Bool are_numbers_within x) ≡ true → length rest + 1 ≡ length ts → Fits asked room ts (roll-Cond x, rest, names)
atom_fits asked room x ts rest names w le numbers taken =
    form_fits asked room (roll-Cond x) (record { binding = 2; tokens = 1; depth = 0 }) ts rest names (written-form x ∙ w) le (numbers-form x ∙ numbers) (omega (arith, taken)) (omega arith)

-- a production whose conditions fit
abbrev FitsAll : ℕ → ℕ → Production Cond → Type 0
FitsAll asked room p = (ts : List Token) (names : Names) (x : Cond × List Token × Names) → p ts names ≡ Ok x → Fits asked room ts x

bound-le : (ts : List Token) (b : ℕ × List Token) → bound ts ≡ Ok b → IsTrue (nat_le b.0 most_bound) × (length b.1 + 1 ≡ length ts)
unfolding bound
bound-le ts b h =
    let (d, first, h1) = bind_ok (or_bad_form (first_of digits_in ts)) (λ d. value_up_to most_bound d.0 >>= λ n. Ok (n, d.1)) b h in
    let (n, value, h2) = bind_ok (value_up_to most_bound d.0) (λ n. Ok (n, d.1)) b h1 in
    let equal : (n, d.1) ≡ b = ok_same h2 in (
      subst (λ (y : ℕ × List Token). IsTrue (nat_le y.0 most_bound)) equal (value_up_to-le most_bound d.0 n value),
      omega (arith, ap (λ (y : ℕ × List Token). length y.1) equal, first_of-length digits_in ts d.0 d.1 (found_ok (first_of digits_in ts) d first)),
    )

operator-length : (ts : List Token) (o : Op × List Token) → operator ts ≡ Ok o → length o.1 + 1 ≡ length ts
unfolding operator
operator-length ts o h = first_of-length op_in ts o.0 o.1 (found_ok (first_of op_in ts) o h)

comparison-fits : (room : ℕ) → FitsAll 2 room comparison
comparison-fits room ts names x h =
    let r = comparison-read ts names x h in
    let (left, fits) = sum_of-fits ts names r.sum r.sums in
    let low = bound-le r.op.1 r.limit r.bounds in
    let c : form.Cond-F Cond = form.Compare r.sum.0 r.op.0 r.limit.0 in
    subst (Fits 2 room ts) r.is
    (form_fits 2 room (roll-Cond c) (record { binding = 2; tokens = sum_tokens r.sum.0 + 2; depth = 0 }) ts r.limit.1 r.sum.2 (written-form c) (omega arith)
    (numbers-form c ∙ and_from _ _ (and_from _ _ (and_from _ _ (le-leb 1 (length r.sum.0) fits.some) (le-leb (length r.sum.0) most_factors (omega (arith, fits.few)))) fits.times) low.0)
    (omega (arith, fits.tokens, operator-length r.sum.1 r.op r.compares, low.1)) (omega arith))

-- what stands after one more `(` or `not`, where `room` more may be open
record FitsInside (room : ℕ) (at_most : Nested) : Type 0 where
  cond : (ts : List Token) (names : Names) (x : Cond × List Token × Names) → at_most.cond ts names ≡ Ok x → (left : ℕ) × (room ≡ left + 1) × Fits 0 left ts x
  neg : (ts : List Token) (names : Names) (x : Cond × List Token × Names) → at_most.neg ts names ≡ Ok x → (left : ℕ) × (room ≡ left + 1) × Fits 2 left ts x

atoms-fit : (at_most : Nested) (room : ℕ) → FitsInside room at_most → (ts : List Token) (names : Names) → OfAtoms at_most ts names (Fits 2 room ts)
atoms-fit at_most room fits ts names = record {
  always = λ rest is. atom_fits 2 room form.True ts rest names refl (omega arith) refl (behind-length (word (codes "true")) ts rest is);
  never = λ rest is. atom_fits 2 room form.False ts rest names refl (omega arith) refl (behind-length (word (codes "false")) ts rest is);
  group = λ rest x is r.
      let (left, room_is, inner) = fits.cond rest names r.inner r.reads in
      let one = pairs-le 2 (written_size r.inner.0) in
      subst (Fits 2 room ts) r.is (record {
        numbers = inner.numbers;
        tokens = omega (arith, inner.tokens, one, behind-length opening ts rest is, passed-length closing r.inner.1 r.end r.closes);
        depth = omega (arith, inner.depth, one, room_is);
      });
  shaped = λ rest s is read.
      let it = pattern-took rest names s read in
      let fits = shape-fits it.used names s.0 s.2 it.derived in
      let long : length (shape_word ∷ rest) ≡ length it.used + length s.1 = ap length it.is ∙ length-append it.used s.1 in
      form_fits 2 room (roll-Cond (form.Shape s.0)) (record { binding = 2; tokens = shape_tokens s.0; depth = 0 }) ts s.1 s.2 (written-form (form.Shape s.0)) (omega arith)
      (numbers-form (form.Shape s.0) ∙ fits.0) (omega (arith, fits.1, long, behind-length shape_word ts rest is)) (omega arith);
  compared = λ x read. comparison-fits room ts names x read;
}

neg-fits : (at_most : Nested) (room : ℕ) → FitsInside room at_most → FitsAll 2 room (neg at_most)
neg-fits at_most room fits ts names x h =
    neg-read at_most ts names (Fits 2 room ts) (atoms-fit at_most room fits ts names) x
    (λ rest c is read.
    let (left, room_is, inner) = fits.neg rest names c read in
    let w = written_size c.0 in
    form_fits 2 room (roll-Cond (form.Not c.0)) (record { binding = 2; tokens = 1 + tokens_at 2 w; depth = 1 + depth_at 2 w }) ts c.1 c.2 (written-form (form.Not c.0)) (omega arith)
    (numbers-form (form.Not c.0) ∙ inner.numbers) (omega (arith, inner.tokens, behind-length (word (codes "not")) ts rest is)) (omega (arith, inner.depth, room_is))) h

-- two conditions, and a joint between them
abbrev JoinFits : ℕ → ℕ → ℕ → Joint → Type 0
JoinFits asked more room joint =
    (l r : Cond) (ts mid rest later : List Token) (names after : Names) → Fits asked room ts (l, mid, names) → length rest + 1 ≡ length mid → Fits more room rest (r, later, after) → Fits asked room ts (joined joint l r, later, after)

and-fits : (room : ℕ) → JoinFits 1 2 room And
and-fits room l r ts mid rest later names after left taken right =
    form_fits 1 room (roll-Cond (form.And l r)) (written_size_by (form.And (written_size l) (written_size r))) ts later after (written-form (form.And l r)) (omega arith)
    (numbers-form (form.And l r) ∙ and_from _ _ left.numbers right.numbers) (omega (arith, left.tokens, right.tokens, taken)) (omega (arith, left.depth, right.depth))

or-fits : (room : ℕ) → JoinFits 0 1 room Or
or-fits room l r ts mid rest later names after left taken right =
    form_fits 0 room (roll-Cond (form.Or l r)) (written_size_by (form.Or (written_size l) (written_size r))) ts later after (written-form (form.Or l r)) (omega arith)
    (numbers-form (form.Or l r) ∙ and_from _ _ left.numbers right.numbers) (omega (arith, left.tokens, right.tokens, taken)) (omega (arith, left.depth, right.depth))

joined-fits : (joint : Joint) (item : Production Cond) (asked more room : ℕ) → asked ≤ more → JoinFits asked more room joint → FitsAll more room item → FitsAll asked room (joined_by joint item)
unfolding joined_by
joined-fits joint item asked more room le joins items ts names x h =
    let (c, read, later) = bind_ok (item ts names) (λ c. chain joint item (length c.1) c.0 c.1 c.2) x h in
    chain-keeps joint item (Fits asked room ts)
    (λ left now rest held c fits next read. joins left c.0 ts now rest c.1 held c.2 fits (behind-length (joint_word joint) now rest next) (items rest held c read)) (length c.1) c.0 c.1 c.2 x
    (weaker asked more room ts c le (items ts names c read)) later

conj-fits : (at_most : Nested) (room : ℕ) → FitsInside room at_most → FitsAll 1 room (conj at_most)
conj-fits at_most room fits = joined-fits And (neg at_most) 1 2 room (omega arith) (and-fits room) (neg-fits at_most room fits)

cond-fits : (at_most : Nested) (room : ℕ) → FitsInside room at_most → FitsAll 0 room (cond_within at_most)
cond-fits at_most room fits = joined-fits Or (conj at_most) 0 1 room (omega arith) (or-fits room) (conj-fits at_most room fits)

inside-fits : (room : ℕ) → FitsInside room (nested_within room)
unfolding nested_within
inside-fits zero = record {
  cond = λ ts names x h. absurd (let no : Err TooDeep ≡ Ok x = h in cc);
  neg = λ ts names x h. absurd (let no : Err TooDeep ≡ Ok x = h in cc);
}
inside-fits (suc room) = record {
  cond = λ ts names x h. (room, omega arith, cond-fits (nested_within room) room (inside-fits room) ts names x h);
  neg = λ ts names x h. (room, omega arith, neg-fits (nested_within room) room (inside-fits room) ts names x h);
}

condition-within : (ts : List Token) (names : Names) (x : Cond × Names) → length ts ≤ most_tokens → condition ts names ≡ Ok x → IsWithinLimits x.0
unfolding condition
condition-within ts names x few h =
    let (c, read, ended) = bind_ok (cond_within (nested_within most_depth) ts names) nothing_after x h in
    let fits = cond-fits (nested_within most_depth) most_depth (inside-fits most_depth) ts names c read in
    subst IsWithinLimits (ap (λ (y : Cond × Names). y.0) (alone-read c x ended)) (record { numbers = fits.numbers; depth = omega (arith, fits.depth); tokens = omega (arith, fits.tokens) })

-- a condition that was read is no larger than one may be
pub condition_of-within : (text : List ℕ) (names : Names) (x : Cond × Names) → condition_of text names ≡ Ok x → IsWithinLimits x.0
condition_of-within text names x h =
    let r = condition_of-read text names x h in
    condition-within r.tokens names x (ltb-false most_tokens (length r.tokens) r.few) r.reads
