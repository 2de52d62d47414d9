-- What a production read, taken apart into what its parts read.
use Rattle.std.proofs.Common.{◌≡◌, ℕ, zero, suc, Bool, true, false, ◌⊎◌, inl, inr, List, [], ◌∷◌, ◌++◌, length, nat_lt, Option, None, Some, Result, Ok, Err, codes, refl, ap, subst, if◌then◌else◌}
use Rattle.line_fields.specs.meaning.Fields.{is_label_word}
use Rattle.line_fields.specs.meaning.Names.{Names}
use Rattle.conditions.specs.declared.condition.Cond.{Cond}
use Rattle.conditions.specs.declared.condition.Cond.TheOpen as form
use Rattle.conditions.specs.declared.condition.Cond.TheViews.{roll-Cond}
use Rattle.conditions.specs.declared.condition.Factor.{Factor}
use Rattle.conditions.specs.declared.pattern.Pattern.{Pattern}
use Rattle.conditions.specs.declared.condition.Op.{Op}
use Rattle.conditions.specs.declared.condition.Term.{Term}
use Rattle.conditions.specs.declared.condition.Term.TheVariants as term
use Rattle.conditions.specs.meaning.Written.{most_tokens}
use Rattle.condition_grammar.specs.declared.fault.ConditionKind.TheVariants.{BadForm, TooLong}
use Rattle.condition_grammar.specs.declared.joint.Joint.{Joint}
use Rattle.condition_grammar.specs.declared.term_name.TermName.{TermName}
use Rattle.condition_grammar.specs.declared.term_name.TermName.TheVariants as name
use Rattle.condition_grammar.specs.meaning.Token.{Token, bytes_in, word, opening, closing, comma, plus}
use Rattle.condition_grammar.specs.meaning.Lexing.{tokens_of}
use Rattle.condition_grammar.specs.meaning.Grammar.{Production, ReadResult, Nested, ◌>>=◌, tokens_after, if_present, or_bad_form, tokens_past, first_of, label, label_number, bound, operator, label_in_parentheses, optional_label, two_labels, term_after_name, term_of, factor, use_of, more_uses, sum_of, comparison, cond_in_parentheses, atom, neg, more_items, join_after, joint_word, joined, chain, pattern_of, nothing_after, condition, condition_of_tokens, condition_of}

pub ok_same : {A E : Type 0} {x y : A} → ◌≡◌ {A = Result A E} (Ok x) (Ok y) → x ≡ y
ok_same h = cc

pub some_same : {A : Type 0} {x y : A} → Some x ≡ Some y → x ≡ y
some_same h = cc

pub bind_ok : {A B E : Type 0} (r : Result A E) (f : A → Result B E) (y : B) → (r >>= f) ≡ Ok y → (x : A) × (r ≡ Ok x) × (f x ≡ Ok y)
bind_ok (Ok x) f y h = (x, refl, h)
bind_ok {A} {B} {E} (Err e) f y h = absurd (let no : ◌≡◌ {A = Result B E} (Err e) (Ok y) = h in cc)

pub found_ok : {A : Type 0} (o : Option A) (y : A) → or_bad_form o ≡ Ok y → o ≡ Some y
found_ok (Some x) y h = ap Some (ok_same h)
found_ok {A} None y h = absurd (let no : Err BadForm ≡ Ok y = h in cc)

pub either_ok : {A : Type 0} (o : Option (List Token)) (present : List Token → ReadResult A) (absent : ReadResult A) (y : A × List Token × Names) → if_present o present absent ≡ Ok y
    → ((rest : List Token) × (o ≡ Some rest) × (present rest ≡ Ok y)) ⊎ (absent ≡ Ok y)
either_ok (Some rest) present absent y h = inl (rest, refl, h)
either_ok None present absent y h = inr h

pub chosen_ok : {A E : Type 0} (b : Bool) (e : E) (x y : A) → (if b then Ok x else Err e) ≡ Ok y → x ≡ y
chosen_ok true e x y h = ok_same h
chosen_ok {A} {E} false e x y h = absurd (let no : ◌≡◌ {A = Result A E} (Err e) (Ok y) = h in cc)

-- a label, and labels in parentheses

abbrev pub labelled : Names → List ℕ × List Token → ℕ × List Token × Names
labelled names w = ((label_number names w.0).0, w.1, (label_number names w.0).1)

pub label-read : (ts : List Token) (names : Names) (x : ℕ × List Token × Names) → label ts names ≡ Ok x → (w : List ℕ × List Token) × (first_of bytes_in ts ≡ Some w) × (labelled names w ≡ x)
unfolding label
label-read ts names x h =
    let (w, first, chosen) = bind_ok (or_bad_form (first_of bytes_in ts)) (λ w. if is_label_word w.0 then Ok (labelled names w) else Err BadForm) x h in
    (w, found_ok (first_of bytes_in ts) w first, chosen_ok (is_label_word w.0) BadForm (labelled names w) x chosen)

pub record ReadLabel (ts : List Token) (names : Names) (x : Option ℕ × List Token × Names) : Type 0 where
  pub start : List Token
  pub opens : tokens_after opening ts ≡ Some start
  pub inner : ℕ × List Token × Names
  pub reads : label start names ≡ Ok inner
  pub end : List Token
  pub closes : tokens_past closing inner.1 ≡ Ok end
  pub is : (Some inner.0, end, inner.2) ≡ x

pub optional_label-read : (ts : List Token) (names : Names) (x : Option ℕ × List Token × Names) → optional_label ts names ≡ Ok x → ((None, ts, names) ≡ x) ⊎ ReadLabel ts names x
unfolding optional_label
optional_label-read ts names x h = by_opening (tokens_after opening ts) refl h
  where
    by_opening : (o : Option (List Token)) → tokens_after opening ts ≡ o → label_in_parentheses ts names o ≡ Ok x → ((None, ts, names) ≡ x) ⊎ ReadLabel ts names x
    by_opening None e h = inl (ok_same h)
    by_opening (Some start) e h =
        let (l, read, goes_on) = bind_ok (label start names) (λ l. tokens_past closing l.1 >>= λ end. Ok (Some l.0, end, l.2)) x h in
        let (end, close, done) = bind_ok (tokens_past closing l.1) (λ end. Ok (Some l.0, end, l.2)) x goes_on in
        inr (record { start = start; opens = e; inner = l; reads = read; end = end; closes = close; is = ok_same done })

pub record ReadTwo (ts : List Token) (names : Names) (x : (ℕ × ℕ) × List Token × Names) : Type 0 where
  pub start : List Token
  pub opens : tokens_past opening ts ≡ Ok start
  pub first : ℕ × List Token × Names
  pub reads : label start names ≡ Ok first
  pub middle : List Token
  pub parts : tokens_past comma first.1 ≡ Ok middle
  pub second : ℕ × List Token × Names
  pub reads_too : label middle first.2 ≡ Ok second
  pub end : List Token
  pub closes : tokens_past closing second.1 ≡ Ok end
  pub is : ((first.0, second.0), end, second.2) ≡ x

pub two_labels-read : (ts : List Token) (names : Names) (x : (ℕ × ℕ) × List Token × Names) → two_labels ts names ≡ Ok x → ReadTwo ts names x
unfolding two_labels
two_labels-read ts names x h =
    let (start, open_is, h1) = bind_ok (tokens_past opening ts) _ x h in
    let (l, read, h2) = bind_ok (label start names) _ x h1 in
    let (middle, comma_is, h3) = bind_ok (tokens_past comma l.1) _ x h2 in
    let (m, read_too, h4) = bind_ok (label middle l.2) _ x h3 in
    let (end, close_is, h5) = bind_ok (tokens_past closing m.1) _ x h4 in
    record {
      start = start;
      opens = open_is;
      first = l;
      reads = read;
      middle = middle;
      parts = comma_is;
      second = m;
      reads_too = read_too;
      end = end;
      closes = close_is;
      is = ok_same h5;
    }

-- what is claimed of each term that may follow its name
pub record OfTerms (ts : List Token) (names : Names) (P : Term × List Token × Names → Type 0) : Type 0 where
  pub vertices : (l : Option ℕ × List Token × Names) → optional_label ts names ≡ Ok l → P (term.Vertices l.0, l.1, l.2)
  pub edges : (l : Option ℕ × List Token × Names) → optional_label ts names ≡ Ok l → P (term.Edges l.0, l.1, l.2)
  pub joins : (l : (ℕ × ℕ) × List Token × Names) → two_labels ts names ≡ Ok l → P (term.Joins l.0.0 l.0.1, l.1, l.2)
  pub kinds : P (term.Kinds, ts, names)
  pub degree : P (term.Degree, ts, names)
  pub missing : P (term.Missing, ts, names)
  pub least : P (term.Least, ts, names)

module _ (ts : List Token) (names : Names) (P : Term × List Token × Names → Type 0) (each : OfTerms ts names P) (x : Term × List Token × Names) where
  plain : (t : Term) → P (t, ts, names) → ◌≡◌ {A = ReadResult Term} (Ok (t, ts, names)) (Ok x) → P x
  plain t holds h = let equal : (t, ts, names) ≡ x = ok_same h in subst P equal holds

  pub term_behind-read : (n : TermName) → term_after_name n ts names ≡ Ok x → P x
  unfolding term_after_name
  term_behind-read name.Vertices h =
      let (l, read, done) = bind_ok (optional_label ts names) (λ l. Ok (term.Vertices l.0, l.1, l.2)) x h in
      let equal : (term.Vertices l.0, l.1, l.2) ≡ x = ok_same done in
      subst P equal (each.vertices l read)
  term_behind-read name.Edges h =
      let (l, read, done) = bind_ok (optional_label ts names) (λ l. Ok (term.Edges l.0, l.1, l.2)) x h in
      let equal : (term.Edges l.0, l.1, l.2) ≡ x = ok_same done in
      subst P equal (each.edges l read)
  term_behind-read name.Joins h =
      let (l, read, done) = bind_ok (two_labels ts names) (λ l. Ok (term.Joins l.0.0 l.0.1, l.1, l.2)) x h in
      let equal : (term.Joins l.0.0 l.0.1, l.1, l.2) ≡ x = ok_same done in
      subst P equal (each.joins l read)
  term_behind-read name.Kinds h = plain term.Kinds each.kinds h
  term_behind-read name.Degree h = plain term.Degree each.degree h
  term_behind-read name.Missing h = plain term.Missing each.missing h
  term_behind-read name.Least h = plain term.Least each.least h

-- uses

pub record ReadUse (ts : List Token) (names : Names) (x : Factor × List Token × Names) : Type 0 where
  pub times : ℕ × List Token
  pub counts : factor ts ≡ Ok times
  pub inner : Term × List Token × Names
  pub reads : term_of times.1 names ≡ Ok inner
  pub is : (record { times = times.0; term = inner.0 }, inner.1, inner.2) ≡ x

pub use_of-read : (ts : List Token) (names : Names) (x : Factor × List Token × Names) → use_of ts names ≡ Ok x → ReadUse ts names x
unfolding use_of
use_of-read ts names x h =
    let (n, counted, h1) = bind_ok (factor ts) (λ n. term_of n.1 names >>= λ t. Ok (record { times = n.0; term = t.0 }, t.1, t.2)) x h in
    let (t, named, h2) = bind_ok (term_of n.1 names) (λ t. Ok (record { times = n.0; term = t.0 }, t.1, t.2)) x h1 in
    record { times = n; counts = counted; inner = t; reads = named; is = ok_same h2 }

-- What one use more keeps, all uses keep. P tells the room for uses, and what was read so far.
module _ (P : ℕ → List Factor × List Token × Names → Type 0)
    (one : (room : ℕ) (sum : List Factor) (ts rest : List Token) (names : Names) (u : Factor × List Token × Names) → P (suc room) (sum, ts, names) → tokens_after plus ts ≡ Some rest → use_of rest names ≡ Ok u → P room (sum ++ u.0 ∷ [], u.1, u.2))
  where
    pub more_uses-keeps : (room : ℕ) (sum : List Factor) (ts : List Token) (names : Names) (x : List Factor × List Token × Names) → P room (sum, ts, names) → more_uses room sum ts names ≡ Ok x → (left : ℕ) × P left x
    unfolding more_uses
    more_uses-keeps zero sum ts names x holds h = ends (either_ok (tokens_after plus ts) (λ _. Err BadForm) (Ok (sum, ts, names)) x h)
      where
        ends : ((rest : List Token) × (tokens_after plus ts ≡ Some rest) × (◌≡◌ {A = ReadResult (List Factor)} (Err BadForm) (Ok x))) ⊎ (◌≡◌ {A = ReadResult (List Factor)} (Ok (sum, ts, names)) (Ok x)) → (left : ℕ) × P left x
        ends (inl (rest, is, lie)) = absurd (cc)
        ends (inr same) = let equal : (sum, ts, names) ≡ x = ok_same same in (zero, subst (P zero) equal holds)
    more_uses-keeps (suc room) sum ts names x holds h =
        elim (either_ok (tokens_after plus ts) (λ rest. use_of rest names >>= λ u. more_uses room (sum ++ u.0 ∷ []) u.1 u.2) (Ok (sum, ts, names)) x h) [
          | inl s ↦
              let (u, used, later) = bind_ok (use_of s.0 names) (λ u. more_uses room (sum ++ u.0 ∷ []) u.1 u.2) x s.2 in
              more_uses-keeps room (sum ++ u.0 ∷ []) u.1 u.2 x (one room sum ts s.0 names u holds s.1 used) later
          | inr same ↦ (suc room, subst (P (suc room)) (ok_same same) holds)
        ]

-- conditions

pub record ReadComparison (ts : List Token) (names : Names) (x : Cond × List Token × Names) : Type 0 where
  pub sum : List Factor × List Token × Names
  pub sums : sum_of ts names ≡ Ok sum
  pub op : Op × List Token
  pub compares : operator sum.1 ≡ Ok op
  pub limit : ℕ × List Token
  pub bounds : bound op.1 ≡ Ok limit
  pub is : (roll-Cond (form.Compare sum.0 op.0 limit.0), limit.1, sum.2) ≡ x

pub comparison-read : (ts : List Token) (names : Names) (x : Cond × List Token × Names) → comparison ts names ≡ Ok x → ReadComparison ts names x
unfolding comparison
comparison-read ts names x h =
    let (s, summed, h1) = bind_ok (sum_of ts names) (λ s. operator s.1 >>= λ o. bound o.1 >>= λ b. Ok (roll-Cond (form.Compare s.0 o.0 b.0), b.1, s.2)) x h in
    let (o, compared, h2) = bind_ok (operator s.1) (λ o. bound o.1 >>= λ b. Ok (roll-Cond (form.Compare s.0 o.0 b.0), b.1, s.2)) x h1 in
    let (b, bounded, h3) = bind_ok (bound o.1) (λ b. Ok (roll-Cond (form.Compare s.0 o.0 b.0), b.1, s.2)) x h2 in
    record { sum = s; sums = summed; op = o; compares = compared; limit = b; bounds = bounded; is = ok_same h3 }

pub record ReadGroup (within : Nested) (ts : List Token) (names : Names) (x : Cond × List Token × Names) : Type 0 where
  pub inner : Cond × List Token × Names
  pub reads : within.cond ts names ≡ Ok inner
  pub end : List Token
  pub closes : tokens_past closing inner.1 ≡ Ok end
  pub is : (inner.0, end, inner.2) ≡ x

pub grouped-read : (within : Nested) (ts : List Token) (names : Names) (x : Cond × List Token × Names) → cond_in_parentheses within ts names ≡ Ok x → ReadGroup within ts names x
grouped-read within ts names x h =
    let (c, read, h1) = bind_ok (within.cond ts names) (λ c. tokens_past closing c.1 >>= λ end. Ok (c.0, end, c.2)) x h in
    let (end, close, h2) = bind_ok (tokens_past closing c.1) (λ end. Ok (c.0, end, c.2)) x h1 in
    record { inner = c; reads = read; end = end; closes = close; is = ok_same h2 }

-- what is claimed of each atom
pub record OfAtoms (within : Nested) (ts : List Token) (names : Names) (P : Cond × List Token × Names → Type 0) : Type 0 where
  pub always : (rest : List Token) → tokens_after (word (codes "true")) ts ≡ Some rest → P (roll-Cond form.True, rest, names)
  pub never : (rest : List Token) → tokens_after (word (codes "false")) ts ≡ Some rest → P (roll-Cond form.False, rest, names)
  pub group : (rest : List Token) (x : Cond × List Token × Names) → tokens_after opening ts ≡ Some rest → ReadGroup within rest names x → P x
  pub shaped : (rest : List Token) (s : Pattern × List Token × Names) → tokens_after (word (codes "shape")) ts ≡ Some rest → pattern_of rest names ≡ Ok s → P (roll-Cond (form.Shape s.0), s.1, s.2)
  pub compared : (x : Cond × List Token × Names) → comparison ts names ≡ Ok x → P x

module _ (within : Nested) (ts : List Token) (names : Names) (P : Cond × List Token × Names → Type 0) (each : OfAtoms within ts names P) (x : Cond × List Token × Names) where
  pub atom-read : atom within ts names ≡ Ok x → P x
  unfolding atom
  atom-read h = by_true (either_ok (tokens_after (word (codes "true")) ts) _ _ x h)
    where
      plain_cond : (c : form.Cond-F Cond) (rest : List Token) → P (roll-Cond c, rest, names) → ◌≡◌ {A = ReadResult Cond} (Ok (roll-Cond c, rest, names)) (Ok x) → P x
      plain_cond c rest holds h = let equal : (roll-Cond c, rest, names) ≡ x = ok_same h in subst P equal holds

      by_shape : ((rest : List Token) × (tokens_after (word (codes "shape")) ts ≡ Some rest) × ((pattern_of rest names >>= λ s. Ok (roll-Cond (form.Shape s.0), s.1, s.2)) ≡ Ok x)) ⊎ (comparison ts names ≡ Ok x) → P x
      by_shape (inl (rest, is, goes_on)) =
          let (s, read, done) = bind_ok (pattern_of rest names) (λ s. Ok (roll-Cond (form.Shape s.0), s.1, s.2)) x goes_on in
          let equal : (roll-Cond (form.Shape s.0), s.1, s.2) ≡ x = ok_same done in
          subst P equal (each.shaped rest s is read)
      by_shape (inr goes_on) = each.compared x goes_on

      by_opening : ((rest : List Token) × (tokens_after opening ts ≡ Some rest) × (cond_in_parentheses within rest names ≡ Ok x)) ⊎ ((if_present (tokens_after (word (codes "shape")) ts) (λ rest. pattern_of rest names >>= λ s. Ok (roll-Cond (form.Shape s.0), s.1, s.2)) (comparison ts names)) ≡ Ok x) → P x
      by_opening (inl (rest, is, goes_on)) = each.group rest x is (grouped-read within rest names x goes_on)
      by_opening (inr goes_on) = by_shape (either_ok (tokens_after (word (codes "shape")) ts) _ _ x goes_on)

      by_false : ((rest : List Token) × (tokens_after (word (codes "false")) ts ≡ Some rest) × (◌≡◌ {A = ReadResult Cond} (Ok (roll-Cond form.False, rest, names)) (Ok x)))
          ⊎ (if_present (tokens_after opening ts) (λ rest. cond_in_parentheses within rest names) (if_present (tokens_after (word (codes "shape")) ts) (λ rest. pattern_of rest names >>= λ s. Ok (roll-Cond (form.Shape s.0), s.1, s.2)) (comparison ts names)) ≡ Ok x) → P x
      by_false (inl (rest, is, goes_on)) = plain_cond form.False rest (each.never rest is) goes_on
      by_false (inr goes_on) = by_opening (either_ok (tokens_after opening ts) _ _ x goes_on)

      by_true : ((rest : List Token) × (tokens_after (word (codes "true")) ts ≡ Some rest) × (◌≡◌ {A = ReadResult Cond} (Ok (roll-Cond form.True, rest, names)) (Ok x)))
          ⊎ (if_present (tokens_after (word (codes "false")) ts) (λ rest. Ok (roll-Cond form.False, rest, names)) (if_present (tokens_after opening ts) (λ rest. cond_in_parentheses within rest names) (if_present (tokens_after (word (codes "shape")) ts) (λ rest. pattern_of rest names >>= λ s. Ok (roll-Cond (form.Shape s.0), s.1, s.2)) (comparison ts names))) ≡ Ok x) → P x
      by_true (inl (rest, is, goes_on)) = plain_cond form.True rest (each.always rest is) goes_on
      by_true (inr goes_on) = by_false (either_ok (tokens_after (word (codes "false")) ts) _ _ x goes_on)

  pub neg-read : ((rest : List Token) (c : Cond × List Token × Names) → tokens_after (word (codes "not")) ts ≡ Some rest → within.neg rest names ≡ Ok c → P (roll-Cond (form.Not c.0), c.1, c.2))
      → neg within ts names ≡ Ok x → P x
  unfolding neg
  neg-read negated h = by_not (either_ok (tokens_after (word (codes "not")) ts) (λ rest. within.neg rest names >>= λ c. Ok (roll-Cond (form.Not c.0), c.1, c.2)) (atom within ts names) x h)
    where
      by_not : ((rest : List Token) × (tokens_after (word (codes "not")) ts ≡ Some rest) × ((within.neg rest names >>= λ c. Ok (roll-Cond (form.Not c.0), c.1, c.2)) ≡ Ok x)) ⊎ (atom within ts names ≡ Ok x) → P x
      by_not (inl (rest, is, goes_on)) =
          let (c, read, done) = bind_ok (within.neg rest names) (λ c. Ok (roll-Cond (form.Not c.0), c.1, c.2)) x goes_on in
          let equal : (roll-Cond (form.Not c.0), c.1, c.2) ≡ x = ok_same done in
          subst P equal (negated rest c is read)
      by_not (inr goes_on) = atom-read goes_on

-- what one item more keeps, all items keep
module _ {S : Type 0} (separator : Token) (item : S → Production S) (P : S × List Token × Names → Type 0)
    (one : (so_far : S) (ts rest : List Token) (names : Names) (r : S × List Token × Names) → P (so_far, ts, names) → tokens_after separator ts ≡ Some rest → item so_far rest names ≡ Ok r → P r)
  where
    pub items-keep : (turns : ℕ) (so_far : S) (ts : List Token) (names : Names) (x : S × List Token × Names) → P (so_far, ts, names) → more_items separator item turns so_far ts names ≡ Ok x → P x
    unfolding more_items
    items-keep zero so_far ts names x holds h = let equal : (so_far, ts, names) ≡ x = ok_same h in subst P equal holds
    items-keep (suc turns) so_far ts names x holds h =
        elim (either_ok (tokens_after separator ts) (λ rest. item so_far rest names >>= λ r. more_items separator item turns r.0 r.1 r.2) (Ok (so_far, ts, names)) x h) [
          | inl s ↦
              let (r, read, later) = bind_ok (item so_far s.0 names) (λ r. more_items separator item turns r.0 r.1 r.2) x s.2 in
              items-keep turns r.0 r.1 r.2 x (one so_far ts s.0 names r holds s.1 read) later
          | inr same ↦ subst P (ok_same same) holds
        ]

-- what one operand more keeps, the whole chain keeps
module _ (joint : Joint) (item : Production Cond) (P : Cond × List Token × Names → Type 0)
    (one : (left : Cond) (ts rest : List Token) (names : Names) (c : Cond × List Token × Names) → P (left, ts, names) → tokens_after (joint_word joint) ts ≡ Some rest → item rest names ≡ Ok c → P (joined joint left c.0, c.1, c.2))
  where
    pub chain-keeps : (turns : ℕ) (left : Cond) (ts : List Token) (names : Names) (x : Cond × List Token × Names) → P (left, ts, names) → chain joint item turns left ts names ≡ Ok x → P x
    chain-keeps = items-keep (joint_word joint) (join_after joint item) P (λ left ts rest names r holds next read.
        let (c, reads, done) = bind_ok (item rest names) (λ c. Ok (joined joint left c.0, c.1, c.2)) r read in
        let equal : (joined joint left c.0, c.1, c.2) ≡ r = ok_same done in
        subst P equal (one left ts rest names c holds next reads))

-- whole conditions

pub alone-read : (c : Cond × List Token × Names) (x : Cond × Names) → nothing_after c ≡ Ok x → (c.0, c.2) ≡ x
alone-read (c, [], names) x h = ok_same h
alone-read (c, t ∷ ts, names) x h = absurd (let no : Err BadForm ≡ Ok x = h in cc)

pub record ReadWhole (text : List ℕ) (names : Names) (x : Cond × Names) : Type 0 where
  pub tokens : List Token
  pub cut : tokens_of text ≡ Some tokens
  pub few : nat_lt most_tokens (length tokens) ≡ false
  pub reads : condition tokens names ≡ Ok x

pub condition_of-read : (text : List ℕ) (names : Names) (x : Cond × Names) → condition_of text names ≡ Ok x → ReadWhole text names x
unfolding condition_of
condition_of-read text names x h = by_tokens (tokens_of text) refl h
  where
    by_length : (ts : List Token) (b : Bool) → tokens_of text ≡ Some ts → nat_lt most_tokens (length ts) ≡ b → (if b then Err TooLong else condition ts names) ≡ Ok x → ReadWhole text names x
    by_length ts true cut e goes_on = absurd (let no : Err TooLong ≡ Ok x = goes_on in cc)
    by_length ts false cut e goes_on = record { tokens = ts; cut = cut; few = e; reads = goes_on }

    by_tokens : (o : Option (List Token)) → tokens_of text ≡ o → condition_of_tokens o names ≡ Ok x → ReadWhole text names x
    by_tokens None cut e = absurd (let no : Err BadForm ≡ Ok x = e in cc)
    by_tokens (Some ts) cut e = by_length ts (nat_lt most_tokens (length ts)) cut refl e
