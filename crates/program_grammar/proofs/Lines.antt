-- The lines of a header, step by step.
use Rattle.std.proofs.Common.{◌≡◌, ℕ, ◌+◌, ◌≤◌, true, false, inl, inr, List, ◌++◌, length, map, Result, Ok, Err, codes, refl, sym, ap, subst, ◌∙◌, arith, length-append, if◌then◌else◌}
use Rattle.std.proofs.lemmas.List.{length-map}
use Rattle.graph_types.specs.declared.ids.Mode.{Mode}
use Rattle.line_fields.specs.meaning.Names.{Names, most_names}
use Rattle.conditions.specs.declared.condition.Cond.{Cond}
use Rattle.filter_polarity.specs.meaning.Polarity.{is_falling}
use Rattle.filter_polarity.specs.meaning.Program.{FallingValue}
use Rattle.conditions.specs.meaning.Written.{most_tokens}
use Rattle.program_grammar.specs.declared.fault.ReadError.{ReadError}
use Rattle.program_grammar.specs.declared.fault.ReadError.TheVariants as error
use Rattle.program_grammar.specs.declared.fault.ProgramKind.{ProgramKind}
use Rattle.program_grammar.specs.declared.fault.ProgramKind.TheVariants.{NotFalling}
use Rattle.condition_grammar.specs.calls.Reading.{Parses}
use Rattle.condition_grammar.specs.meaning.Grammar.{◌>>=◌}
use Rattle.program_grammar.specs.meaning.Header.{condition_after_word, filter_of, if_falling}
use Rattle.program_grammar.specs.calls.Answers.{AddsFirst, AddsNames, AnswersReading, FewNames, HasRoom, RefusesAs, RunsOut}

-- names that are as they were
pub Starves-unchanged : {A : Type 0} (names : Names) (said : Result (A × Names) ProgramKind) → RunsOut names said names
Starves-unchanged names (Ok read) = inl refl
Starves-unchanged names (Err f) = refl

pub Starves-labels : {A : Type 0} (names labels new : Names) (said : Result (A × Names) ProgramKind) (x : A) → said ≡ Ok (x, names ++ labels) → length labels ≤ most_tokens → AddsFirst labels names new
    → RunsOut names said new
Starves-labels {A} names labels new said x read few added =
    subst (λ s. RunsOut {A = A} names s new) (sym read) (inr (labels, (refl, few), added))

-- what is made of a line that was read brings the same labels
pub Starves-then : {A B : Type 0} (f : A → B) (names new : Names) (said : Result (A × Names) ProgramKind) → RunsOut names said new → RunsOut names (said >>= λ r. Ok (f r.0, r.1)) new
Starves-then f names new (Ok read) starves = starves
Starves-then f names new (Err e) starves = starves

-- there is room for what was read
pub room-read : {A : Type 0} (names labels : Names) (said : Result (A × Names) ProgramKind) (x : A) → HasRoom names said → said ≡ Ok (x, names ++ labels) → length labels ≤ most_tokens
    → length names + length labels ≤ most_names
room-read names labels said x (inl few) read short = omega arith
room-read {A} names labels said x (inr few) read short =
    let fits : FewNames {A = A} (Ok (x, names ++ labels)) = subst (FewNames {A = A}) read few in omega (arith, fits, length-append names labels)

pub Answers-starves : {A : Type 0} (names new : Names) (said : Result (A × Names) ProgramKind) (r : Result A ReadError) → r ≡ Err error.NoMemory → RunsOut names said new → AnswersReading names said r new
Answers-starves names new said r is starves = subst (λ r. AnswersReading names said r new) (sym is) starves

module _ (m : Mode) (line : List ℕ) (names : Names) where
  pub filter-fails : (e : ReadError) (r : Result FallingValue ReadError) → r ≡ Err e → RefusesAs e (condition_after_word (codes "filter") line names) → AnswersReading names (filter_of m line names) r names
  unfolding filter_of
  filter-fails error.NoMemory r is fails = subst (λ r. AnswersReading names (filter_of m line names) r names) (sym is) (Starves-unchanged names (filter_of m line names))
  filter-fails (error.Refused f) r is fails = subst (λ r. AnswersReading names (filter_of m line names) r names) (sym is) (ap (λ s. s >>= if_falling m) fails, refl)

  module _ (c : Cond) (labels : Names) (parses : Parses names (condition_after_word (codes "filter") line names) c labels) where
    pub filter-not : is_falling m c ≡ false → filter_of m line names ≡ Err NotFalling
    unfolding filter_of
    filter-not not = ap (λ s. s >>= if_falling m) parses.read ∙ ap (λ b. if b then Ok (record { mode = m; cond = c }, names ++ labels) else Err NotFalling) not

    pub filter-read : is_falling m c ≡ true → filter_of m line names ≡ Ok (record { mode = m; cond = c }, names ++ labels)
    unfolding filter_of
    filter-read falls = ap (λ s. s >>= if_falling m) parses.read ∙ ap (λ b. if b then Ok (record { mode = m; cond = c }, names ++ labels) else Err NotFalling) falls

pub Grows-labels : (names labels new : Names) → new ≡ names ++ labels → length labels ≤ most_tokens → AddsNames most_tokens names new
Grows-labels names labels new is few = record { more = labels; behind = is; few = few }

pub length-seen : {X : Type 0} (f : X → List ℕ) (xs seen : List X) → seen ≡ xs → length seen ≡ length (map f xs)
length-seen f xs seen e = ap length e ∙ sym (length-map xs f)
