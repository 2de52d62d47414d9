-- What the program and the updates of a job are like.
use Rattle.std.proofs.Common.{◌≡◌, ℕ, suc, ◌-◌, ◌^◌, ◌<◌, ◌≤◌, ◌&&◌, codes, List, [], ◌∷◌, length, length-append}
use Rattle.std.proofs.Common.{nat_le, nat_lt, Option, None, Some, Result, Ok, Err, All, subst, arith}
use Rattle.std.specs.Option.{IfSome, option_map}
use Rattle.std.specs.Result.{IfOk}
use Rattle.std.proofs.lemmas.Bool.{and_parts, cond_both, leb-true, ltb-true, ltb-false}
use Rattle.std.proofs.lemmas.List.Elements.{All-cons, All-nil, All-append}
use Rattle.graph_types.specs.meaning.Graph.{Graph}
use Rattle.graph_types.specs.meaning.Piece.{most_members}
use Rattle.graph_types.specs.declared.update.Update.{Update}
use Rattle.graph_types.specs.declared.update.Update.TheVariants.{AddVertex, RemoveVertex, LabelVertex, AddEdge, RemoveEdge, LabelEdge}
use Rattle.line_fields.specs.meaning.Fields.{words_of, id_of, is_number, value_after, is_label_word, is_nothing_line, number_of}
use Rattle.job_io.specs.meaning.Lines.{Line, without_cr, most_line_bytes}
use Rattle.mining_model.specs.meaning.Embeddings.{Pattern}
use Rattle.mining_model.specs.meaning.History.{AddsShortId, Group}
use Rattle.graph_types.specs.declared.refusal.Refusal.{Refusal}
use Rattle.mining_model.specs.meaning.Step.{step, graph_after_all}
use Rattle.line_fields.specs.meaning.Names.{Names, interning, no_name}
use Rattle.update_reader.specs.meaning.Grammar.{LineContent, nothing, commit, batch_begin, batch_end, update, too_many_labels, bad_line, content_of_line, content_of_form, content_of_labelled}
use Rattle.update_reader.specs.meaning.Grammar.{Form, commit_form, batch_form, end_form, unlabelled, labelled, no_form, form_with, form_after_keyword, form_of}
use Rattle.update_reader.specs.meaning.Grammar.{ids_of, keyword_of, unlabelled_form, labelled_form, vertex_form, edge_form}
use Rattle.update_reader.specs.declared.keyword.Keyword.{Keyword}
use Rattle.update_reader.specs.declared.keyword.Keyword.TheVariants as keyword
use Rattle.condition_grammar.specs.meaning.Grammar.{◌>>=◌}
use Rattle.program_grammar.specs.meaning.Header.{header_said, mode_said, size_of, size_said, size_in_range, in_range, value_of, filter_of}
use Rattle.program_grammar.specs.meaning.Header.{condition_after_word, is_word}
use Rattle.program_grammar.specs.meaning.Header.{awaited_line_said as header_said_by}
use Rattle.program_grammar.specs.meaning.Sizes.{size_in}
use Rattle.program_grammar.specs.declared.fault.ProgramKind.{ProgramKind}
use Rattle.program_grammar.specs.declared.header.HeaderReader.{HeaderReader}
use Rattle.program_grammar.specs.declared.header.HeaderReader.TheVariants as header
use Rattle.program_grammar.specs.declared.header.HeaderStep.{HeaderStep}
use Rattle.program_grammar.specs.declared.header.HeaderStep.TheVariants.{More, Ready}
use Rattle.job.specs.declared.fault.JobRefusal.{JobRefusal}
use Rattle.job.specs.meaning.Judging.{Stage, heading, streaming, batching, first_stage, most_batch_updates, Judgement, refused, moved, accepted}
use Rattle.job.specs.meaning.Judging.{header_judgement, step_judgement, content_judgement, join_judgement, batch_judgement, text_judgement, judgement}
use Rattle.job.specs.meaning.Judging.{Verdict, verdict_at_end, verdict_after, verdict_from, verdict}
use Rattle.job.specs.meaning.Following.{IsBounded}

-- ---- the ids of vertices that are added

id_short : (word : List ℕ) → IfSome (id_of word) (λ v. v < 2 ^ 32)
id_short word =
    cond_both (is_number 10 word && nat_lt (value_after 0 word) (2 ^ 32)) (Some (value_after 0 word)) None
    (λ id. IfSome id (λ v. v < 2 ^ 32))
    (λ is. ltb-true (value_after 0 word) (2 ^ 32) (and_parts _ _ is).1) (λ _. tt)

-- the update of a line's form
abbrev FormIsShort : Form → Type 0
FormIsShort (unlabelled u) = AddsShortId u
FormIsShort (labelled make label) = (l : ℕ) → AddsShortId (make l)
FormIsShort form = Unit {0}

-- the update that a line says
abbrev SaidIsShort : LineContent → Type 0
SaidIsShort (update u later) = AddsShortId u
SaidIsShort what = Unit {0}

module _ {A B : Type 0} (make : A → B) (Q : B → Type 0) where
  made : (P : A → Type 0) (o : Option A) → IfSome o P → ((a : A) → P a → Q (make a)) → IfSome (option_map make o) Q
  made P None holds so = tt
  made P (Some a) holds so = so a holds

  made_any : (o : Option A) → ((a : A) → Q (make a)) → IfSome (option_map make o) Q
  made_any None so = tt
  made_any (Some a) so = so a

unlabelled_short : (u : Option Update) → IfSome u AddsShortId → FormIsShort (unlabelled_form u)
unlabelled_short None short = tt
unlabelled_short (Some u) short = short

labelled_short : (make : Option (ℕ → Update)) (label : List ℕ) →
    IfSome make (λ make. (l : ℕ) → AddsShortId (make l)) → FormIsShort (labelled_form make label)
labelled_short None label short = tt
labelled_short (Some make) label short =
    cond_both (is_label_word label) (labelled make label) no_form FormIsShort (λ _. short) (λ _. tt)

vertex_short : (make : ℕ → ℕ → Update) (id label : List ℕ) →
    ((v l : ℕ) → v < 2 ^ 32 → AddsShortId (make v l)) → FormIsShort (vertex_form make id label)
vertex_short make id label short =
    labelled_short (option_map make (id_of id)) label
    (made make (λ make. (l : ℕ) → AddsShortId (make l)) (λ v. v < 2 ^ 32) (id_of id) (id_short id)
    (λ v fits l. short v l fits))

edge_short : (make : ℕ → ℕ → ℕ → Update) (from to label : List ℕ) →
    ((x y l : ℕ) → AddsShortId (make x y l)) → FormIsShort (edge_form make from to label)
edge_short make from to label short =
    labelled_short (option_map (λ ends. make ends.0 ends.1) (ids_of from to)) label
    (made_any (λ (ends : ℕ × ℕ). make ends.0 ends.1) (λ make. (l : ℕ) → AddsShortId (make l)) (ids_of from to)
    (λ ends. short ends.0 ends.1))

form_short : (word : Keyword) (fields : List (List ℕ)) → FormIsShort (form_with word fields)
form_short keyword.AddVertex (id ∷ []) = vertex_short (λ v l. AddVertex v l) id no_name (λ v l fits. fits)
form_short keyword.AddVertex (id ∷ label ∷ []) = vertex_short (λ v l. AddVertex v l) id label (λ v l fits. fits)
form_short keyword.RemoveVertex (id ∷ []) =
    unlabelled_short (option_map (λ v. RemoveVertex v) (id_of id))
    (made_any (λ v. RemoveVertex v) AddsShortId (id_of id) (λ _. tt))
form_short keyword.LabelVertex (id ∷ label ∷ []) = vertex_short (λ v l. LabelVertex v l) id label (λ v l fits. tt)
form_short keyword.AddEdge (from ∷ to ∷ []) = edge_short (λ x y l. AddEdge x y l) from to no_name (λ x y l. tt)
form_short keyword.AddEdge (from ∷ to ∷ label ∷ []) = edge_short (λ x y l. AddEdge x y l) from to label (λ x y l. tt)
form_short keyword.RemoveEdge (from ∷ to ∷ []) =
    unlabelled_short (option_map (λ ends. RemoveEdge ends.0 ends.1) (ids_of from to))
    (made_any (λ (ends : ℕ × ℕ). RemoveEdge ends.0 ends.1) AddsShortId (ids_of from to) (λ _. tt))
form_short keyword.LabelEdge (from ∷ to ∷ label ∷ []) = edge_short (λ x y l. LabelEdge x y l) from to label (λ x y l. tt)
form_short keyword.Commit [] = tt
form_short keyword.Batch [] = tt
form_short keyword.End [] = tt
form_short word fields = tt

behind_short : (word : Option Keyword) (fields : List (List ℕ)) → FormIsShort (form_after_keyword word fields)
behind_short None fields = tt
behind_short (Some word) fields = form_short word fields

words_short : (words : List (List ℕ)) → FormIsShort (form_of words)
words_short [] = tt
words_short (word ∷ fields) = behind_short (keyword_of word) fields

numbered_short : (make : ℕ → Update) (number : Option (ℕ × Names)) → ((l : ℕ) → AddsShortId (make l)) →
    SaidIsShort (content_of_labelled make number)
numbered_short make None short = tt
numbered_short make (Some with_number) short = short with_number.0

by_short : (names : Names) (form : Form) → FormIsShort form → SaidIsShort (content_of_form names form)
by_short names commit_form short = tt
by_short names batch_form short = tt
by_short names end_form short = tt
by_short names (unlabelled u) short = short
by_short names (labelled make label) short = numbered_short make (interning names label) short
by_short names no_form short = tt

said_short : (names : Names) (line : List ℕ) → SaidIsShort (content_of_line names line)
said_short names line =
    cond_both (is_nothing_line line) nothing (content_of_form names (form_of (words_of line))) SaidIsShort (λ _. tt)
    (λ _. by_short names (form_of (words_of line)) (words_short (words_of line)))

-- ---- the size of the program

in_size : (n : ℕ) → IfSome (size_in n) (λ n. n ≤ most_members)
in_size n =
    cond_both (nat_le 1 n && nat_le n most_members) (Some n) None (λ n. IfSome n (λ n. n ≤ most_members))
    (λ is. leb-true n most_members (and_parts _ _ is).1) (λ _. tt)

range_small : (n : Option ℕ) → IfSome n (λ n. n ≤ most_members) → IfOk (in_range n) (λ n. n ≤ most_members)
range_small None small = tt
range_small (Some n) small = small

number_small : (n : Option ℕ) → IfOk (size_in_range n) (λ n. n ≤ most_members)
number_small None = tt
number_small (Some n) = range_small (size_in n) (in_size n)

digits_small : (digits : Option (List ℕ)) → IfOk (size_said digits) (λ n. n ≤ most_members)
digits_small None = tt
digits_small (Some digits) = number_small (number_of 10 digits)

size_small : (words : List (List ℕ)) → IfOk (size_of words) (λ n. n ≤ most_members)
unfolding size_of
size_small words = digits_small (value_of (codes "size") words)

-- the size that a header has, once it has one
abbrev HeaderIsSmall : HeaderReader → Type 0
HeaderIsSmall header.Mode = Unit {0}
HeaderIsSmall (header.Size m) = Unit {0}
HeaderIsSmall (header.Filter m n) = n ≤ most_members
HeaderIsSmall (header.Match n f) = n ≤ most_members
HeaderIsSmall (header.Begin n f c) = n ≤ most_members

abbrev StepIsSmall : Result (HeaderStep × Names) ProgramKind → Type 0
StepIsSmall (Ok (More next, names)) = HeaderIsSmall next
StepIsSmall (Ok (Ready program, names)) = program.size ≤ most_members
StepIsSmall (Err refusal) = Unit {0}

-- the updates of a group: what they add, and how many they are
abbrev GroupIsFine : Group → Type 0
GroupIsFine us = All AddsShortId us × (length us ≤ most_batch_updates)

abbrev StageIsSmall : Stage → Type 0
StageIsSmall (heading next names) = HeaderIsSmall next
StageIsSmall (streaming pattern names g) = pattern.size ≤ most_members
StageIsSmall (batching pattern names before us) = (pattern.size ≤ most_members) × GroupIsFine us

module _ {A : Type 0} (next : A → Result (HeaderStep × Names) ProgramKind) where
  then_small : (P : A → Type 0) (r : Result A ProgramKind) → IfOk r P → ((a : A) → P a → StepIsSmall (next a)) →
      StepIsSmall (r >>= next)
  then_small P (Ok a) holds so = so a holds
  then_small P (Err refusal) holds so = tt

  any_small : (r : Result A ProgramKind) → ((a : A) → StepIsSmall (next a)) → StepIsSmall (r >>= next)
  any_small (Ok a) so = so a
  any_small (Err refusal) so = tt

by_small : (h : HeaderReader) (line : List ℕ) (names : Names) → HeaderIsSmall h →
    StepIsSmall (header_said_by h line names)
unfolding header_said_by
by_small header.Mode line names small =
    any_small (λ m. Ok (More (header.Size m), names)) (mode_said (words_of line)) (λ m. tt)
by_small (header.Size m) line names small =
    then_small (λ n. Ok (More (header.Filter m n), names)) (λ n. n ≤ most_members) (size_of (words_of line))
    (size_small (words_of line)) (λ n few. few)
by_small (header.Filter m n) line names small =
    any_small (λ f. Ok (More (header.Match n f.0), f.1)) (filter_of m line names) (λ f. small)
by_small (header.Match n f) line names small =
    any_small (λ c. Ok (More (header.Begin n f c.0), c.1)) (condition_after_word (codes "match") line names) (λ c. small)
by_small (header.Begin n f c) line names small =
    cond_both (is_word (codes "begin") (words_of line)) _ _ StepIsSmall (λ _. small) (λ _. tt)

header_small : (h : HeaderReader) (line : List ℕ) (names : Names) → HeaderIsSmall h →
    StepIsSmall (header_said h line names)
unfolding header_said
header_small h line names small =
    cond_both (is_nothing_line line) (Ok (More h, names)) (header_said_by h line names) StepIsSmall (λ _. small)
    (λ _. by_small h line names small)

-- ---- a line

-- what line n leads to, where at most `most` lines are allowed
abbrev LineIsFine : ℕ → ℕ → Judgement → Type 0
LineIsFine most n (refused why) = Unit {0}
LineIsFine most n (moved next) = StageIsSmall next
LineIsFine most n (accepted us next) = (n ≤ most) × GroupIsFine us × StageIsSmall next

module _ (most n : ℕ) where
  header_fine : (step : Result (HeaderStep × Names) ProgramKind) → StepIsSmall step →
      LineIsFine most n (header_judgement n step)
  header_fine (Ok (More next, names)) small = small
  header_fine (Ok (Ready program, names)) small = small
  header_fine (Err refusal) small = tt

  module _ (below : n ≤ most) where
    step_fine : (pattern : Pattern) (names : Names) (u : Update) (stepped : Result Graph Refusal) →
        pattern.size ≤ most_members → AddsShortId u → LineIsFine most n (step_judgement n pattern names u stepped)
    step_fine pattern names u (Ok now) small short =
        (below, (All-cons AddsShortId u [] short (All-nil AddsShortId), omega arith), small)
    step_fine pattern names u (Err refusal) small short = tt

    said_fine : (pattern : Pattern) (names : Names) (g : Graph) (line : LineContent) → pattern.size ≤ most_members →
        SaidIsShort line → LineIsFine most n (content_judgement n pattern names g line)
    said_fine pattern names g nothing small short = small
    said_fine pattern names g commit small short = small
    said_fine pattern names g batch_begin small short = (small, (All-nil AddsShortId, omega arith))
    said_fine pattern names g batch_end small short = tt
    said_fine pattern names g (update u later) small short = step_fine pattern later u (step g u) small short
    said_fine pattern names g too_many_labels small short = tt
    said_fine pattern names g bad_line small short = tt

    module _ (pattern : Pattern) (before : Graph) (us : Group) (small : pattern.size ≤ most_members) where
      join_fine : (names : Names) (u : Update) (stepped : Result Graph Refusal) → GroupIsFine us →
          length us < most_batch_updates → AddsShortId u →
          LineIsFine most n (join_judgement n pattern names before us u stepped)
      join_fine names u (Ok now) group room short = (
        small,
        (
          All-append AddsShortId us (u ∷ []) group.0 (All-cons AddsShortId u [] short (All-nil AddsShortId)),
          omega (arith, room, length-append us (u ∷ [])),
        ),
      )
      join_fine names u (Err refusal) group room short = tt

      batch_fine : (names : Names) (line : LineContent) → GroupIsFine us → SaidIsShort line →
          LineIsFine most n (batch_judgement n pattern names before us line)
      batch_fine names nothing group short = (small, group)
      batch_fine names commit group short = tt
      batch_fine names batch_begin group short = tt
      batch_fine names batch_end group short = (below, group, small)
      batch_fine names (update u later) group short =
          cond_both (nat_lt (length us) most_batch_updates) _ _ (LineIsFine most n)
          (λ room. join_fine later u (step (graph_after_all before us) u) group (ltb-true (length us) most_batch_updates room) short)
          (λ _. tt)
      batch_fine names too_many_labels group short = tt
      batch_fine names bad_line group short = tt

    text_fine : (stage : Stage) (text : List ℕ) → StageIsSmall stage → LineIsFine most n (text_judgement n stage text)
    text_fine (heading next names) text small =
        header_fine (header_said next text names) (header_small next text names small)
    text_fine (streaming pattern names g) text small =
        said_fine pattern names g (content_of_line names text) small (said_short names text)
    text_fine (batching pattern names before us) text small =
        batch_fine pattern before us small.0 names (content_of_line names text) small.1 (said_short names text)

  fine : (stage : Stage) (bytes : List ℕ) → StageIsSmall stage → LineIsFine most n (judgement most n stage bytes)
  fine stage bytes small =
      cond_both (nat_lt most n) _ _ (LineIsFine most n) (λ _. tt)
      (λ within. cond_both (nat_lt most_line_bytes (length bytes)) _ _ (LineIsFine most n) (λ _. tt)
      (λ _. text_fine (ltb-false most n within) stage (without_cr bytes) small))

-- ---- a job

-- a group of no more updates than a batch may have
abbrev Narrow : Group → Type 0
Narrow us = length us ≤ most_batch_updates

ended_bounds : (most n : ℕ) (stage : Stage) (stop : Option JobRefusal) → StageIsSmall stage →
    IsBounded most (verdict_at_end n stage stop)
ended_bounds most n (heading next names) stop small =
    record { small = tt; few = omega arith; narrow = All-nil Narrow; short = All-nil (All AddsShortId) }
ended_bounds most n (streaming pattern names g) stop small =
    record { small = small; few = omega arith; narrow = All-nil Narrow; short = All-nil (All AddsShortId) }
ended_bounds most n (batching pattern names before us) stop small =
    record { small = small.0; few = omega arith; narrow = All-nil Narrow; short = All-nil (All AddsShortId) }

led_bounds : (most n : ℕ) (stage : Stage) (j : Judgement) (rest : Stage → Verdict) → StageIsSmall stage →
    LineIsFine most (suc n) j → ((next : Stage) → StageIsSmall next → IsBounded (most - suc n) (rest next)) →
    IsBounded (most - n) (verdict_after n stage j rest)
led_bounds most n stage (refused why) rest small line_is rest_is = ended_bounds (most - n) n stage (Some why) small
led_bounds most n stage (moved next) rest small line_is rest_is =
    let job = rest_is next line_is in
    record { small = job.small; few = omega (arith, job.few); narrow = job.narrow; short = job.short }
led_bounds most n stage (accepted us next) rest small line_is rest_is =
    let job = rest_is next line_is.2 in
    record {
      small = job.small;
      few = omega (arith, line_is.0, job.few);
      narrow = All-cons Narrow us (rest next).groups line_is.1.1 job.narrow;
      short = All-cons (All AddsShortId) us (rest next).groups line_is.1.0 job.short;
    }

verdict_bounds : (most n : ℕ) (stage : Stage) (lines : List Line) → StageIsSmall stage →
    IsBounded (most - n) (verdict_from most n stage lines)
verdict_bounds most n stage [] small = ended_bounds (most - n) n stage None small
verdict_bounds most n stage (line ∷ lines) small =
    led_bounds most n stage (judgement most (suc n) stage line.bytes) (λ next. verdict_from most (suc n) next lines) small
    (fine most (suc n) stage line.bytes small) (λ next still. verdict_bounds most (suc n) next lines still)

pub verdict-bounded : (most : ℕ) (lines : List Line) → IsBounded most (verdict most lines)
verdict-bounded most lines =
    let none : most - 0 ≡ most = omega arith in
    subst (λ k. IsBounded k (verdict most lines)) none (verdict_bounds most 0 first_stage lines tt)
