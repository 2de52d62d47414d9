-- No line of a trial's job begins a batch.
use Rattle.std.proofs.Common.{◌≡◌, ◌≢◌, ℕ, zero, suc, Bool, true, false, not, List, [], ◌∷◌, ◌++◌, codes, Option, None, Some, refl, sym, ap, subst, ◌∙◌, append_assoc, append-nil, eq-eqb, if◌then◌else◌}
use Rattle.std.specs.Prelude.{decimal}
use Rattle.std.specs.List.{AllByRecursion}
use Rattle.std.specs.Option.{option_map}
use Rattle.std.specs.Str.{bytes_eq}
use Rattle.std.proofs.lemmas.Bool.{and_parts}
use Rattle.std.proofs.lemmas.List.Elements.{All-from_recursion}
use Rattle.graph_types.specs.meaning.Graph.{Graph, edge_between, has_edge}
use Rattle.graph_types.specs.declared.update.Update.{Update}
use Rattle.graph_types.specs.declared.update.Update.TheVariants.{AddEdge, AddVertex, RemoveEdge, RemoveVertex}
use Rattle.job_io.specs.meaning.Lines.{HasNoLf, lf, is_lf, lines_of, without_cr}
use Rattle.job_io.proofs.LinesOf.{lines_of-whole}
use Rattle.line_fields.specs.meaning.Fields.{after_word, id_of, is_label_word, is_nothing_words, words_of}
use Rattle.line_fields.specs.meaning.Names.{Names, interning, no_name}
use Rattle.line_fields.proofs.WordsOf.{words_of-first}
use Rattle.record_tally.proofs.Printed.{are_inner, inner-append, inner-decimal, is_inner}
use Rattle.trial_job.specs.meaning.TrialJob.{edge_line, edge_lines, first_drawn, graph_of_vertices, header_text, label_name, next_state, second_drawn, toggled, trial_text, vertex_line, vertex_lines}
use Rattle.update_reader.specs.declared.keyword.Keyword.{Keyword}
use Rattle.update_reader.specs.declared.keyword.Keyword.TheVariants as keyword
use Rattle.update_reader.specs.meaning.Grammar.{Form, labelled, no_form, unlabelled, ids_of, nothing, batch_begin, bad_line, update, too_many_labels, content_of_form, content_of_labelled, content_of_line, form_after_keyword, form_of, form_with, keyword_of, labelled_form, unlabelled_form}
use Rattle.tesseract.proofs.SingleUpdates.{BeginsNoBatch}

-- ---- forms that begin no batch

NotBatch : Form → Type 0
NotBatch form = (names : Names) → content_of_form names form ≡ batch_begin → ⊥

none_not : NotBatch no_form
unfolding NotBatch
none_not names e = absurd (let f : bad_line ≡ batch_begin = e in cc)

unlabelled_not : (o : Option Update) → NotBatch (unlabelled_form o)
unfolding NotBatch
unlabelled_not None names e = absurd (let f : bad_line ≡ batch_begin = e in cc)
unlabelled_not (Some u) names e = absurd (let f : update u names ≡ batch_begin = e in cc)

with_label_not : (make : ℕ → Update) (o : Option (ℕ × Names)) → content_of_labelled make o ≡ batch_begin → ⊥
with_label_not make None e = absurd (let f : too_many_labels ≡ batch_begin = e in cc)
with_label_not make (Some n) e = absurd (let f : update (make n.0) n.1 ≡ batch_begin = e in cc)

named_not : (make : ℕ → Update) (label : List ℕ) → NotBatch (labelled make label)
unfolding NotBatch
named_not make label names e = with_label_not make (interning names label) e

labelled_not : (o : Option (ℕ → Update)) (label : List ℕ) → NotBatch (labelled_form o label)
labelled_not None label = none_not
labelled_not (Some make) label =
    elim (is_label_word label) as (λ b. NotBatch (if b then labelled make label else no_form)) [
      | true ↦ named_not make label
      | false ↦ none_not
    ]

add_vertex_not : (fields : List (List ℕ)) → NotBatch (form_with keyword.AddVertex fields)
add_vertex_not [] = none_not
add_vertex_not (id ∷ []) = labelled_not (option_map (λ v l. AddVertex v l) (id_of id)) no_name
add_vertex_not (id ∷ label ∷ []) = labelled_not (option_map (λ v l. AddVertex v l) (id_of id)) label
add_vertex_not (id ∷ label ∷ more ∷ fields) = none_not

remove_vertex_not : (fields : List (List ℕ)) → NotBatch (form_with keyword.RemoveVertex fields)
remove_vertex_not [] = none_not
remove_vertex_not (id ∷ []) = unlabelled_not (option_map (λ v. RemoveVertex v) (id_of id))
remove_vertex_not (id ∷ more ∷ fields) = none_not

add_edge_not : (fields : List (List ℕ)) → NotBatch (form_with keyword.AddEdge fields)
add_edge_not [] = none_not
add_edge_not (from ∷ []) = none_not
add_edge_not (from ∷ to ∷ []) = labelled_not (option_map (λ ends l. AddEdge ends.0 ends.1 l) (ids_of from to)) no_name
add_edge_not (from ∷ to ∷ label ∷ []) = labelled_not (option_map (λ ends l. AddEdge ends.0 ends.1 l) (ids_of from to)) label
add_edge_not (from ∷ to ∷ label ∷ more ∷ fields) = none_not

remove_edge_not : (fields : List (List ℕ)) → NotBatch (form_with keyword.RemoveEdge fields)
remove_edge_not [] = none_not
remove_edge_not (from ∷ []) = none_not
remove_edge_not (from ∷ to ∷ []) = unlabelled_not (option_map (λ ends. RemoveEdge ends.0 ends.1) (ids_of from to))
remove_edge_not (from ∷ to ∷ more ∷ fields) = none_not

-- what begins with `+` adds a vertex or an edge, if it is an update
added_not : (vertex edge : Bool) (fields : List (List ℕ)) →
    NotBatch (form_after_keyword (if vertex then Some keyword.AddVertex else if edge then Some keyword.AddEdge else None) fields)
added_not true edge fields = add_vertex_not fields
added_not false true fields = add_edge_not fields
added_not false false fields = none_not

-- and what begins with `-` removes one
removed_not : (vertex edge : Bool) (fields : List (List ℕ)) →
    NotBatch (form_after_keyword (if vertex then Some keyword.RemoveVertex else if edge then Some keyword.RemoveEdge else None) fields)
removed_not true edge fields = remove_vertex_not fields
removed_not false true fields = remove_edge_not fields
removed_not false false fields = none_not

-- ---- lines

plus_not : (text : List ℕ) (names : Names) → content_of_line names (43 ∷ text) ≡ batch_begin → ⊥
unfolding NotBatch
plus_not text names e =
    let first = words_of-first 43 text refl in
    let word = first.0 in
    added_not (bytes_eq (43 ∷ word) (codes "+v")) (bytes_eq (43 ∷ word) (codes "+e")) (words_of (after_word text)) names
    (sym (ap (λ words. if is_nothing_words words then nothing else content_of_form names (form_of words)) first.1) ∙ e)

minus_not : (text : List ℕ) (names : Names) → content_of_line names (45 ∷ text) ≡ batch_begin → ⊥
unfolding NotBatch
minus_not text names e =
    let first = words_of-first 45 text refl in
    let word = first.0 in
    removed_not (bytes_eq (45 ∷ word) (codes "-v")) (bytes_eq (45 ∷ word) (codes "-e")) (words_of (after_word text)) names
    (sym (ap (λ words. if is_nothing_words words then nothing else content_of_form names (form_of words)) first.1) ∙ e)

plus_line : (b : ℕ) (text : List ℕ) → BeginsNoBatch (43 ∷ b ∷ text)
plus_line b text names e = plus_not (without_cr (b ∷ text)) names e

minus_line : (b : ℕ) (text : List ℕ) → BeginsNoBatch (45 ∷ b ∷ text)
minus_line b text names e = minus_not (without_cr (b ∷ text)) names e

-- ---- texts

inner-lf : (b : ℕ) → is_inner b ≡ true → b ≢ lf
inner-lf b inner e = absurd (let f : false ≡ true = sym (ap not (eq-eqb b lf e)) ∙ inner in cc)

HasNoLf-inner : (text : List ℕ) → are_inner text ≡ true → HasNoLf text
HasNoLf-inner text inner = All-from_recursion (λ b. b ≢ lf) text (each text inner)
  where
    each : (text : List ℕ) → are_inner text ≡ true → AllByRecursion (λ b. b ≢ lf) text
    each [] inner = tt
    each (b ∷ text) inner =
        let parts = and_parts (is_inner b) (are_inner text) inner in
        (inner-lf b parts.0, each text parts.1)

-- none of its lines begins a batch
unfoldable pub HasNoBatch : List ℕ → Type 0
HasNoBatch text = AllByRecursion (λ line. BeginsNoBatch line.bytes) (lines_of text)

line-then : (line rest : List ℕ) → are_inner line ≡ true → BeginsNoBatch line → HasNoBatch rest → HasNoBatch (line ++ lf ∷ rest)
unfolding HasNoBatch
line-then line rest inner one others =
    subst (AllByRecursion (λ l. BeginsNoBatch l.bytes)) (sym (lines_of-whole line rest (HasNoLf-inner line inner))) (one, others)

ended : (line rest : List ℕ) → (line ++ codes "\n") ++ rest ≡ line ++ lf ∷ rest
ended line rest = append_assoc line (codes "\n") rest

inner-label : (v : ℕ) → are_inner (label_name v) ≡ true
inner-label v = by_tests _ _
  where
    by_tests : (a b : Bool) → are_inner (if a then codes "a" else if b then codes "b" else codes "c") ≡ true
    by_tests true b = refl
    by_tests false true = refl
    by_tests false false = refl

vertex-then : (v : ℕ) (rest : List ℕ) → HasNoBatch rest → HasNoBatch (vertex_line v ++ rest)
vertex-then v rest others =
    let line = codes "+v " ++ decimal v ++ codes " " ++ label_name v in
    let inner : are_inner line ≡ true =
    inner-append (codes "+v " ++ decimal v ++ codes " ") (label_name v)
    (inner-append (codes "+v " ++ decimal v) (codes " ") (inner-append (codes "+v ") (decimal v) refl (inner-decimal v)) refl) (inner-label v) in
    subst HasNoBatch (sym (ended line rest)) (line-then line rest inner (plus_line 118 (codes " " ++ decimal v ++ codes " " ++ label_name v)) others)

vertices-then : (n : ℕ) (rest : List ℕ) → HasNoBatch rest → HasNoBatch (vertex_lines n ++ rest)
vertices-then zero rest others = others
vertices-then (suc n) rest others =
    subst HasNoBatch (sym (append_assoc (vertex_lines n) (vertex_line (suc n)) rest))
    (vertices-then n (vertex_line (suc n) ++ rest) (vertex-then (suc n) rest others))

edge-then : (stands : Bool) (from to : ℕ) (rest : List ℕ) → HasNoBatch rest → HasNoBatch (edge_line stands from to ++ rest)
edge-then true from to rest others =
    let line = codes "-e " ++ decimal from ++ codes " " ++ decimal to in
    let inner : are_inner line ≡ true =
    inner-append (codes "-e " ++ decimal from ++ codes " ") (decimal to)
    (inner-append (codes "-e " ++ decimal from) (codes " ") (inner-append (codes "-e ") (decimal from) refl (inner-decimal from)) refl) (inner-decimal to) in
    subst HasNoBatch (sym (ended line rest)) (line-then line rest inner (minus_line 101 (codes " " ++ decimal from ++ codes " " ++ decimal to)) others)
edge-then false from to rest others =
    let line = codes "+e " ++ decimal from ++ codes " " ++ decimal to in
    let inner : are_inner line ≡ true =
    inner-append (codes "+e " ++ decimal from ++ codes " ") (decimal to)
    (inner-append (codes "+e " ++ decimal from) (codes " ") (inner-append (codes "+e ") (decimal from) refl (inner-decimal from)) refl) (inner-decimal to) in
    subst HasNoBatch (sym (ended line rest)) (line-then line rest inner (plus_line 101 (codes " " ++ decimal from ++ codes " " ++ decimal to)) others)

nothing-has : HasNoBatch []
unfolding HasNoBatch
nothing-has = tt

edges-have : (n updates x : ℕ) (g : Graph) → HasNoBatch (edge_lines n updates x g)
edges-have n zero x g = nothing-has
edges-have n (suc updates) x g =
    let from = first_drawn n x in
    let to = second_drawn n x in
    edge-then (has_edge g (edge_between from to)) from to (edge_lines n updates (next_state (next_state x)) (toggled g (edge_between from to)))
    (edges-have n updates (next_state (next_state x)) (toggled g (edge_between from to)))

header-then : (rest : List ℕ) → HasNoBatch rest → HasNoBatch (header_text ++ rest)
header-then rest others =
    line-then (codes "mode vertex") _ refl (λ names e. absurd (let f : bad_line ≡ batch_begin = e in cc))
    (line-then (codes "size 3") _ refl (λ names e. absurd (let f : bad_line ≡ batch_begin = e in cc))
    (line-then (codes "filter true") _ refl (λ names e. absurd (let f : bad_line ≡ batch_begin = e in cc))
    (line-then (codes "match vertices = 3 and edges = 3") _ refl (λ names e. absurd (let f : bad_line ≡ batch_begin = e in cc))
    (line-then (codes "begin") rest refl (λ names e. absurd (let f : bad_line ≡ batch_begin = e in cc)) others))))

pub trial-HasNoBatch : (seed n updates : ℕ) → HasNoBatch (trial_text seed n updates)
trial-HasNoBatch seed n updates =
    let edges = edge_lines n updates seed (graph_of_vertices n) in
    subst HasNoBatch (sym (append_assoc header_text (vertex_lines n) edges))
    (header-then (vertex_lines n ++ edges) (vertices-then n edges (edges-have n updates seed (graph_of_vertices n))))
