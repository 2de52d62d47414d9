-- What a line of the stream says.
use Rattle.std.specs.Prelude.{ℕ, List, [], ◌∷◌, codes, Option, None, Some, if◌then◌else◌}
use Rattle.std.specs.Str.{bytes_eq}
use Rattle.std.specs.Option.{option_map, option_and_then}
use Rattle.graph_types.specs.declared.update.Update.{Update}
use Rattle.graph_types.specs.declared.update.Update.TheVariants.{AddVertex, RemoveVertex, LabelVertex, AddEdge, RemoveEdge, LabelEdge}
use Rattle.line_fields.specs.meaning.Fields.{words_of, id_of, is_label_word, is_nothing_line}
use Rattle.update_reader.specs.declared.keyword.Keyword.{Keyword}
use Rattle.update_reader.specs.declared.keyword.Keyword.TheVariants as keyword
use Rattle.line_fields.specs.meaning.Names.{Names, no_name, interning}

-- what a line of the stream says
pub data LineContent : Type 0 where
  -- it is blank or a comment
  nothing : LineContent
  -- the window ends
  commit : LineContent
  -- a batch begins, and ends
  batch_begin : LineContent
  batch_end : LineContent
  -- an update, and the names then
  update : Update → Names → LineContent
  -- an update whose label is new, and there is no room for its name
  too_many_labels : LineContent
  bad_line : LineContent

-- the form of a line's words: an update waits for the number of its label
pub data Form : Type 0 where
  commit_form : Form
  batch_form : Form
  end_form : Form
  unlabelled : Update → Form
  labelled : (ℕ → Update) → List ℕ → Form
  no_form : Form

-- two ids
abbrev pub ids_of : List ℕ → List ℕ → Option (ℕ × ℕ)
ids_of from to = option_and_then (λ x. option_map (λ y. (x, y)) (id_of to)) (id_of from)

abbrev pub unlabelled_form : Option Update → Form
unlabelled_form (Some u) = unlabelled u
unlabelled_form None = no_form

abbrev pub labelled_form : Option (ℕ → Update) → List ℕ → Form
labelled_form (Some make) label = if is_label_word label then labelled make label else no_form
labelled_form None label = no_form

-- an update of the vertex with this id and label
abbrev pub vertex_form : (ℕ → ℕ → Update) → List ℕ → List ℕ → Form
vertex_form make id label = labelled_form (option_map make (id_of id)) label

-- an update of the edge between these ids, with this label
abbrev pub edge_form : (ℕ → ℕ → ℕ → Update) → List ℕ → List ℕ → List ℕ → Form
edge_form make from to label = labelled_form (option_map (λ ends. make ends.0 ends.1) (ids_of from to)) label

abbrev pub keyword_of : List ℕ → Option Keyword
keyword_of word =
    if bytes_eq word (codes "+v") then Some keyword.AddVertex
    else if bytes_eq word (codes "-v") then Some keyword.RemoveVertex
    else if bytes_eq word (codes "~v") then Some keyword.LabelVertex
    else if bytes_eq word (codes "+e") then Some keyword.AddEdge
    else if bytes_eq word (codes "-e") then Some keyword.RemoveEdge
    else if bytes_eq word (codes "~e") then Some keyword.LabelEdge
    else if bytes_eq word (codes "commit") then Some keyword.Commit
    else if bytes_eq word (codes "batch") then Some keyword.Batch
    else if bytes_eq word (codes "end") then Some keyword.End
    else None

-- the form of a line by its keyword and the words after that: what is added without a label gets `_`
abbrev pub form_with : Keyword → List (List ℕ) → Form
form_with keyword.AddVertex (id ∷ []) = vertex_form (λ v l. AddVertex v l) id no_name
form_with keyword.AddVertex (id ∷ label ∷ []) = vertex_form (λ v l. AddVertex v l) id label
form_with keyword.RemoveVertex (id ∷ []) = unlabelled_form (option_map (λ v. RemoveVertex v) (id_of id))
form_with keyword.LabelVertex (id ∷ label ∷ []) = vertex_form (λ v l. LabelVertex v l) id label
form_with keyword.AddEdge (from ∷ to ∷ []) = edge_form (λ x y l. AddEdge x y l) from to no_name
form_with keyword.AddEdge (from ∷ to ∷ label ∷ []) = edge_form (λ x y l. AddEdge x y l) from to label
form_with keyword.RemoveEdge (from ∷ to ∷ []) = unlabelled_form (option_map (λ ends. RemoveEdge ends.0 ends.1) (ids_of from to))
form_with keyword.LabelEdge (from ∷ to ∷ label ∷ []) = edge_form (λ x y l. LabelEdge x y l) from to label
form_with keyword.Commit [] = commit_form
form_with keyword.Batch [] = batch_form
form_with keyword.End [] = end_form
form_with word fields = no_form

abbrev pub form_after_keyword : Option Keyword → List (List ℕ) → Form
form_after_keyword (Some word) fields = form_with word fields
form_after_keyword None fields = no_form

abbrev pub form_of : List (List ℕ) → Form
form_of [] = no_form
form_of (word ∷ fields) = form_after_keyword (keyword_of word) fields

-- an update whose label has the number that interning its name gives
abbrev pub content_of_labelled : (ℕ → Update) → Option (ℕ × Names) → LineContent
content_of_labelled make (Some with_number) = update (make with_number.0) with_number.1
content_of_labelled make None = too_many_labels

abbrev pub content_of_form : Names → Form → LineContent
content_of_form names commit_form = commit
content_of_form names batch_form = batch_begin
content_of_form names end_form = batch_end
content_of_form names (unlabelled u) = update u names
content_of_form names (labelled make label) = content_of_labelled make (interning names label)
content_of_form names no_form = bad_line

-- what a line says whose CR was dropped, after the labels that were seen so far
abbrev pub content_of_line : Names → List ℕ → LineContent
content_of_line names line = if is_nothing_line line then nothing else content_of_form names (form_of (words_of line))
