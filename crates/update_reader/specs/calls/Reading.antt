-- What reading a line answers.
use Rattle.std.specs.Prelude.{◌≡◌, ◌<◌, ℕ, List, length, Some, Result, Ok, Err}
use Rattle.graph_types.specs.declared.update.Update.{Update}
use Rattle.update_reader.specs.declared.Item.{Item}
use Rattle.update_reader.specs.declared.Item.TheVariants as item
use Rattle.update_reader.specs.declared.UpdateFault.{UpdateFault}
use Rattle.update_reader.specs.declared.UpdateFault.TheVariants as fault
use Rattle.line_fields.specs.meaning.Names.{Names}
use Rattle.update_reader.specs.meaning.Grammar.{LineContent, nothing, commit, batch_begin, batch_end, update, too_many_labels, bad_line, Form, labelled_form, vertex_form, edge_form, content_of_form, content_of_line}

-- it is an update that brings a new name
abbrev pub BringsName : Names → LineContent → Type 0
BringsName old (update u new) = length old < length new
BringsName old other = ⊥

-- The answer to what was said, and the names then. Memory runs out only for a new name.
abbrev pub AnswersContent : Names → LineContent → Result Item UpdateFault → Names → Type 0
AnswersContent old what (Ok item.Nothing) new = (new ≡ old) × (what ≡ nothing)
AnswersContent old what (Ok item.Commit) new = (new ≡ old) × (what ≡ commit)
AnswersContent old what (Ok item.BatchBegin) new = (new ≡ old) × (what ≡ batch_begin)
AnswersContent old what (Ok item.BatchEnd) new = (new ≡ old) × (what ≡ batch_end)
AnswersContent old what (Ok (item.Update u)) new = what ≡ update u new
AnswersContent old what (Err fault.BadLine) new = (new ≡ old) × (what ≡ bad_line)
AnswersContent old what (Err fault.TooManyLabels) new = (new ≡ old) × (what ≡ too_many_labels)
AnswersContent old what (Err fault.NoMemory) new = (new ≡ old) × BringsName old what

-- the names before, a line whose CR was dropped, the answer, the names then
abbrev pub ReadsLine : Names → List ℕ → Result Item UpdateFault → Names → Type 0
ReadsLine old line result new = AnswersContent old (content_of_line old line) result new

-- words of this form say the same
abbrev pub ReadsForm : Names → Form → Result Item UpdateFault → Names → Type 0
ReadsForm old form result new = AnswersContent old (content_of_form old form) result new

-- an answer by the update that is made of what was read
abbrev pub answer_with : {X : Type 0} → (X → Update) → Result X UpdateFault → Result Item UpdateFault
answer_with make (Ok x) = Ok (item.Update (make x))
answer_with make (Err f) = Err f

-- the number of a label, for whatever update it is read
abbrev pub ReadsLabel : Names → List ℕ → Result ℕ UpdateFault → Names → Type 0
ReadsLabel old label result new =
    (make : ℕ → Update) → ReadsForm old (labelled_form (Some make) label) (answer_with make result) new

-- an id and the number of a label, for whatever update of a vertex they are read
abbrev pub ReadsVertex : Names → List ℕ → List ℕ → Result (ℕ × ℕ) UpdateFault → Names → Type 0
ReadsVertex old id label result new =
    (make : ℕ → ℕ → Update) → ReadsForm old (vertex_form make id label) (answer_with (λ v. make v.0 v.1) result) new

-- two ids and the number of a label, for whatever update of an edge they are read
abbrev pub ReadsEdge : Names → List ℕ → List ℕ → List ℕ → Result (ℕ × ℕ × ℕ) UpdateFault → Names → Type 0
ReadsEdge old from to label result new =
    (make : ℕ → ℕ → ℕ → Update) → ReadsForm old (edge_form make from to label) (answer_with (λ e. make e.0 e.1 e.2) result) new
