-- The lines of a timestamp's text are read as its records.
use Rattle.std.proofs.Common.{◌≡◌, ℕ, List, [], ◌∷◌, ◌++◌, map, Option, Some, refl, ap, sym, ◌∙◌, append_assoc}
use Rattle.std.specs.Prelude.{codes, decimal}
use Rattle.std.specs.List.{AllByRecursion, flat_map}
use Rattle.std.proofs.lemmas.List.{map-append}
use Rattle.graph_types.specs.declared.ids.Mode.{Mode}
use Rattle.graph_types.specs.declared.member.Member.{Member}
use Rattle.graph_types.specs.meaning.Graph.{Graph}
use Rattle.graph_types.specs.meaning.Piece.{PieceValue, members_of_all}
use Rattle.job_io.specs.meaning.Lines.{Line, lf, without_cr}
use Rattle.job_io.proofs.LinesOf.{whole_lines_of-whole}
use Rattle.mining_model.specs.meaning.Changes.{removed_pieces, added_pieces}
use Rattle.mining_model.specs.meaning.Embeddings.{Pattern, embeddings}
use Rattle.record_text.specs.declared.read.RecordLine.{RecordLine}
use Rattle.record_text.specs.declared.read.RecordLine.TheVariants.{Head, Rem, Add, Done}
use Rattle.record_text.specs.meaning.Grammar.{record_of}
use Rattle.record_text.specs.meaning.Text.{count_after, count_text, done_text, head_text, member_text, record_line, records_text, after_space, step_text}
use Rattle.record_text.specs.meaning.Writable.{IsCount, IsStamp, IsWritable}
use Rattle.record_text.proofs.Written.{IsWritten, HasNoLf-printed, without_cr-printed, rem_written, new_written, done_written, head_written}
use Rattle.shared_lemmas.proofs.Claims.{all-filter}
use Rattle.snapshot_fold.specs.meaning.Accepted.{said_by}
use Rattle.snapshot_fold.specs.meaning.Records.{pieces_of, step_records}
use Rattle.snapshot_fold.proofs.Embedded.{piece_of}

-- a line that was written is the first that its text says
said_by-line : (line rest text : List ℕ) (said : RecordLine) → text ≡ line ++ lf ∷ rest → IsWritten line said → said_by text ≡ Some said ∷ said_by rest
said_by-line line rest text said split written =
    ap said_by split
    ∙ ap (map (λ (l : Line). record_of (without_cr l.bytes))) (whole_lines_of-whole line rest (HasNoLf-printed line written.printed))
    ∙ ap (λ bytes. record_of bytes ∷ said_by rest) (without_cr-printed line written.printed)
    ∙ ap (λ r. r ∷ said_by rest) written.reads

-- a record's line before its LF
body : List ℕ → ℕ → List Member → List ℕ
body word t members = word ++ after_space (decimal t) ++ flat_map (λ m. after_space (member_text m)) members

first_record : (word : List ℕ) (t : ℕ) (members : List Member) (more : List (List Member)) (rest : List ℕ) → records_text word t (members ∷ more) ++ rest ≡ body word t members ++ lf ∷ (records_text word t more ++ rest)
unfolding body
first_record word t members more rest =
    append_assoc (record_line word t members) (records_text word t more) rest
    ∙ append_assoc (body word t members) (codes "\n") (records_text word t more ++ rest)

-- pieces that were made of members have these
pub members-pieces_of : (kind : Mode) (lists : List (List Member)) → members_of_all (pieces_of kind lists) ≡ lists
members-pieces_of kind [] = refl
members-pieces_of kind (members ∷ lists) = ap (λ ls. members ∷ ls) (members-pieces_of kind lists)

writable-pieces_of : (kind : Mode) (lists : List (List Member)) → AllByRecursion (λ members. IsWritable (piece_of kind members)) lists → AllByRecursion IsWritable (pieces_of kind lists)
writable-pieces_of kind [] can = tt
writable-pieces_of kind (members ∷ lists) can = (can.0, writable-pieces_of kind lists can.1)

-- records of one word, of which each line is read as what it was written for
module _ (word : List ℕ) (t : ℕ) (make : PieceValue → RecordLine)
    (read : (piece : PieceValue) (line : List ℕ) → IsWritable piece → line ++ codes "\n" ≡ record_line word t piece.members → IsWritten line (make piece)) where
  pub pieces_said : (pieces : List PieceValue) (rest : List ℕ) → AllByRecursion IsWritable pieces →
      said_by (records_text word t (members_of_all pieces) ++ rest) ≡ map Some (map make pieces) ++ said_by rest
  pieces_said [] rest can = refl
  pieces_said (p ∷ pieces) rest can =
      let lists = members_of_all pieces in
      said_by-line (body word t p.members) (records_text word t lists ++ rest) _ (make p) (first_record word t p.members lists rest) (read p _ can.0 (unfold body in refl))
      ∙ ap (λ said. Some (make p) ∷ said) (pieces_said pieces rest can.1)

  -- the same of lists of members
  records_said : (kind : Mode) (lists : List (List Member)) (rest : List ℕ) → AllByRecursion (λ members. IsWritable (piece_of kind members)) lists →
      said_by (records_text word t lists ++ rest) ≡ map Some (map make (pieces_of kind lists)) ++ said_by rest
  records_said kind lists rest can =
      ap (λ ls. said_by (records_text word t ls ++ rest)) (sym (members-pieces_of kind lists))
      ∙ pieces_said (pieces_of kind lists) rest (writable-pieces_of kind lists can)

-- the line that closes a timestamp
pub said_by-done : (t : ℕ) (count : Option ℕ) (rest : List ℕ) → IsStamp t → IsCount count → said_by (done_text t count ++ rest) ≡ Some (Done t count) ∷ said_by rest
said_by-done t count rest fits few =
    let line = codes "DONE " ++ decimal t ++ count_text count in
    said_by-line line rest (done_text t count ++ rest) (Done t count) (append_assoc line (codes "\n") rest) (done_written t count line fits few refl)

-- the first line of a text in format 2
pub said_by-head : (rest : List ℕ) → said_by (head_text ++ rest) ≡ Some Head ∷ said_by rest
said_by-head rest = said_by-line (codes "records 2") rest (head_text ++ rest) Head refl (head_written (codes "records 2") refl)

module _ (count : Option ℕ) (pattern : Pattern) (before now : Graph) (t : ℕ) (fits : IsStamp t) (few : IsCount (count_after pattern before now count))
    (can_before : AllByRecursion (λ members. IsWritable (piece_of pattern.mode members)) (embeddings pattern before))
    (can_now : AllByRecursion (λ members. IsWritable (piece_of pattern.mode members)) (embeddings pattern now)) where
  -- what the text of a timestamp says, and what is said after it
  pub said_by-step : (rest : List ℕ) → said_by (step_text count pattern before now t ++ rest) ≡ map Some (step_records count pattern before now t) ++ said_by rest
  said_by-step rest =
      let kind = pattern.mode in
      let went = removed_pieces pattern before now in
      let came = added_pieces pattern before now in
      let rem = records_text (codes "REM") t went in
      let new = records_text (codes "NEW") t came in
      let after_it = count_after pattern before now count in
      let closing = done_text t after_it ++ rest in
      let rems : List RecordLine = map (λ p. Rem t p) (pieces_of kind went) in
      let news : List RecordLine = map (λ p. Add t p) (pieces_of kind came) in
      let after : List (Option RecordLine) = said_by rest in
      ap said_by (append_assoc (rem ++ new) (done_text t after_it) rest ∙ append_assoc rem new closing)
      ∙ records_said (codes "REM") t (λ p. Rem t p) (λ p line can is. rem_written t p line fits can is) kind went (new ++ closing) (all-filter _ _ (embeddings pattern before) can_before)
      ∙ ap (λ said. map Some rems ++ said)
      (records_said (codes "NEW") t (λ p. Add t p) (λ p line can is. new_written t p line fits can is) kind came closing (all-filter _ _ (embeddings pattern now) can_now)
      ∙ ap (λ said. map Some news ++ said)
      (said_by-done t after_it rest fits few))
      ∙ sym (
      ap (λ said. said ++ after) (map-append Some rems (news ++ (Done t after_it ∷ [])) ∙ ap (λ said. map Some rems ++ said) (map-append Some news (Done t after_it ∷ [])))
      ∙ append_assoc (map Some rems) (map Some news ++ (Some (Done t after_it) ∷ [])) after
      ∙ ap (λ said. map Some rems ++ said) (append_assoc (map Some news) (Some (Done t after_it) ∷ []) after)
      )
