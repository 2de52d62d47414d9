-- What is kept while a header is read.
use Rattle.std.specs.Prelude.{refl}
use Rattle.std.specs.Coded.{Coded, code_by, coded×, coded_ℕ, coded_list}
use Rattle.line_fields.specs.meaning.Names.{Names}
use Rattle.program_grammar.specs.declared.header.HeaderReader.{HeaderReader}

-- the lines so far, and the names of the labels in them
pub record HeaderSoFar : Type 0 where
  pub reader : HeaderReader
  pub names : Names

-- it is stored as the pair of its fields
abbrev pub header_code : Coded HeaderReader → Coded HeaderSoFar
header_code reader_code =
    code_by (HeaderReader × Names) (coded× reader_code (coded_list (coded_list coded_ℕ)))
    (λ h. (h.reader, h.names)) (λ p. record { reader = p.0; names = p.1 }) (λ _. refl)
