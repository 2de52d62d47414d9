-- A program as it is written.
use Rattle.std.specs.Prelude.{ℕ, codes, decimal, List, [], ◌∷◌, ◌++◌}
use Rattle.graph_types.specs.declared.ids.Mode.{Mode}
use Rattle.graph_types.specs.declared.ids.Mode.TheVariants as mode
use Rattle.line_fields.specs.meaning.Names.{Names}
use Rattle.condition_grammar.specs.meaning.Text.{cond_text}
use Rattle.filter_polarity.specs.meaning.Program.{ProgramValue}

abbrev pub mode_text : Mode → List ℕ
mode_text mode.Vertex = codes "vertex"
mode_text mode.Edge = codes "edge"

-- the five lines of a program
abbrev pub program_text : Names → ProgramValue → List (List ℕ)
program_text names p =
    (codes "mode " ++ mode_text p.mode)
    ∷ (codes "size " ++ decimal p.size)
    ∷ (codes "filter " ++ cond_text names p.filter)
    ∷ (codes "match " ++ cond_text names p.matching)
    ∷ codes "begin"
    ∷ []
