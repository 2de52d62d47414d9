use Rattle.std.proofs.Common.{◌≡◌, ◌⊎◌, drop}
use Rattle.program_grammar.specs.meaning.Programs.{LinesFit, LinesRunOut, RoomFor, lines_said, program_said}
use Rattle.line_fields.specs.meaning.Names.{Names}
use Rattle.program_grammar.specs.declared.header.HeaderReader.TheVariants as header
use Rattle.program_grammar.proofs.program.read_program.Given as goal

-- what the lines to come say is what all of them say, and there is room for their labels
abbrev pub invariant-loop-i : goal.invariant-loop-i
invariant-loop-i l = record {
  same : program_said l.lines l.fn.names ≡ lines_said l.header l.i (drop l.i l.lines) l.names;
  room : RoomFor l.header l.names ⊎ LinesFit l.header (drop l.i l.lines) l.names;
  starved : (new : Names) → LinesRunOut l.header (drop l.i l.lines) l.names new → LinesRunOut header.Mode l.lines l.fn.names new;
}
