-- The piece so far goes on with the words that are left as the whole line says, and ends with the last member.
use Rattle.std.proofs.Common.{◌≡◌, length}
use Rattle.line_fields.specs.meaning.Fields.{words_of}
use Rattle.record_text.specs.meaning.Grammar.{piece_said}
use Rattle.record_text.proofs.Pieces.{IsRead, goes_on}
use Rattle.record_text.proofs.read.read_piece.Given as goal

abbrev pub invariant-loop-word : goal.invariant-loop-word
invariant-loop-word l = (goes_on l.piece.members (words_of l.behind) ≡ piece_said (words_of l.line)) × IsRead l.piece l.last

abbrev pub decreases-loop-word : goal.decreases-loop-word
decreases-loop-word l = length (words_of l.behind)
