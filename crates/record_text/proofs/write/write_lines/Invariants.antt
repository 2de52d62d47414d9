-- The lines so far were passed on.
use Rattle.std.proofs.Common.{◌≤◌, take}
use Rattle.graph_types.specs.meaning.Piece.{members_of_all}
use Rattle.job_io.specs.calls.Ends.{PassesOn}
use Rattle.record_text.specs.meaning.Listing.{listing_text}
use Rattle.record_text.proofs.write.write_lines.Given as goal

abbrev pub invariant-loop-piece : goal.invariant-loop-piece
invariant-loop-piece g l =
    PassesOn (g.O.Sink.written l.fn.out) l.fn.page (g.O.Sink.written l.out) l.page (listing_text (members_of_all (take l.piece-index l.pieces)))
    × (g.O.Sink.faults l.fn.out ≤ g.O.Sink.faults l.out)
