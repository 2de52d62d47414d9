-- Which members the line has so far.
use Rattle.std.proofs.Common.{◌≤◌, length}
use Rattle.record_text.proofs.Members.{HasFrom}
use Rattle.record_text.proofs.line.fill_members.Given as goal

abbrev pub invariant-loop-place : goal.invariant-loop-place
invariant-loop-place l = (length l.piece.members ≤ 8) × (l.place ≤ length l.piece.members) × HasFrom l.piece.members l.line l.place

abbrev pub decreases-loop-place : goal.decreases-loop-place
decreases-loop-place l = l.place
