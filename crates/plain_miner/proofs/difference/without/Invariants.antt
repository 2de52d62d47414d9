use Rattle.std.proofs.Common.{◌≡◌, take}
use Rattle.plain_miner.specs.meaning.Pieces.{piece_difference}
use Rattle.plain_miner.proofs.difference.without.Given as goal

abbrev pub invariant-loop-piece : goal.invariant-loop-piece
invariant-loop-piece l = l.left ≡ piece_difference (take l.piece-index l.pieces) l.others
