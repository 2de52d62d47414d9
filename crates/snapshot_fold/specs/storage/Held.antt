-- How the pieces that are held are kept: packed while each has few members, and else as they are.
use Rattle.std.specs.Prelude.{List}
use Rattle.std.specs.List.{AllByRecursion}
use Rattle.graph_types.specs.meaning.Piece.{PieceValue}
use Rattle.snapshot_fold.specs.declared.held.Kept.{Kept}
use Rattle.snapshot_fold.specs.declared.held.Kept.TheVariants.{Packed, Long}
use Rattle.snapshot_fold.specs.storage.Packed.{HasFew}

abbrev pub pieces_kept : Kept → List PieceValue
pieces_kept (Packed pieces) = pieces.keys
pieces_kept (Long pieces) = pieces.keys

abbrev pub IsKept : Kept → Type 0
IsKept (Packed pieces) = AllByRecursion HasFew pieces.keys
IsKept (Long pieces) = Unit {0}
