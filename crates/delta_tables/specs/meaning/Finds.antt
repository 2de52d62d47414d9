-- What is kept of a find.
use Rattle.std.specs.Prelude.{Option, Some, is_some}
use Rattle.graph_types.specs.meaning.Graph.{Graph}
use Rattle.graph_types.specs.meaning.Piece.{PieceValue}
use Rattle.delta_tables.specs.declared.finds.Find.{Find}

-- of each find its piece, and in which graphs it has a picture
abbrev pub find_note : PieceValue → Option Graph → Option Graph → Option Find
find_note piece was is = Some (record { piece = piece; was = is_some was; is = is_some is })
