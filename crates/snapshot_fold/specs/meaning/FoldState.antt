-- What a fold of records knows.
use Rattle.std.specs.Prelude.{ℕ, List, [], Option, None}
use Rattle.graph_types.specs.declared.ids.Mode.{Mode}
use Rattle.graph_types.specs.meaning.Piece.{PieceValue}
use Rattle.record_text.specs.declared.record_format.RecordFormat.{RecordFormat}
use Rattle.snapshot_fold.specs.meaning.Pieces.{last_of}

pub record FoldState : Type 0 where
  -- the format, once a line has set it
  pub format : Option RecordFormat
  -- the mode of the first piece that was accepted
  pub mode : Option Mode
  -- the last timestamp that is done, and the pieces there then, ascending
  pub done : ℕ
  pub settled : List PieceValue
  -- the pieces after the records so far, ascending
  pub held : List PieceValue
  -- the pieces that went and that came at the open timestamp, in the order of their records
  pub went : List PieceValue
  pub came : List PieceValue

-- the last piece that went at the open timestamp, and the last that came
abbrev pub last_rem : FoldState → Option PieceValue
last_rem s = last_of s.went

abbrev pub last_new : FoldState → Option PieceValue
last_new s = last_of s.came

-- before the first record
abbrev pub empty_fold : FoldState
empty_fold = record { format = None; mode = None; done = 0; settled = []; held = []; went = []; came = [] }
