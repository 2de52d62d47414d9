use Rattle.std.proofs.Common.{refl, arith}
use Rattle.std.proofs.lemmas.List.Elements.{All-nil}
use Rattle.graph_types.specs.meaning.Piece.{HasLowerFirst, IsOfMode, member_cmp}
use Rattle.graph_types.proofs.piece.Piece.empty.Goals as goal
use Rattle.shared_lemmas.proofs.Ascending.{sorted-none}

pub invariant_of-result : goal.invariant_of-result
invariant_of-result c = record {
  sound = record {
    room = omega arith;
    ascending = sorted-none member_cmp;
    of_mode = All-nil (IsOfMode c.args.mode);
    lower_first = All-nil HasLowerFirst;
  };
  len_is = refl;
  slots_are = refl;
}
