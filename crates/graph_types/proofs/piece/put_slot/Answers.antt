use Rattle.std.proofs.Common.{ap, ◌∙◌, set}
use Rattle.graph_types.proofs.Lists.{put_at}
use Rattle.graph_types.proofs.piece.put_slot.Goals as goal

pub returns : goal.returns
returns c =
    ap (λ slots. set slots c.args.place c.args.slot) c.copy_within.ensures.after ∙ put_at _ _ _ _ c.requires.place c.requires.room
