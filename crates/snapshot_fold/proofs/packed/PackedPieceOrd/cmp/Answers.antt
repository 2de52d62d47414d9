use Rattle.std.proofs.Common.{◌≡◌, refl, subst, ◌∙◌}
use Rattle.std.specs.Cmp.Lexicographic.{slice_cmp}
use Rattle.std.specs.Ordering.{ordering_then}
use Rattle.graph_types.specs.declared.ids.Mode.{Mode}
use Rattle.graph_types.specs.declared.ids.Mode.TheVariants.{Vertex, Edge}
use Rattle.graph_types.specs.contracts.ids.ModeOrd.TheImpl as derived
use Rattle.graph_types.specs.meaning.Graph.{pair_cmp}
use Rattle.graph_types.specs.meaning.Piece.{IsPiece, mode_cmp}
use Rattle.graph_types.proofs.Members.{piece_cmp-slots}
use Rattle.snapshot_fold.proofs.packed.PackedPieceOrd.cmp.Goals as goal

mode_cmp-derived : (k l : Mode) → derived.ghosts.cmp k l ≡ mode_cmp k l
mode_cmp-derived Vertex Vertex = refl
mode_cmp-derived Vertex Edge = refl
mode_cmp-derived Edge Vertex = refl
mode_cmp-derived Edge Edge = refl

pub returns : goal.returns
returns c =
    let modes = c.cmp.ensures ∙ mode_cmp-derived c.self.inside.mode c.other.inside.mode ∙ (λ i. mode_cmp (c.self.view_is i).mode (c.other.view_is i).mode) in
    let members = c.cmp-by_members.ensures ∙ (λ i. slice_cmp pair_cmp (c.live.ensures i) (c.live-2.ensures i)) in
    c.then.ensures
    ∙ (λ i. ordering_then (modes i) (members i))
    ∙ piece_cmp-slots _ _ (subst IsPiece c.self.view_is c.self.invariant.sound) (subst IsPiece c.other.view_is c.other.invariant.sound)
