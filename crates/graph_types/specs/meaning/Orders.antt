-- That the orders of edges, members and pieces are total.
use Rattle.std.specs.Prelude.{◌≡◌, ℕ}
use Rattle.std.proofs.Common.{refl, sym, subst}
use Rattle.std.specs.Ordering.{nat_cmp, on, then_cmp}
use Rattle.std.specs.Cmp.{IsTotalOrder, nat_cmp_total, then_total, on_total}
use Rattle.std.specs.Cmp.Lexicographic.{lists_total}
use Rattle.graph_types.specs.declared.ids.Mode.{Mode}
use Rattle.graph_types.specs.declared.ids.Mode.TheVariants as mode
use Rattle.graph_types.specs.declared.member.Member.{Member}
use Rattle.graph_types.specs.declared.member.Member.TheVariants as member
use Rattle.graph_types.specs.meaning.Graph.{pair_cmp}
use Rattle.graph_types.specs.meaning.Piece.{PieceValue, member_cmp, mode_cmp, piece_cmp}
use Rattle.graph_types.specs.storage.Slots.{slot_of}
use Rattle.shared_lemmas.proofs.Orderings.{then_tie}

pub pair_cmp_total : IsTotalOrder pair_cmp
pair_cmp_total = then_total (on_total (λ (e : ℕ × ℕ). e.0) nat_cmp_total) (on_total (λ (e : ℕ × ℕ). e.1) nat_cmp_total)

rank : Member → ℕ
rank (member.Vertex v) = 0
rank (member.Edge e) = 1

member_cmp-parts : (x y : Member) → then_cmp (on rank nat_cmp) (on slot_of pair_cmp) x y ≡ member_cmp x y
unfolding rank
member_cmp-parts (member.Vertex v) (member.Vertex w) = sym (then_tie (nat_cmp v w))
member_cmp-parts (member.Vertex v) (member.Edge f) = refl
member_cmp-parts (member.Edge e) (member.Vertex v) = refl
member_cmp-parts (member.Edge e) (member.Edge f) = refl

pub member_cmp_total : IsTotalOrder member_cmp
member_cmp_total = subst IsTotalOrder (λ i x y. member_cmp-parts x y i) (then_total (on_total rank nat_cmp_total) (on_total slot_of pair_cmp_total))

mode_rank : Mode → ℕ
mode_rank mode.Vertex = 0
mode_rank mode.Edge = 1

mode_cmp-rank : (k l : Mode) → on mode_rank nat_cmp k l ≡ mode_cmp k l
unfolding mode_rank
mode_cmp-rank mode.Vertex mode.Vertex = refl
mode_cmp-rank mode.Vertex mode.Edge = refl
mode_cmp-rank mode.Edge mode.Vertex = refl
mode_cmp-rank mode.Edge mode.Edge = refl

mode_cmp_total : IsTotalOrder mode_cmp
mode_cmp_total = subst IsTotalOrder (λ i k l. mode_cmp-rank k l i) (on_total mode_rank nat_cmp_total)

pub piece_cmp_total : IsTotalOrder piece_cmp
piece_cmp_total = then_total (on_total (λ (p : PieceValue). p.mode) mode_cmp_total) (on_total (λ (p : PieceValue). p.members) (lists_total member_cmp_total))
