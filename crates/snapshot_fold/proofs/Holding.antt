-- Sets of pieces of few members, and sets that are made from them.
use Rattle.std.proofs.Common.{◌≡◌, true, false, ◌||◌, List, [], ◌∷◌, ◌++◌, refl, sym, ap, subst, ◌∙◌, append_assoc, if◌then◌else◌}
use Rattle.std.specs.BTreeSet.{insert_key}
use Rattle.std.specs.List.{AllByRecursion}
use Rattle.std.specs.List.Sorted.{IsStrictlySortedBy}
use Rattle.std.specs.Ordering.{match_ordering}
use Rattle.std.specs.declared.cmp.Ordering.TheVariants.{Less}
use Rattle.graph_types.specs.meaning.Orders.{piece_cmp_total}
use Rattle.graph_types.specs.meaning.Piece.{PieceValue, piece_cmp}
use Rattle.graph_types.proofs.Members.{piece_cmp-IsAntisymmetric}
use Rattle.shared_lemmas.proofs.Ascending.{sorted-parts}
use Rattle.shared_lemmas.proofs.Claims.{all-weaker}
use Rattle.shared_lemmas.proofs.Orderings.{Greater-turned, same_item}
use Rattle.snapshot_fold.specs.meaning.Pieces.{has_piece, is_same_piece, without_piece}
use Rattle.snapshot_fold.specs.storage.Packed.{HasFew}

-- a piece of many members is not among some of few
pub absent_long : (pieces : List PieceValue) (p : PieceValue) → AllByRecursion HasFew pieces → ¬ (HasFew p) → has_piece pieces p ≡ false
absent_long [] p few long = refl
absent_long (q ∷ pieces) p few long =
    elim (is_same_piece p q) as (λ b. is_same_piece p q ≡ b → (b || has_piece pieces p) ≡ false) [
      | true ↦ λ tied. absurd (long (subst HasFew (sym (same_item piece_cmp-IsAntisymmetric p q tied)) few.0))
      | false ↦ λ _. absent_long pieces p few.1 long
    ] refl

-- what is not there is not taken out
pub without-absent : (pieces : List PieceValue) (p : PieceValue) → has_piece pieces p ≡ false → without_piece pieces p ≡ pieces
without-absent [] p absent = refl
without-absent (q ∷ pieces) p absent =
    elim (is_same_piece p q) as (λ b. (b || has_piece pieces p) ≡ false → (if b then pieces else q ∷ without_piece pieces p) ≡ q ∷ pieces) [
      | true ↦ λ e. absurd (cc)
      | false ↦ λ rest. ap (λ more. q ∷ more) (without-absent pieces p rest)
    ] absent

insert_key-end : (pieces : List PieceValue) (p : PieceValue) → AllByRecursion (λ q. piece_cmp q p ≡ Less) pieces → insert_key piece_cmp pieces p ≡ pieces ++ p ∷ []
insert_key-end [] p below = refl
insert_key-end (q ∷ pieces) p below =
    ap (λ r. match_ordering r (p ∷ q ∷ pieces) (q ∷ pieces) (q ∷ insert_key piece_cmp pieces p)) (Greater-turned piece_cmp_total q p below.0)
    ∙ ap (λ rest. q ∷ rest) (insert_key-end pieces p below.1)

-- one more of some ascending pieces is moved
pub moved : (whole done rest new : List PieceValue) (p : PieceValue) → IsStrictlySortedBy piece_cmp whole → done ++ p ∷ rest ≡ whole → new ≡ insert_key piece_cmp done p → new ++ rest ≡ whole
moved whole done rest new p ascends so_far is =
    let parts = sorted-parts piece_cmp done (p ∷ rest) (subst (IsStrictlySortedBy piece_cmp) (sym so_far) ascends) in
    let below = all-weaker (λ q. AllByRecursion (λ r. piece_cmp q r ≡ Less) (p ∷ rest)) (λ q. piece_cmp q p ≡ Less) (λ q less. less.0) done parts.apart in
    ap (λ ps. ps ++ rest) (is ∙ insert_key-end done p below) ∙ append_assoc done (p ∷ []) rest ∙ so_far
