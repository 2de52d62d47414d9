-- The last of some ascending pieces.
use Rattle.std.proofs.Common.{◌≡◌, ◌↔◌, IsTrue, ℕ, zero, suc, Bool, true, false, List, [], ◌∷◌, ◌++◌, length, get_or, None, Some, refl, sym, ap, arith}
use Rattle.std.specs.List.{AllByRecursion}
use Rattle.std.specs.List.Sorted.{IsStrictlySortedBy}
use Rattle.std.specs.Option.{is_none}
use Rattle.std.specs.declared.cmp.Ordering.TheVariants.{Less}
use Rattle.std.proofs.lemmas.Bool.{false≢true}
use Rattle.graph_types.specs.meaning.Orders.{piece_cmp_total}
use Rattle.graph_types.specs.meaning.Piece.{PieceValue, piece_cmp}
use Rattle.snapshot_fold.specs.meaning.Pieces.{is_above, last_of}
use Rattle.shared_lemmas.proofs.Orderings.{Less-is}

pub last_of-push : (pieces : List PieceValue) (p : PieceValue) → last_of (pieces ++ p ∷ []) ≡ Some p
last_of-push [] p = refl
last_of-push (q ∷ []) p = refl
last_of-push (q ∷ r ∷ pieces) p = last_of-push (r ∷ pieces) p

pub last_of-at : (pieces : List PieceValue) (n : ℕ) (p : PieceValue) → suc n ≡ length pieces → p ≡ get_or pieces n p → last_of pieces ≡ Some p
last_of-at [] n p long is = absurd (omega (arith, long))
last_of-at (q ∷ []) zero p long is = ap Some (sym is)
last_of-at (q ∷ []) (suc n) p long is = absurd (omega (arith, long))
last_of-at (q ∷ r ∷ pieces) zero p long is = absurd (omega (arith, long))
last_of-at (q ∷ r ∷ pieces) (suc n) p long is = last_of-at (r ∷ pieces) n p (omega (arith, long)) is

-- where there is no last one there is none
pub none_last : (pieces : List PieceValue) → is_none (last_of pieces) ≡ true → pieces ≡ []
none_last [] none = refl
none_last (q ∷ []) none = absurd (false≢true none)
none_last (q ∷ r ∷ pieces) none = let e = none_last (r ∷ pieces) none in absurd (cc)

pub some_last : (pieces : List PieceValue) → (pieces ≡ [] → ⊥) → is_none (last_of pieces) ≡ false
some_last [] some = absurd (some refl)
some_last (q ∷ []) some = refl
some_last (q ∷ r ∷ pieces) some = some_last (r ∷ pieces) (λ e. cc)

-- what is above the last is above each
pub all_below_next : (pieces : List PieceValue) (p : PieceValue) → IsStrictlySortedBy piece_cmp pieces → is_above (last_of pieces) p ≡ true → AllByRecursion (λ q. piece_cmp q p ≡ Less) pieces
unfolding IsStrictlySortedBy
all_below_next [] p s above = tt
all_below_next (q ∷ []) p s above = ((Less-is (piece_cmp q p)).0 above, tt)
all_below_next (q ∷ r ∷ pieces) p s above =
    let rest = all_below_next (r ∷ pieces) p s.1 above in
    (piece_cmp_total.trans q r p s.0.0 rest.0, rest)

pub none_if_empty : (pieces : List PieceValue) (b : Bool) → IsTrue b ↔ (pieces ≡ []) → b ≡ is_none (last_of pieces)
none_if_empty pieces true empty = ap (λ ps. is_none (last_of ps)) (sym (empty.0 refl))
none_if_empty pieces false empty = sym (some_last pieces (λ e. false≢true (empty.1 e)))
