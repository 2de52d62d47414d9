-- How many pieces there are after a timestamp.
use Rattle.std.proofs.Common.{◌≡◌, ℕ, ◌+◌, true, false, not, ◌||◌, Bool, List, [], ◌∷◌, length, refl, sym, ap, ◌∙◌, arith, Some}
use Rattle.std.specs.List.{AllByRecursion}
use Rattle.std.specs.List.Sorted.{IsStrictlySortedBy}
use Rattle.std.specs.Ordering.{is_eq, is_lt, match_ordering, ordering_reverse}
use Rattle.std.specs.declared.cmp.Ordering.TheVariants.{Less, Equal, Greater}
use Rattle.std.proofs.lemmas.Bool.{and_from, or_from, or_parts, true≢false}
use Rattle.std.proofs.lemmas.List.{length-map}
use Rattle.std.proofs.lemmas.Map.Made.{length-remove_key}
use Rattle.graph_types.specs.meaning.Graph.{Graph}
use Rattle.graph_types.specs.meaning.Orders.{piece_cmp_total}
use Rattle.graph_types.specs.meaning.Piece.{PieceValue, piece_cmp}
use Rattle.mining_model.specs.meaning.Changes.{removed_pieces, added_pieces}
use Rattle.mining_model.specs.meaning.Embeddings.{Pattern, embeddings}
use Rattle.mining_model.proofs.Ascending.{IsStrictlySortedBy-embeddings}
use Rattle.record_text.specs.meaning.Text.{total_after}
use Rattle.shared_lemmas.proofs.Claims.{all-both, all-weaker}
use Rattle.snapshot_fold.specs.meaning.Pieces.{is_above, has_piece, is_same_piece, with_piece, without_piece}
use Rattle.snapshot_fold.specs.meaning.Records.{pieces_of}
use Rattle.snapshot_fold.proofs.Changes.{among-with, among-without, ascends-pieces_of, ascends-without, came-absent, came-ascends, changes, went-ascends, went-there, with_all, without_all}
use Rattle.snapshot_fold.proofs.Undone.{Ascends}

-- ---- pieces that ascend, one after another

pub above_first : (p : PieceValue) (pieces : List PieceValue) → Ascends (p ∷ pieces) → AllByRecursion (λ q. is_above (Some p) q ≡ true) pieces
unfolding IsStrictlySortedBy
above_first p pieces s = all-weaker (λ q. piece_cmp p q ≡ Less) (λ q. is_above (Some p) q ≡ true) (λ q less. ap is_lt less) pieces s.0

pub rest_ascends : (p : PieceValue) (pieces : List PieceValue) → Ascends (p ∷ pieces) → Ascends pieces
unfolding IsStrictlySortedBy
rest_ascends p pieces s = s.1

-- a piece above p isn't p
apart_from_first : (p q : PieceValue) → is_above (Some p) q ≡ true → is_same_piece q p ≡ false
apart_from_first p q above =
    ap is_eq (piece_cmp_total.antisymm q p)
    ∙ (elim (piece_cmp p q) as (λ o. is_lt o ≡ true → is_eq (ordering_reverse o) ≡ false) [ Less ↦ λ _. refl | Equal ↦ λ e. absurd (cc) | Greater ↦ λ e. absurd (cc) ] above)

-- those after one that went are still there
pub still_there : (held : List PieceValue) (p : PieceValue) (pieces : List PieceValue) → Ascends held → Ascends (p ∷ pieces) →
    AllByRecursion (λ q. has_piece held q ≡ true) pieces → AllByRecursion (λ q. has_piece (without_piece held p) q ≡ true) pieces
still_there held p pieces held_s sorted there =
    all-weaker (λ q. (is_above (Some p) q ≡ true) × (has_piece held q ≡ true)) (λ q. has_piece (without_piece held p) q ≡ true)
    (λ q both. among-without held p q held_s ∙ and_from _ _ (ap not (apart_from_first p q both.0)) both.1) pieces
    (all-both _ _ pieces (above_first p pieces sorted) there)

-- those after one that came are still absent
pub still_absent : (held : List PieceValue) (p : PieceValue) (pieces : List PieceValue) → Ascends (p ∷ pieces) →
    AllByRecursion (λ q. has_piece held q ≡ false) pieces → AllByRecursion (λ q. has_piece (with_piece held p) q ≡ false) pieces
still_absent held p pieces sorted absent =
    all-weaker (λ q. (is_above (Some p) q ≡ true) × (has_piece held q ≡ false)) (λ q. has_piece (with_piece held p) q ≡ false)
    (λ q both. among-with held p q ∙ or_from _ _ (apart_from_first p q both.0) both.1) pieces
    (all-both _ _ pieces (above_first p pieces sorted) absent)

-- ---- how many there are

pub length-with : (held : List PieceValue) (p : PieceValue) → has_piece held p ≡ false → length (with_piece held p) ≡ length held + 1
length-with [] p absent = refl
length-with (q ∷ held) p absent =
    let parts = or_parts (is_same_piece p q) (has_piece held p) absent in
    let rest = length-with held p parts.1 in
    elim (piece_cmp p q) as (λ o. is_eq o ≡ false → length (match_ordering o (p ∷ q ∷ held) (q ∷ held) (q ∷ with_piece held p)) ≡ length (q ∷ held) + 1) [
      | Less ↦ λ _. omega arith
      | Equal ↦ λ same. absurd (true≢false same)
      | Greater ↦ λ _. omega (arith, rest)
    ] parts.0

length-without_all : (held pieces : List PieceValue) → Ascends held → Ascends pieces → AllByRecursion (λ p. has_piece held p ≡ true) pieces →
    length (without_all held pieces) + length pieces ≡ length held
length-without_all held [] held_s sorted there = omega arith
length-without_all held (p ∷ pieces) held_s sorted there =
    let one = length-remove_key (is_same_piece p) held there.0 in
    let rest = length-without_all (without_piece held p) pieces (ascends-without held p held_s) (rest_ascends p pieces sorted) (still_there held p pieces held_s sorted there.1) in
    omega (arith, one, rest)

length-with_all : (held pieces : List PieceValue) → Ascends pieces → AllByRecursion (λ p. has_piece held p ≡ false) pieces →
    length (with_all held pieces) ≡ length held + length pieces
length-with_all held [] sorted absent = omega arith
length-with_all held (p ∷ pieces) sorted absent =
    let one = length-with held p absent.0 in
    let rest = length-with_all (with_piece held p) pieces (rest_ascends p pieces sorted) (still_absent held p pieces sorted absent.1) in
    omega (arith, one, rest)

-- where the count is that of the embeddings before, the next one is that of the embeddings then
pub total_after-embeddings : (pattern : Pattern) (before now : Graph) (n : ℕ) → n ≡ length (embeddings pattern before) →
    total_after pattern before now n ≡ length (embeddings pattern now)
total_after-embeddings pattern before now n is =
    let kind = pattern.mode in
    let old = embeddings pattern before in
    let new = embeddings pattern now in
    let old_s = IsStrictlySortedBy-embeddings pattern before in
    let new_s = IsStrictlySortedBy-embeddings pattern now in
    let went = removed_pieces pattern before now in
    let came = added_pieces pattern before now in
    let held = pieces_of kind old in
    let left = without_all held (pieces_of kind went) in
    let gone = length-without_all held (pieces_of kind went) (ascends-pieces_of kind old old_s) (went-ascends kind old new old_s new_s) (went-there kind old new old_s new_s) in
    let more = length-with_all left (pieces_of kind came) (came-ascends kind old new old_s new_s) (came-absent kind old new old_s new_s) in
    let all = ap length (changes kind old new old_s new_s) in
    let of_old : length held ≡ length old = length-map old _ in
    let of_new : length (pieces_of kind new) ≡ length new = length-map new _ in
    let of_went : length (pieces_of kind went) ≡ length went = length-map went _ in
    let of_came : length (pieces_of kind came) ≡ length came = length-map came _ in
    omega (arith, is, gone, more, all, of_old, of_new, of_went, of_came)
