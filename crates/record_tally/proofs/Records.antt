-- How many lines of each kind the records of a history have.
use Rattle.std.proofs.Common.{◌≡◌, ℕ, zero, suc, ◌+◌, ◌*◌, Bool, true, false, List, [], ◌∷◌, ◌++◌, length, not, None, refl, sym, ap, ◌∙◌, arith}
use Rattle.std.specs.Prelude.{codes, decimal}
use Rattle.std.specs.List.{flat_map}
use Rattle.std.proofs.lemmas.Bool.{and_parts}
use Rattle.graph_types.specs.meaning.Graph.{Graph}
use Rattle.graph_types.specs.declared.member.Member.{Member}
use Rattle.job_io.specs.meaning.Lines.{is_lf, lf}
use Rattle.mining_model.specs.meaning.Changes.{added_pieces, removed_pieces}
use Rattle.mining_model.specs.meaning.Embeddings.{Pattern}
use Rattle.mining_model.specs.meaning.History.{graph_at}
use Rattle.record_text.specs.declared.record_format.RecordFormat.TheVariants.{One}
use Rattle.record_text.specs.meaning.Text.{after_space, delta_text, done_text, member_text, record_line, records_text, step_text, text_upto}
use Rattle.record_tally.specs.meaning.Lines.{begins, fresh_after, lines_beginning, lines_beginning_from}
use Rattle.record_tally.specs.meaning.Totals.{added_upto, removed_upto}
use Rattle.record_tally.proofs.Bytes.{fresh-append, lines-append}
use Rattle.record_tally.proofs.Printed.{are_inner, inner-append, inner-decimal, inner-members, is_inner}

-- ---- one line

no_lf : (b : Bool) → not b ≡ true → b ≡ false
no_lf true inner = sym inner
no_lf false inner = refl

inner-fresh : (text : List ℕ) → are_inner text ≡ true → fresh_after false text ≡ false
inner-fresh [] inner = refl
inner-fresh (x ∷ text) inner =
    let parts = and_parts (is_inner x) (are_inner text) inner in
    ap (λ b. fresh_after b text) (no_lf (is_lf x) parts.0) ∙ inner-fresh text parts.1

inner-count : (first : ℕ) (text : List ℕ) → are_inner text ≡ true → lines_beginning_from first false text ≡ 0
inner-count first [] inner = refl
inner-count first (x ∷ text) inner =
    let parts = and_parts (is_inner x) (are_inner text) inner in
    let rest = ap (λ b. lines_beginning_from first b text) (no_lf (is_lf x) parts.0) ∙ inner-count first text parts.1 in
    omega (arith, rest)

-- a line that begins with this byte
pub record IsLineOf (byte : ℕ) (line : List ℕ) : Type 0 where
  pub counts : (first : ℕ) → lines_beginning_from first true line ≡ begins first true byte
  pub fresh : fresh_after true line ≡ true

IsLineOf-ended : (byte : ℕ) (text : List ℕ) → is_lf byte ≡ false → are_inner text ≡ true → IsLineOf byte (byte ∷ text ++ lf ∷ [])
IsLineOf-ended byte text other inner = record {
  counts = λ first.
      let ended : lines_beginning_from first (fresh_after false text) (lf ∷ []) ≡ 0 =
      ap (λ b. lines_beginning_from first b (lf ∷ [])) (inner-fresh text inner) in
      let rest : lines_beginning_from first (is_lf byte) (text ++ lf ∷ []) ≡ 0 =
      ap (λ b. lines_beginning_from first b (text ++ lf ∷ [])) other ∙ lines-append first false text (lf ∷ [])
      ∙ omega (arith, ended, inner-count first text inner) in
      omega (arith, rest);
  fresh = ap (λ b. fresh_after b (text ++ lf ∷ [])) other ∙ fresh-append false text (lf ∷ []);
}

-- ---- the lines of a timestamp

IsLineOf-record : (byte : ℕ) (word : List ℕ) (t : ℕ) (members : List Member) → is_lf byte ≡ false → are_inner word ≡ true →
    IsLineOf byte (record_line (byte ∷ word) t members)
IsLineOf-record byte word t members other inner =
    IsLineOf-ended byte (word ++ after_space (decimal t) ++ flat_map (λ m. after_space (member_text m)) members) other
    (inner-append (word ++ after_space (decimal t)) (flat_map (λ m. after_space (member_text m)) members)
    (inner-append word (after_space (decimal t)) inner (inner-decimal t)) (inner-members members))

IsLineOf-done : (t : ℕ) → IsLineOf 68 (done_text t None)
IsLineOf-done t =
    IsLineOf-ended 68 (codes "ONE " ++ decimal t ++ []) refl
    (inner-append (codes "ONE " ++ decimal t) [] (inner-append (codes "ONE ") (decimal t) refl (inner-decimal t)) refl)

-- so many lines that begin with this byte, and no others
record AreLinesOf (byte n : ℕ) (text : List ℕ) : Type 0 where
  counts : (first : ℕ) → lines_beginning_from first true text ≡ n * begins first true byte
  fresh : fresh_after true text ≡ true

AreLinesOf-records : (byte : ℕ) (word : List ℕ) (t : ℕ) (pieces : List (List Member)) → is_lf byte ≡ false → are_inner word ≡ true →
    AreLinesOf byte (length pieces) (records_text (byte ∷ word) t pieces)
AreLinesOf-records byte word t [] other inner = record { counts = λ first. omega arith; fresh = refl }
AreLinesOf-records byte word t (members ∷ pieces) other inner =
    let line = record_line (byte ∷ word) t members in
    let rest = records_text (byte ∷ word) t pieces in
    let here = IsLineOf-record byte word t members other inner in
    let later = AreLinesOf-records byte word t pieces other inner in
    record {
      counts = λ first.
          let both = lines-append first true line rest in
          let next : lines_beginning_from first (fresh_after true line) rest ≡ length pieces * begins first true byte =
          ap (λ b. lines_beginning_from first b rest) here.fresh ∙ later.counts first in
          let one = here.counts first in
          both ∙ omega (arith, next, one);
      fresh = fresh-append true line rest ∙ ap (λ b. fresh_after b rest) here.fresh ∙ later.fresh;
    }

-- the lines of a timestamp in format 1: of what goes, of what comes, and the one that closes it
record AreLinesOfStep (removed added : ℕ) (text : List ℕ) : Type 0 where
  counts : (first : ℕ) → lines_beginning_from first true text
      ≡ removed * begins first true 82 + added * begins first true 78 + begins first true 68
  fresh : fresh_after true text ≡ true

AreLinesOfStep-texts : (t : ℕ) (rem add : List (List Member)) →
    AreLinesOfStep (length rem) (length add) (delta_text t rem add ++ done_text t None)
AreLinesOfStep-texts t rem add =
    let gone = records_text (codes "REM") t rem in
    let come = records_text (codes "NEW") t add in
    let done = done_text t None in
    let goes = AreLinesOf-records 82 (69 ∷ 77 ∷ []) t rem refl refl in
    let comes = AreLinesOf-records 78 (69 ∷ 87 ∷ []) t add refl refl in
    let ends = IsLineOf-done t in
    let both_fresh : fresh_after true (gone ++ come) ≡ true =
    fresh-append true gone come ∙ ap (λ b. fresh_after b come) goes.fresh ∙ comes.fresh in
    record {
      counts = λ first.
          let second : lines_beginning_from first (fresh_after true gone) come ≡ length add * begins first true 78 =
          ap (λ b. lines_beginning_from first b come) goes.fresh ∙ comes.counts first in
          let last : lines_beginning_from first (fresh_after true (gone ++ come)) done ≡ begins first true 68 =
          ap (λ b. lines_beginning_from first b done) both_fresh ∙ ends.counts first in
          let one = goes.counts first in
          let two = lines-append first true gone come in
          let three = lines-append first true (gone ++ come) done in
          three ∙ omega (arith, one, two, second, last);
      fresh = fresh-append true (gone ++ come) done ∙ ap (λ b. fresh_after b done) both_fresh ∙ ends.fresh;
    }

-- ---- a whole history

module _ (pattern : Pattern) (g : Graph) (later : List Graph) where
  abbrev text : ℕ → List ℕ
  text m = text_upto One pattern g later m

  abbrev step_at : ℕ → List ℕ
  step_at m = step_text None pattern (graph_at g later m) (graph_at g later (suc m)) (suc m)

  step-lines : (m : ℕ) → AreLinesOfStep (length (removed_pieces pattern (graph_at g later m) (graph_at g later (suc m))))
      (length (added_pieces pattern (graph_at g later m) (graph_at g later (suc m)))) (step_at m)
  step-lines m =
      AreLinesOfStep-texts (suc m) (removed_pieces pattern (graph_at g later m) (graph_at g later (suc m)))
      (added_pieces pattern (graph_at g later m) (graph_at g later (suc m)))

  text-fresh : (m : ℕ) → fresh_after true (text m) ≡ true
  text-fresh zero = refl
  text-fresh (suc m) =
      fresh-append true (text m) (step_at m) ∙ ap (λ b. fresh_after b (step_at m)) (text-fresh m) ∙ (step-lines m).fresh

  counts-more : (first m : ℕ) → lines_beginning first (text (suc m)) ≡ lines_beginning first (text m) + lines_beginning first (step_at m)
  counts-more first m =
      lines-append first true (text m) (step_at m)
      ∙ ap (λ b. lines_beginning first (text m) + lines_beginning_from first b (step_at m)) (text-fresh m)

  pub removed-counted : (m : ℕ) → lines_beginning 82 (text m) ≡ removed_upto pattern g later m
  removed-counted zero = refl
  removed-counted (suc m) =
      let so_far = removed-counted m in
      let step = (step-lines m).counts 82 in
      counts-more 82 m ∙ omega (arith, so_far, step)

  pub added-counted : (m : ℕ) → lines_beginning 78 (text m) ≡ added_upto pattern g later m
  added-counted zero = refl
  added-counted (suc m) =
      let so_far = added-counted m in
      let step = (step-lines m).counts 78 in
      counts-more 78 m ∙ omega (arith, so_far, step)

  pub done-counted : (m : ℕ) → lines_beginning 68 (text m) ≡ m
  done-counted zero = refl
  done-counted (suc m) =
      let so_far = done-counted m in
      let step = (step-lines m).counts 68 in
      counts-more 68 m ∙ omega (arith, so_far, step)
