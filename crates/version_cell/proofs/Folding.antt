-- That a fold keeps what a label is at later timestamps.
use Rattle.std.proofs.Common.{◌≡◌, ◌<◌, ◌≤◌, ◌+◌, ℕ, suc, true, false, nat_le, cond, List, [], ◌∷◌, length, drop, Option, refl, sym, ap, ◌∙◌, arith}
use Rattle.std.specs.List.{prefix_len}
use Rattle.std.proofs.lemmas.Bool.Decides.{nat_tests}
use Rattle.std.proofs.lemmas.List.{drop_all, length-drop}
use Rattle.std.proofs.lemmas.List.Folds.{length-prefix_len}
use Rattle.version_cell.specs.declared.change.Change.{Change}
use Rattle.version_cell.specs.meaning.Changes.{changes_after, label_after}
use Rattle.version_cell.specs.storage.Due.{due_count}
use Rattle.version_cell.specs.storage.Tracks.{is_changed}

-- from what a label was at f, the changes after f make what all changes make of it
pub label_after-folded : (at_floor : Option ℕ) (changes : List Change) (f t : ℕ) → f ≤ t → label_after (label_after at_floor changes f) (changes_after changes f) t ≡ label_after at_floor changes t
label_after-folded at_floor [] f t after = refl
label_after-folded at_floor (change ∷ later) f t after =
    elim (nat_le change.at f) as (λ b. nat_le change.at f ≡ b →
    label_after (cond b (label_after change.label later f) at_floor) (cond b (changes_after later f) (change ∷ later)) t ≡ label_after at_floor (change ∷ later) t) [
      | true ↦ λ before.
          let sooner : nat_le change.at t ≡ true = grind (arith, nat_tests) in
          label_after-folded change.label later f t after
          ∙ ap (λ b. cond b (label_after change.label later t) at_floor) (sym sooner)
      | false ↦ λ _. refl
    ] refl

-- as many changes are due as are passed from the first on
passed-due : (t : ℕ) (changes : List Change) → due_count t changes ≡ prefix_len (λ c. nat_le c.at t) changes
passed-due t changes = length-prefix_len (λ c. nat_le c.at t) changes

dropped-passed : (t : ℕ) (changes : List Change) → drop (prefix_len (λ c. nat_le c.at t) changes) changes ≡ changes_after changes t
dropped-passed t [] = refl
dropped-passed t (change ∷ later) =
    let one : 1 + prefix_len (λ c. nat_le c.at t) later ≡ suc (prefix_len (λ c. nat_le c.at t) later) = omega arith in
    elim (nat_le change.at t) as (λ b. drop (cond b (1 + prefix_len (λ c. nat_le c.at t) later) 0) (change ∷ later) ≡ cond b (changes_after later t) (change ∷ later)) [
      | true ↦ ap (λ n. drop n (change ∷ later)) one ∙ dropped-passed t later
      | false ↦ refl
    ]

-- the changes that are not due are left
pub dropped-due : (t : ℕ) (changes : List Change) → drop (due_count t changes) changes ≡ changes_after changes t
dropped-due t changes = ap (λ n. drop n changes) (passed-due t changes) ∙ dropped-passed t changes

some-changed : (changes : List Change) → 0 < length changes → is_changed changes ≡ true
some-changed [] some = absurd (omega arith)
some-changed (change ∷ later) some = refl

-- there are some where fewer are due than there are, and else none
pub is_changed-after : (t : ℕ) (changes : List Change) → due_count t changes < length changes → is_changed (changes_after changes t) ≡ true
is_changed-after t changes fewer =
    let left : 0 < length (drop (due_count t changes) changes) = omega (arith, fewer, length-drop (due_count t changes) changes) in
    ap is_changed (sym (dropped-due t changes)) ∙ some-changed (drop (due_count t changes) changes) left

pub none-after : (t : ℕ) (changes : List Change) → length changes ≤ due_count t changes → [] ≡ changes_after changes t
none-after t changes all = sym (drop_all (due_count t changes) changes all) ∙ dropped-due t changes

-- where the next change comes after t, the label stays
pub label_after-next : (label : Option ℕ) (change : Change) (rest : List Change) (t : ℕ) → t < change.at → label ≡ label_after label (change ∷ rest) t
label_after-next label change rest t later =
    let not_yet : nat_le change.at t ≡ false = grind (arith, nat_tests) in
    ap (λ b. cond b (label_after change.label rest t) label) (sym not_yet)
