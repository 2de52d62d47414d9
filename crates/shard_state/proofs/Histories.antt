-- What one entry was at a timestamp, after one more change and after a fold.
use Rattle.std.proofs.Common.{◌≡◌, ◌<◌, ◌≤◌, ◌+◌, ℕ, true, false, nat_le, cond, List, [], ◌∷◌, ◌++◌, Option, refl, sym, ap, ◌∙◌, arith}
use Rattle.std.specs.List.{AllByRecursion}
use Rattle.std.proofs.lemmas.Bool.Decides.{nat_tests}
use Rattle.version_cell.specs.declared.change.Change.{Change}
use Rattle.version_cell.specs.meaning.Changes.{IsAfterLast, changes_after, label_after}
use Rattle.version_cell.specs.meaning.Floor.{AscendAbove}
use Rattle.version_cell.proofs.Folding.{label_after-folded}
use Rattle.shard_state.specs.meaning.Versions.{Versions, folded_to}

-- a change that comes later doesn't show
pub label_after-earlier : (o : Option ℕ) (changes : List Change) (change : Change) (t : ℕ) → t < change.at → label_after o (changes ++ change ∷ []) t ≡ label_after o changes t
label_after-earlier o [] change t later =
    let not_yet : nat_le change.at t ≡ false = grind (arith, nat_tests) in
    ap (λ b. cond b change.label o) not_yet
label_after-earlier o (first ∷ changes) change t later = ap (λ l. cond (nat_le first.at t) l o) (label_after-earlier first.label changes change t later)

-- the last change is what stands from then on
pub label_after-last : (o : Option ℕ) (changes : List Change) (change : Change) (t : ℕ) → IsAfterLast changes change.at → change.at ≤ t → label_after o (changes ++ change ∷ []) t ≡ change.label
label_after-last o [] change t after come =
    let by_then : nat_le change.at t ≡ true = grind (arith, nat_tests) in
    ap (λ b. cond b change.label o) by_then
label_after-last o (first ∷ changes) change t after come =
    let sooner : first.at ≤ t = omega (arith, after.0, come) in
    let by_then : nat_le first.at t ≡ true = grind (arith, nat_tests) in
    ap (λ b. cond b (label_after first.label (changes ++ change ∷ []) t) o) by_then ∙ label_after-last first.label changes change t after.1 come

-- after the last change all stays
pub label_after-settled : (o : Option ℕ) (changes : List Change) (s t : ℕ) → IsAfterLast changes (s + 1) → s ≤ t → label_after o changes t ≡ label_after o changes s
label_after-settled o [] s t after later = refl
label_after-settled o (first ∷ changes) s t after later =
    let first_by : first.at < s + 1 = after.0 in
    let one : nat_le first.at s ≡ true = grind (arith, nat_tests) in
    let two : nat_le first.at t ≡ true = grind (arith, nat_tests) in
    ap (λ b. cond b (label_after first.label changes t) o) two
    ∙ label_after-settled first.label changes s t after.1 later
    ∙ ap (λ b. cond b (label_after first.label changes s) o) (sym one)

pub IsAfterLast-later : (changes : List Change) (s t : ℕ) → s ≤ t → IsAfterLast changes s → IsAfterLast changes t
IsAfterLast-later [] s t later after = tt
IsAfterLast-later (change ∷ changes) s t later after = (omega (arith, later, after.0), IsAfterLast-later changes s t later after.1)

pub IsAfterLast-with_change : (changes : List Change) (change : Change) (t : ℕ) → IsAfterLast changes t → change.at < t → IsAfterLast (changes ++ change ∷ []) t
IsAfterLast-with_change [] change t after before = (before, tt)
IsAfterLast-with_change (first ∷ changes) change t after before = (after.0, IsAfterLast-with_change changes change t after.1 before)

-- what is claimed of each change is true of those after a timestamp
pub all-changes_after : (P : Change → Type 0) (changes : List Change) (f : ℕ) → AllByRecursion P changes → AllByRecursion P (changes_after changes f)
all-changes_after P [] f all = tt
all-changes_after P (change ∷ changes) f all =
    elim (nat_le change.at f) as (λ b. AllByRecursion P (cond b (changes_after changes f) (change ∷ changes))) [ true ↦ all-changes_after P changes f all.1 | false ↦ all ]

pub IsAfterLast-changes_after : (changes : List Change) (f t : ℕ) → IsAfterLast changes t → IsAfterLast (changes_after changes f) t
IsAfterLast-changes_after [] f t after = tt
IsAfterLast-changes_after (change ∷ changes) f t after =
    elim (nat_le change.at f) as (λ b. IsAfterLast (cond b (changes_after changes f) (change ∷ changes)) t) [ true ↦ IsAfterLast-changes_after changes f t after.1 | false ↦ after ]

pub AscendAbove-lower : (g f : ℕ) (changes : List Change) → g ≤ f → AscendAbove f changes → AscendAbove g changes
AscendAbove-lower g f [] lower ascend = tt
AscendAbove-lower g f (change ∷ changes) lower ascend = (omega (arith, lower, ascend.0), ascend.1)

pub all-above : (f : ℕ) (changes : List Change) → AscendAbove f changes → AllByRecursion (λ change. f < change.at) changes
all-above f [] ascend = tt
all-above f (change ∷ changes) ascend =
    let above : f ≤ change.at = omega (arith, ascend.0) in
    (ascend.0, all-above f changes (AscendAbove-lower f change.at changes above ascend.1))

-- changes in order that all come after f
pub AscendAbove-from : (g f : ℕ) (changes : List Change) → AscendAbove g changes → AllByRecursion (λ change. f < change.at) changes → AscendAbove f changes
AscendAbove-from g f [] ascend above = tt
AscendAbove-from g f (change ∷ changes) ascend above = (above.0, ascend.1)

-- a fold leaves what is folded already, and what comes after it
changes_after-twice : (changes : List Change) (f : ℕ) → changes_after (changes_after changes f) f ≡ changes_after changes f
changes_after-twice [] f = refl
changes_after-twice (change ∷ changes) f =
    elim (nat_le change.at f) as (λ b. nat_le change.at f ≡ b → changes_after (cond b (changes_after changes f) (change ∷ changes)) f ≡ cond b (changes_after changes f) (change ∷ changes)) [
      | true ↦ λ _. changes_after-twice changes f
      | false ↦ λ later. ap (λ b. cond b (changes_after changes f) (change ∷ changes)) later
    ] refl

pub folded_to-twice : (f : ℕ) (x : Versions) → folded_to f (folded_to f x) ≡ folded_to f x
folded_to-twice f x =
    let same : f ≤ f = omega arith in
    λ i. record { at_floor = label_after-folded x.at_floor x.changes f f same i; changes = changes_after-twice x.changes f i }

pub folded_to-later : (f : ℕ) (x : Versions) → AllByRecursion (λ change. f < change.at) x.changes → folded_to f x ≡ x
folded_to-later f x above = λ i. record { at_floor = same_label x.at_floor x.changes above i; changes = same_changes x.changes above i }
  where
    same_label : (o : Option ℕ) (changes : List Change) → AllByRecursion (λ change. f < change.at) changes → label_after o changes f ≡ o
    same_label o [] later = refl
    same_label o (change ∷ changes) later =
        let above : f < change.at = later.0 in
        let not_yet : nat_le change.at f ≡ false = grind (arith, nat_tests) in
        ap (λ b. cond b (label_after change.label changes f) o) not_yet

    same_changes : (changes : List Change) → AllByRecursion (λ change. f < change.at) changes → changes_after changes f ≡ changes
    same_changes [] later = refl
    same_changes (change ∷ changes) later =
        let above : f < change.at = later.0 in
        let not_yet : nat_le change.at f ≡ false = grind (arith, nat_tests) in
        ap (λ b. cond b (changes_after changes f) (change ∷ changes)) not_yet
