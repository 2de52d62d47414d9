-- Lines of two to four words, by their words.
use Rattle.std.proofs.Common.{◌≡◌, ℕ, false, cond, List, [], ◌∷◌, length, slice_get, Some, Result, sym, ap, subst, ◌∙◌, arith}
use Rattle.line_fields.specs.meaning.Fields.{words_of, is_nothing_line}
use Rattle.update_reader.specs.declared.Item.{Item}
use Rattle.update_reader.specs.declared.UpdateFault.{UpdateFault}
use Rattle.update_reader.specs.declared.keyword.Keyword.{Keyword}
use Rattle.line_fields.specs.meaning.Names.{Names}
use Rattle.update_reader.specs.meaning.Grammar.{nothing, form_of, form_with, form_after_keyword, keyword_of, content_of_form}
use Rattle.update_reader.specs.calls.Reading.{AnswersContent, ReadsLine, ReadsForm}

pub three_words : (ws : List (List ℕ)) (a b c : List ℕ) → length ws ≡ 3 → Some a ≡ slice_get ws 0 → Some b ≡ slice_get ws 1 → Some c ≡ slice_get ws 2 → ws ≡ a ∷ b ∷ c ∷ []
three_words [] a b c n f g h = absurd (omega arith)
three_words (x ∷ []) a b c n f g h = absurd (omega arith)
three_words (x ∷ y ∷ []) a b c n f g h = absurd (omega arith)
three_words (x ∷ y ∷ z ∷ []) a b c n f g h =
    let first : Some a ≡ Some x = f in let second : Some b ≡ Some y = g in let third : Some c ≡ Some z = h in cc
three_words (x ∷ y ∷ z ∷ w ∷ ws) a b c n f g h = absurd (omega arith)

pub four_words : (ws : List (List ℕ)) (a b c d : List ℕ) → length ws ≡ 4 → Some a ≡ slice_get ws 0 → Some b ≡ slice_get ws 1 → Some c ≡ slice_get ws 2 → Some d ≡ slice_get ws 3
    → ws ≡ a ∷ b ∷ c ∷ d ∷ []
four_words [] a b c d n e f g h = absurd (omega arith)
four_words (x ∷ []) a b c d n e f g h = absurd (omega arith)
four_words (x ∷ y ∷ []) a b c d n e f g h = absurd (omega arith)
four_words (x ∷ y ∷ z ∷ []) a b c d n e f g h = absurd (omega arith)
four_words (x ∷ y ∷ z ∷ w ∷ []) a b c d n e f g h =
    let first : Some a ≡ Some x = e in let second : Some b ≡ Some y = f in let third : Some c ≡ Some z = g in let last : Some d ≡ Some w = h in cc
four_words (x ∷ y ∷ z ∷ w ∷ v ∷ ws) a b c d n e f g h = absurd (omega arith)

-- a line that says something is read by its keyword and the words after that
pub Reads-words : (old : Names) (line word : List ℕ) (fields : List (List ℕ)) (k : Keyword) (result : Result Item UpdateFault) (new : Names)
    → is_nothing_line line ≡ false → words_of line ≡ word ∷ fields → Some k ≡ keyword_of word → ReadsForm old (form_with k fields) result new
    → ReadsLine old line result new
Reads-words old line word fields k result new quiet words keyword reads =
    subst (λ s. AnswersContent old s result new)
    (sym (ap (λ t. cond t nothing (content_of_form old (form_of (words_of line)))) quiet
    ∙ ap (λ ws. content_of_form old (form_of ws)) words
    ∙ ap (λ k. content_of_form old (form_after_keyword k fields)) (sym keyword)))
    reads
