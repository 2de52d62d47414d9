-- A condition with the parentheses that its place asks for.
use Rattle.std.proofs.Common.{◌≡◌, ℕ, ◌<◌, ◌≤◌, cond, List, ◌++◌, codes, sym, ap, ◌∙◌, append_assoc}
use Rattle.std.proofs.lemmas.Bool.{lt-ltb, le-ltb}
use Rattle.condition_grammar.specs.meaning.Text.{Text, text_in_place}

module _ (asked : ℕ) (t : Text) where
  pub text_at-none : asked ≤ t.binding → text_in_place asked t ≡ t.text
  text_at-none bound = ap (λ b. cond b (codes "(" ++ t.text ++ codes ")") t.text) (le-ltb t.binding asked bound)

  pub text_at-round : t.binding < asked → text_in_place asked t ≡ codes "(" ++ t.text ++ codes ")"
  text_at-round below = ap (λ b. cond b (codes "(" ++ t.text ++ codes ")") t.text) (lt-ltb t.binding asked below)

  pub put_round : (old one two : List ℕ) → one ≡ old ++ codes "(" → two ≡ one ++ t.text → t.binding < asked → two ++ codes ")" ≡ old ++ text_in_place asked t
  put_round old one two one_is two_is below =
      ap (λ x. x ++ codes ")") (two_is ∙ ap (λ x. x ++ t.text) one_is ∙ append_assoc old (codes "(") t.text)
      ∙ append_assoc old (codes "(" ++ t.text) (codes ")")
      ∙ ap (λ x. old ++ x) (sym (text_at-round below))
