-- The text of a history, and what it begins with.
use Rattle.std.proofs.Common.{◌≡◌, ℕ, zero, suc, ◌≤◌, inl, inr, List, [], ◌∷◌, ◌++◌, length, refl, sym, ap, ◌∙◌, append_assoc, append-nil, arith, length-append}
use Rattle.std.proofs.lemmas.Bool.{cases_eq}
use Rattle.graph_types.specs.meaning.Graph.{Graph}
use Rattle.mining_model.specs.meaning.History.{graph_at}
use Rattle.mining_model.specs.meaning.Embeddings.{Pattern}
use Rattle.mining_model.proofs.Histories.{graph_at-next}
use Rattle.record_text.specs.declared.record_format.RecordFormat.{RecordFormat}
use Rattle.record_text.specs.declared.record_format.RecordFormat.TheVariants.{One, Two}
use Rattle.record_text.specs.meaning.Text.{count_after, count_at, count_in, step_text, text_at, text_upto, text_from, total_after}

-- a format goes on counting as it began
pub count_after-in : (format : RecordFormat) (pattern : Pattern) (before now : Graph) (n : ℕ) →
    count_after pattern before now (count_in format n) ≡ count_in format (total_after pattern before now n)
count_after-in One pattern before now n = refl
count_after-in Two pattern before now n = refl

module _ (format : RecordFormat) (pattern : Pattern) (g : Graph) (later : List Graph) where
  text_of_rest : (seen rest : List Graph) (t : ℕ) → seen ++ rest ≡ later → length seen ≡ t →
      text_upto format pattern g later t ++ text_from (count_at format pattern g later t) pattern (graph_at g later t) t rest
      ≡ text_upto format pattern g later (length later)
  text_of_rest seen [] t split long =
      append-nil _ ∙ ap (text_upto format pattern g later) (sym long ∙ ap length (sym (append-nil seen) ∙ split))
  text_of_rest seen (next ∷ rest) t split long =
      let before = graph_at g later t in
      let count = count_at format pattern g later t in
      let upto = text_upto format pattern g later t in
      let now : graph_at g later (suc t) ≡ next = ap (λ graphs. graph_at g graphs (suc t)) (sym split) ∙ graph_at-next g seen next rest t long in
      sym (append_assoc upto _ _)
      ∙ ap (λ h. (upto ++ step_text count pattern before h (suc t)) ++ text_from (count_after pattern before h count) pattern h (suc t) rest) (sym now)
      ∙ ap (λ c. text_upto format pattern g later (suc t) ++ text_from c pattern (graph_at g later (suc t)) (suc t) rest)
      (count_after-in format pattern before (graph_at g later (suc t)) _)
      ∙ text_of_rest (seen ++ next ∷ []) rest (suc t) (append_assoc seen (next ∷ []) rest ∙ split) (omega (arith, long, length-append seen (next ∷ [])))

  pub text_from-start : text_from (count_at format pattern g later 0) pattern g 0 later ≡ text_upto format pattern g later (length later)
  text_from-start = text_of_rest [] later 0 refl refl

  -- the text of more timestamps begins with that of fewer
  pub text_upto-more : (t m : ℕ) → t ≤ m → (rest : List ℕ) × (text_upto format pattern g later t ++ rest ≡ text_upto format pattern g later m)
  text_upto-more t zero within = ([], append-nil _ ∙ ap (text_upto format pattern g later) (let e : t ≡ 0 = omega (arith, within) in e))
  text_upto-more t (suc m) within =
      elim (cases_eq t (suc m)) [
        | inl same ↦ ([], append-nil _ ∙ ap (text_upto format pattern g later) same)
        | inr fewer ↦
            let front = text_upto-more t m (omega (arith, within, fewer)) in (
              front.0 ++ text_at format pattern g later (suc m),
              sym (append_assoc (text_upto format pattern g later t) front.0 _) ∙ ap (λ text. text ++ text_at format pattern g later (suc m)) front.1,
            )
      ]
