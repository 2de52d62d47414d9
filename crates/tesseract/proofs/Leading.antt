-- What the next line leads to.
use Rattle.std.proofs.Common.{◌≡◌, ℕ, suc, ◌⊎◌, inl, inr, List, [], ◌∷◌, ◌++◌, refl, sym, ap, subst}
use Rattle.job_io.specs.meaning.Lines.{Line}
use Rattle.mining_model.specs.meaning.History.{Group}
use Rattle.job.specs.meaning.Judging.{Stage, moved, accepted, judgement}
use Rattle.tesseract.specs.declared.terms.Terms.{Terms}
use Rattle.tesseract.specs.calls.Progress.{Progress, HasReached}
use Rattle.tesseract.proofs.Reaching.{Reached-accepted, Reached-moved, opened}

-- a job after a line that brought no group
abbrev pub moved_to : Progress → Stage → Progress
moved_to p next =
    record { lines = suc p.lines; stage = next; stamp = p.stamp; mined = p.mined; count = p.count; waiting = p.waiting }

-- and after one that brought a group, which waits
abbrev pub brought_to : Progress → Group → Stage → Progress
brought_to p us next =
    record { lines = suc p.lines; stage = next; stamp = p.stamp; mined = p.mined; count = p.count; waiting = p.waiting ++ us ∷ [] }

-- The next line brings no group.
pub record Moves (terms : Terms) (p : Progress) (bytes : List ℕ) (q : Progress) (text : List ℕ) : Type 0 where
  pub next : Stage
  pub moved_is : judgement terms.lines (suc p.lines) p.stage bytes ≡ moved next
  pub leads : q ≡ moved_to p next
  pub text_is : text ≡ opened terms.format p.stage next

-- The next line brings a group.
pub record BringsGroup (terms : Terms) (p : Progress) (bytes : List ℕ) (q : Progress) (text : List ℕ) : Type 0 where
  pub group : Group
  pub next : Stage
  pub accepted_is : judgement terms.lines (suc p.lines) p.stage bytes ≡ accepted group next
  pub leads : q ≡ brought_to p group next
  pub text_is : text ≡ opened terms.format p.stage next

-- The next line leads a job on, and `text` is written at it.
abbrev pub GoesOn : Terms → Progress → List ℕ → Progress → List ℕ → Type 0
GoesOn terms p bytes q text = Moves terms p bytes q text ⊎ BringsGroup terms p bytes q text

-- the lines so far and the next one are judged
pub reached_next : (terms : Terms) (gone : List Line) (text more : List ℕ) (p q : Progress) (line : Line) →
    HasReached terms gone text p → GoesOn terms p line.bytes q more →
    HasReached terms (gone ++ line ∷ []) (text ++ more) q
reached_next terms gone text more p q line reached (inl m) =
    subst (HasReached terms (gone ++ line ∷ []) (text ++ more)) (sym m.leads)
    (subst (λ xs. HasReached terms (gone ++ line ∷ []) (text ++ xs) (moved_to p m.next)) (sym m.text_is)
    (Reached-moved terms gone text p line reached m.next m.moved_is))
reached_next terms gone text more p q line reached (inr b) =
    subst (HasReached terms (gone ++ line ∷ []) (text ++ more)) (sym b.leads)
    (subst (λ xs. HasReached terms (gone ++ line ∷ []) (text ++ xs) (brought_to p b.group b.next)) (sym b.text_is)
    (Reached-accepted terms gone text p line reached b.group b.next b.accepted_is))

-- the next line is counted
pub lines_next : (terms : Terms) (p q : Progress) (bytes text : List ℕ) → GoesOn terms p bytes q text → q.lines ≡ suc p.lines
lines_next terms p q bytes text (inl m) = ap (λ (r : Progress). r.lines) m.leads
lines_next terms p q bytes text (inr b) = ap (λ (r : Progress). r.lines) b.leads
