-- What waits is written, one group after another.
use Rattle.std.proofs.Common.{◌≡◌, ℕ, Bool, true, false, suc, ◌+◌, ◌-◌, ◌*◌, ◌^◌, ◌<◌, ◌≤◌, List, [], ◌∷◌, ◌++◌, length, Option, None, Some, Result, Ok, Err, drop, get_or, refl, sym, ap, subst, ◌∙◌, arith, le-ltb, lt-ltb}
use Rattle.std.proofs.lemmas.List.{drop_all, drop_more}
use Rattle.std.specs.Prelude.{nat_lt}
use Rattle.delta_task.specs.calls.Deltas.{IsDelta}
use Rattle.delta_task.specs.declared.delta.Delta.{Delta}
use Rattle.delta_task.specs.declared.delta.Delta.TheVariants as delta
use Rattle.graph_types.specs.meaning.Graph.{Graph}
use Rattle.group_window.specs.meaning.Windows.{last_or}
use Rattle.job.specs.meaning.Judging.{pattern_at}
use Rattle.job_io.specs.calls.Ends.{AppendsPrefix, PassesOn}
use Rattle.job_io.specs.declared.ends.WriteFault.{WriteFault}
use Rattle.job_io.specs.meaning.Lines.{Reading}
use Rattle.mining_model.specs.meaning.Embeddings.{Pattern}
use Rattle.mining_model.specs.meaning.History.{Group, history}
use Rattle.mining_model.specs.meaning.Step.{graph_after_all}
use Rattle.record_text.specs.meaning.Text.{count_after, count_in, record_count, step_text}
use Rattle.window_miner.specs.calls.Mining.{AreDeltas}
use Rattle.tesseract.specs.declared.status.Status.TheVariants as status
use Rattle.tesseract.specs.declared.status.LimitKind.TheVariants as limit
use Rattle.tesseract.specs.declared.terms.Terms.{Terms}
use Rattle.tesseract.specs.calls.Progress.{Progress, all_mined, count_after_all}
use Rattle.tesseract.specs.calls.Run.{WritesPrefix}
use Rattle.tesseract.specs.calls.Running.{IsRunning, HasEnded, TellBytes}
use Rattle.tesseract.specs.calls.Writing.{AllWritten, AreWaitingDeltas, IsGroupFull, IsGroupUnwritten, IsGroupWritten, WritesGroup, WritesWaiting}
use Rattle.tesseract.proofs.Going.{Running-full, Running-mined, Running-unwritten, WaitsFirst, mined_text, mined_to}

-- Some groups were written, and these deltas are left.
pub record AtDelta (terms : Terms) (pattern : Pattern) (p : Progress) (left0 left written0 written : Option (List ℕ))
    (page : List ℕ) (reader : Reading) (t standing : ℕ) (rest : List Delta) : Type 0 where
  pub now : Progress
  pub stamp : now.stamp ≡ t
  pub same_end : all_mined pattern now ≡ all_mined pattern p
  pub deltas : AreWaitingDeltas terms pattern now standing rest
  pub running : IsRunning terms left0 left written0 written page reader now

pub AtDelta-start : (terms : Terms) (pattern : Pattern) (p : Progress) (left0 left written0 written : Option (List ℕ))
    (page : List ℕ) (reader : Reading) (t standing : ℕ) (rest : List Delta) → p.stamp ≡ t →
    AreWaitingDeltas terms pattern p standing rest → IsRunning terms left0 left written0 written page reader p →
    AtDelta terms pattern p left0 left written0 written page reader t standing rest
AtDelta-start terms pattern p left0 left written0 written page reader t standing rest stamp deltas running =
    record { now = p; stamp = stamp; same_end = refl; deltas = deltas; running = running }

-- the groups that wait, where one delta is left at least
pub record FirstDelta (terms : Terms) (pattern : Pattern) (p : Progress) (d : Delta) (rest : List Delta) : Type 0 where
  pub us : Group
  pub more : List Group
  pub waits : p.waiting ≡ us ∷ more
  pub is : IsDelta pattern p.mined (graph_after_all p.mined us) terms.records d
  pub others : AreDeltas pattern terms.records (graph_after_all p.mined us) (history (graph_after_all p.mined us) more) rest

pub first_delta : (terms : Terms) (pattern : Pattern) (p : Progress) (d : Delta) (rest : List Delta) (waiting : List Group) → p.waiting ≡ waiting →
    AreDeltas pattern terms.records p.mined (history p.mined waiting) (d ∷ rest) → FirstDelta terms pattern p d rest
first_delta terms pattern p d rest [] is deltas = absurd deltas
first_delta terms pattern p d rest (us ∷ more) is deltas = record { us = us; more = more; waits = is; is = deltas.0; others = deltas.1 }

-- nothing waits where no delta is left
nothing_waits : (terms : Terms) (pattern : Pattern) (g : Graph) (waiting : List Group) → AreDeltas pattern terms.records g (history g waiting) [] → waiting ≡ []
nothing_waits terms pattern g [] deltas = refl
nothing_waits terms pattern g (us ∷ more) deltas = absurd deltas

-- a progress, where these groups waited and are mined
abbrev mined_all : Pattern → Progress → List Group → ℕ → Progress
mined_all pattern p groups stamp = record {
  lines = p.lines;
  stage = p.stage;
  stamp = stamp;
  mined = last_or p.mined (history p.mined groups);
  count = count_after_all pattern p.mined (history p.mined groups) p.count;
  waiting = [];
}

-- a progress at which nothing waits is its own end
end_itself : (pattern : Pattern) (p : Progress) → p.waiting ≡ [] → all_mined pattern p ≡ p
end_itself pattern p nothing =
    ap (λ groups. mined_all pattern p groups (p.stamp + length groups)) nothing
    ∙ ap (λ t. mined_all pattern p [] t) (let e : p.stamp + 0 ≡ p.stamp = omega arith in e)
    ∙ ap (λ groups. let q : Progress = record { lines = p.lines; stage = p.stage; stamp = p.stamp; mined = p.mined; count = p.count; waiting = groups } in q) (sym nothing)

-- it ends alike after its first group
end_later : (pattern : Pattern) (p : Progress) (us : Group) (more : List Group) → p.waiting ≡ us ∷ more →
    all_mined pattern (mined_to pattern p us more) ≡ all_mined pattern p
end_later pattern p us more waits =
    ap (λ t. mined_all pattern p (us ∷ more) t) (let e : suc p.stamp + length more ≡ p.stamp + suc (length more) = omega arith in e)
    ∙ ap (λ groups. mined_all pattern p groups (p.stamp + length groups)) (sym waits)

module _ (terms : Terms) (pattern : Pattern) (p : Progress) (left0 left written0 written : Option (List ℕ)) (page : List ℕ)
    (reader : Reading) (t standing : ℕ) where
  -- all were written
  pub AtDelta-end : AtDelta terms pattern p left0 left written0 written page reader t standing [] →
      AllWritten terms pattern p standing × IsRunning terms left0 left written0 written page reader (all_mined pattern p)
  AtDelta-end at =
      let nothing = nothing_waits terms pattern at.now.mined at.now.waiting at.deltas.deltas_are in
      let same : at.now ≡ all_mined pattern p = sym (end_itself pattern at.now nothing) ∙ at.same_end in (
        record {
          count = ap (λ (q : Progress). q.count) (sym same) ∙ at.deltas.count;
          few = subst (λ (q : Progress). standing ≤ q.stamp * 2 ^ 32) same at.deltas.few;
        },
        subst (IsRunning terms left0 left written0 written page reader) same at.running,
      )

  module _ (d : Delta) (rest : List Delta) (at : AtDelta terms pattern p left0 left written0 written page reader t standing (d ∷ rest))
      (written' : Option (List ℕ)) (page' : List ℕ) where
    abbrev first : FirstDelta terms pattern at.now d rest
    first = first_delta terms pattern at.now d rest at.now.waiting refl at.deltas.deltas_are

    -- what is written of the first group
    pub delta_is : IsDelta pattern at.now.mined (graph_after_all at.now.mined first.us) terms.records d
    delta_is = first.is

    waits_first : (many : Bool) → nat_lt terms.records (record_count pattern at.now.mined (graph_after_all at.now.mined first.us)) ≡ many →
        WaitsFirst terms many pattern at.now first.us first.more
    waits_first many count = record { known = at.deltas.known; waits = first.waits; count_is = count }

    text_is : (t' : ℕ) → t' ≡ t + 1 →
        step_text (count_in terms.format standing) pattern at.now.mined (graph_after_all at.now.mined first.us) t' ≡ mined_text pattern at.now first.us
    text_is t' next =
        ap (λ count. step_text count pattern at.now.mined (graph_after_all at.now.mined first.us) t') (sym at.deltas.count)
        ∙ ap (step_text at.now.count pattern at.now.mined (graph_after_all at.now.mined first.us))
        (let s = at.stamp in let e : t' ≡ suc at.now.stamp = omega (arith, next, s) in e)

    pub AtDelta-next : (t' standing' : ℕ) → t' ≡ t + 1 →
        IsGroupWritten terms t' pattern at.now.mined (graph_after_all at.now.mined first.us) standing standing' written written' page page' →
        AtDelta terms pattern p left0 left written0 written' page' reader t' standing' rest
    AtDelta-next t' standing' next w = record {
      now = mined_to pattern at.now first.us first.more;
      stamp = (let s = at.stamp in omega (arith, next, s));
      same_end = end_later pattern at.now first.us first.more first.waits ∙ at.same_end;
      deltas = record {
        known = at.deltas.known;
        deltas_are = first.others;
        count = ap (count_after pattern at.now.mined (graph_after_all at.now.mined first.us)) at.deltas.count ∙ w.count;
        few = (let f = at.deltas.few in let g = w.grown in omega (arith, f, g));
      };
      running =
          Running-mined terms left0 left written0 written written' page page' reader pattern at.now first.us first.more
          (waits_first false (le-ltb terms.records _ w.few))
          (subst (PassesOn written page written' page') (text_is t' next) w.passed) at.running;
    }

    pub AtDelta-full : (left' : Option (List ℕ)) (t' : ℕ) → t' ≡ t + 1 → TellBytes left left' →
        IsGroupFull terms pattern at.now.mined (graph_after_all at.now.mined first.us) written written' page page' →
        HasEnded terms left0 left' written0 written' page' (status.Limit limit.Records t')
    AtDelta-full left' t' next tell full =
        let s = at.stamp in
        let e : suc at.now.stamp ≡ t' = omega (arith, next, s) in
        subst (λ w. HasEnded terms left0 left' written0 w page' (status.Limit limit.Records t')) (sym full.unwritten)
        (subst (λ held. HasEnded terms left0 left' written0 written held (status.Limit limit.Records t')) (sym full.unheld)
        (subst (λ t. HasEnded terms left0 left' written0 written page (status.Limit limit.Records t)) e
        (Running-full terms left0 left left' written0 written page reader pattern at.now first.us first.more tell
        (waits_first true (lt-ltb terms.records _ full.many)) at.running)))

    pub AtDelta-fails : (left' : Option (List ℕ)) (t' : ℕ) → t' ≡ t + 1 → TellBytes left left' →
        IsGroupUnwritten terms t' pattern at.now.mined (graph_after_all at.now.mined first.us) standing written written' page →
        WritesPrefix terms left0 left' written0 written'
    AtDelta-fails left' t' next tell w =
        Running-unwritten terms left0 left left' written0 written written' page reader pattern at.now first.us first.more tell
        (waits_first false (le-ltb terms.records _ w.few))
        (subst (λ text. AppendsPrefix written written' (page ++ text)) (text_is t' next) w.part) at.running

-- ---- the loop over the deltas of a window

-- what writing a group was promised to do, whatever its graphs
abbrev pub Promised : Terms → ℕ → ℕ → Delta → Option (List ℕ) → List ℕ → Option (List ℕ) → List ℕ → Result (Option ℕ) WriteFault → Type 0
Promised terms t standing d written page written' page' result =
    (pattern : Pattern) (before now : Graph) → standing ≤ 2 ^ 64 - 2 ^ 32 → IsDelta pattern before now terms.records d →
    WritesGroup terms t pattern before now standing written page written' page' result

module _ (terms : Terms) (pattern : Pattern) (p : Progress) (left0 left written0 written written' : Option (List ℕ)) (page page' : List ℕ)
    (reader : Reading) (first t standing i : ℕ) (deltas : List Delta) (d : Delta) (within : i < length deltas) (is : d ≡ get_or deltas i d)
    (counted : t ≡ first + i) (few : first + length deltas ≤ 4 * 10 ^ 9)
    (at : AtDelta terms pattern p left0 left written0 written page reader t standing (drop i deltas)) where
  at_first : AtDelta terms pattern p left0 left written0 written page reader t standing (d ∷ drop (i + 1) deltas)
  at_first =
      subst (AtDelta terms pattern p left0 left written0 written page reader t standing)
      (drop_more deltas i d within ∙ ap (λ x. x ∷ drop (i + 1) deltas) (sym is)) at

  early : standing ≤ 2 ^ 64 - 2 ^ 32
  early = let f = at.deltas.few in let s = at.stamp in omega (arith, f, s, counted, few, within)

  abbrev after : Graph
  after = graph_after_all at_first.now.mined (first_delta terms pattern at_first.now d (drop (i + 1) deltas) at_first.now.waiting refl at_first.deltas.deltas_are).us

  does : (result : Result (Option ℕ) WriteFault) → Promised terms (t + 1) standing d written page written' page' result →
      WritesGroup terms (t + 1) pattern at_first.now.mined after standing written page written' page' result
  does result promised =
      promised pattern at_first.now.mined after early
      (delta_is terms pattern p left0 left written0 written page reader t standing d (drop (i + 1) deltas) at_first written' page')

  pub next_written : (n : ℕ) → Promised terms (t + 1) standing d written page written' page' (Ok (Some n)) →
      AtDelta terms pattern p left0 left written0 written' page' reader (t + 1) n (drop (i + 1) deltas)
  next_written n promised =
      AtDelta-next terms pattern p left0 left written0 written page reader t standing d (drop (i + 1) deltas) at_first written' page'
      (t + 1) n refl (does (Ok (Some n)) promised)

  pub next_full : (left' : Option (List ℕ)) → TellBytes left left' → Promised terms (t + 1) standing d written page written' page' (Ok None) →
      HasEnded terms left0 left' written0 written' page' (status.Limit limit.Records (t + 1))
  next_full left' tell promised =
      AtDelta-full terms pattern p left0 left written0 written page reader t standing d (drop (i + 1) deltas) at_first written' page'
      left' (t + 1) refl tell (does (Ok None) promised)

  pub next_fails : (left' : Option (List ℕ)) (fault : WriteFault) → TellBytes left left' → Promised terms (t + 1) standing d written page written' page' (Err fault) →
      WritesPrefix terms left0 left' written0 written'
  next_fails left' fault tell promised =
      AtDelta-fails terms pattern p left0 left written0 written page reader t standing d (drop (i + 1) deltas) at_first written' page'
      left' (t + 1) refl tell (does (Err fault) promised)

-- no delta is left
pub all_written : (terms : Terms) (pattern : Pattern) (p : Progress) (left0 left written0 written : Option (List ℕ)) (page : List ℕ)
    (reader : Reading) (t standing i : ℕ) (deltas : List Delta) → length deltas ≤ i →
    AtDelta terms pattern p left0 left written0 written page reader t standing (drop i deltas) →
    AllWritten terms pattern p standing × IsRunning terms left0 left written0 written page reader (all_mined pattern p)
all_written terms pattern p left0 left written0 written page reader t standing i deltas past at =
    AtDelta-end terms pattern p left0 left written0 written page reader t standing
    (subst (AtDelta terms pattern p left0 left written0 written page reader t standing) (drop_all i deltas past) at)
