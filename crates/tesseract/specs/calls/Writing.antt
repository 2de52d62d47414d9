-- What writing the groups of a window does.
use Rattle.std.specs.Prelude.{◌≡◌, ℕ, suc, ◌+◌, ◌<◌, ◌≤◌, ◌*◌, ◌^◌, List, ◌++◌, length, Option, None, Some, Result, Ok, Err}
use Rattle.delta_task.specs.declared.delta.Delta.{Delta}
use Rattle.graph_types.specs.meaning.Graph.{Graph}
use Rattle.job.specs.meaning.Judging.{pattern_at}
use Rattle.job_io.specs.calls.Ends.{AppendsPrefix, PassesOn}
use Rattle.job_io.specs.declared.ends.WriteFault.{WriteFault}
use Rattle.job_io.specs.meaning.Lines.{Reading}
use Rattle.mining_model.specs.meaning.Embeddings.{Pattern}
use Rattle.mining_model.specs.meaning.History.{history}
use Rattle.record_text.specs.meaning.Text.{count_after, count_in, record_count, step_text}
use Rattle.window_miner.specs.calls.Mining.{AreDeltas}
use Rattle.tesseract.specs.declared.mining.Written.{Written}
use Rattle.tesseract.specs.declared.mining.Written.TheVariants as wrote
use Rattle.tesseract.specs.declared.status.Status.TheVariants as status
use Rattle.tesseract.specs.declared.status.LimitKind.TheVariants as limit
use Rattle.tesseract.specs.declared.terms.Terms.{Terms}
use Rattle.tesseract.specs.calls.Progress.{Progress, all_mined}
use Rattle.tesseract.specs.calls.Run.{WritesPrefix}
use Rattle.tesseract.specs.calls.Running.{IsRunning, HasEnded}

-- The group has not too many records, and its text is passed on; so many pieces stand then.
pub record IsGroupWritten (terms : Terms) (t : ℕ) (pattern : Pattern) (before now : Graph) (standing standing' : ℕ)
    (written written' : Option (List ℕ)) (page page' : List ℕ) : Type 0 where
  pub few : record_count pattern before now ≤ terms.records
  pub passed : PassesOn written page written' page' (step_text (count_in terms.format standing) pattern before now t)
  pub count : count_after pattern before now (count_in terms.format standing) ≡ count_in terms.format standing'
  pub grown : standing' ≤ standing + 2 ^ 32

-- The group has too many records, and nothing of it is written.
pub record IsGroupFull (terms : Terms) (pattern : Pattern) (before now : Graph) (written written' : Option (List ℕ))
    (page page' : List ℕ) : Type 0 where
  pub many : terms.records < record_count pattern before now
  pub unwritten : written' ≡ written
  pub unheld : page' ≡ page

-- The group's text could not be written.
pub record IsGroupUnwritten (terms : Terms) (t : ℕ) (pattern : Pattern) (before now : Graph) (standing : ℕ)
    (written written' : Option (List ℕ)) (page : List ℕ) : Type 0 where
  pub few : record_count pattern before now ≤ terms.records
  pub part : AppendsPrefix written written' (page ++ step_text (count_in terms.format standing) pattern before now t)

-- What writing the records of timestamp t does, before which so many pieces stood.
abbrev pub WritesGroup : Terms → ℕ → Pattern → Graph → Graph → ℕ → Option (List ℕ) → List ℕ → Option (List ℕ) → List ℕ →
    Result (Option ℕ) WriteFault → Type 0
WritesGroup terms t pattern before now standing written page written' page' (Ok (Some standing')) =
    IsGroupWritten terms t pattern before now standing standing' written written' page page'
WritesGroup terms t pattern before now standing written page written' page' (Ok None) =
    IsGroupFull terms pattern before now written written' page page'
WritesGroup terms t pattern before now standing written page written' page' (Err fault) =
    IsGroupUnwritten terms t pattern before now standing written written' page

-- These are the deltas of what waits, under a program; so many pieces stand before it.
pub record AreWaitingDeltas (terms : Terms) (pattern : Pattern) (p : Progress) (standing : ℕ) (deltas : List Delta) : Type 0 where
  pub known : pattern_at p.stage ≡ Some pattern
  pub deltas_are : AreDeltas pattern terms.records p.mined (history p.mined p.waiting) deltas
  pub count : p.count ≡ count_in terms.format standing
  pub few : standing ≤ p.stamp * 2 ^ 32

-- What waited was written, and so many pieces stand then.
pub record AllWritten (terms : Terms) (pattern : Pattern) (p : Progress) (standing : ℕ) : Type 0 where
  pub count : (all_mined pattern p).count ≡ count_in terms.format standing
  pub few : standing ≤ (all_mined pattern p).stamp * 2 ^ 32

-- What writing what waits does to a run.
abbrev pub WritesWaiting : Terms → Pattern → Progress → Option (List ℕ) → Option (List ℕ) → Option (List ℕ) →
    Option (List ℕ) → Option (List ℕ) → List ℕ → Reading → Result Written WriteFault → Type 0
WritesWaiting terms pattern p left0 left left' written0 written page reader (Ok (wrote.All standing)) =
    AllWritten terms pattern p standing × IsRunning terms left0 left written0 written page reader (all_mined pattern p)
WritesWaiting terms pattern p left0 left left' written0 written page reader (Ok (wrote.Full t)) =
    HasEnded terms left0 left' written0 written page (status.Limit limit.Records t)
WritesWaiting terms pattern p left0 left left' written0 written page reader (Err fault) =
    WritesPrefix terms left0 left' written0 written
