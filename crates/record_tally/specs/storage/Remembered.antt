-- The bytes that contracts see of a tally, and its counts.
use Rattle.std.specs.Prelude.{ℕ, true, List, map}
use Rattle.std.specs.declared.snapshot.Snapshot.{Snapshot}
use Rattle.record_tally.specs.declared.counts.Counts.{Counts}
use Rattle.record_tally.specs.meaning.Lines.{fresh_after, lines_beginning}

-- what contracts see of a tally: the bytes that were written, and how often it failed
pub record TallyState : Type 0 where
  pub written : List ℕ
  pub faults : ℕ

-- the bytes that some snapshots show
abbrev pub remembered : List (Snapshot ℕ) → List ℕ
remembered seen = map (λ s. s.value) seen

-- the counts of all bytes
abbrev pub counts_of : List ℕ → Counts
counts_of text = record {
  removed = lines_beginning 82 text;
  added = lines_beginning 78 text;
  done = lines_beginning 68 text;
  fresh = fresh_after true text;
}
