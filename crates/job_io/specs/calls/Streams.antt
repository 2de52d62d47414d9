-- What contracts see of a source over a reader, and of a sink over a writer.
use Rattle.std.specs.Prelude.{ℕ, List, Option}

-- the bytes still to come, where the reader tells them, and how often the source has failed
pub record SourceState : Type 0 where
  pub left : Option (List ℕ)
  pub faults : ℕ

-- the bytes written so far, where the writer tells them, and how often the sink has failed
pub record SinkState : Type 0 where
  pub written : Option (List ℕ)
  pub faults : ℕ
