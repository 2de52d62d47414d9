-- What more bytes do to counts of lines.
use Rattle.std.specs.Prelude.{ℕ, ◌+◌, ◌^◌, ◌<◌, List}
use Rattle.job_io.specs.meaning.Lines.{is_lf}
use Rattle.record_tally.specs.declared.counts.Counts.{Counts}
use Rattle.record_tally.specs.meaning.Lines.{begins, fresh_after, lines_beginning_from}

-- one byte more
abbrev pub counts_with : Counts → ℕ → Counts
counts_with c byte = record {
  removed = c.removed + begins 82 c.fresh byte;
  added = c.added + begins 78 c.fresh byte;
  done = c.done + begins 68 c.fresh byte;
  fresh = is_lf byte;
}

-- some bytes more
abbrev pub counts_after : Counts → List ℕ → Counts
counts_after c bytes = record {
  removed = c.removed + lines_beginning_from 82 c.fresh bytes;
  added = c.added + lines_beginning_from 78 c.fresh bytes;
  done = c.done + lines_beginning_from 68 c.fresh bytes;
  fresh = fresh_after c.fresh bytes;
}

-- each count can grow by n
pub record HasRoom (c : Counts) (n : ℕ) : Type 0 where
  pub removed : c.removed + n < 2 ^ 64
  pub added : c.added + n < 2 ^ 64
  pub done : c.done + n < 2 ^ 64
