-- How a source and a sink in memory answer each call.
use Rattle.std.specs.Prelude.{ℕ, ◌-◌, min, Bool, ◌&&◌, List, ◌++◌, length, take, drop, nat_eq, nat_lt, Ok, Err, Result, if◌then◌else◌}
use Rattle.std.specs.List.{list_any}
use Rattle.job_io.specs.declared.ends.Failed.{Failed}
pub use Rattle.graph_types.specs.calls.Counts.{next_count}

-- whether this call, counted from 1, is one of those that fail
abbrev pub is_failing : List ℕ → ℕ → Bool
is_failing failing call = list_any (λ c. nat_eq c call) failing

-- a source in memory: the bytes still to come, the most that a call gives, the calls made, the calls
-- that fail, and how many have failed
pub record MemoryReading : Type 0 where
  pub left : List ℕ
  pub step : ℕ
  pub calls : ℕ
  pub failing : List ℕ
  pub faults : ℕ

-- whether the next read fails
abbrev pub read_fails : MemoryReading → Bool
read_fails s = is_failing s.failing (next_count s.calls)

-- how many bytes it gives into a buffer of `room` bytes, where it does not fail
abbrev pub read_len : MemoryReading → ℕ → ℕ
read_len s room = min (min s.step room) (length s.left)

-- its answer
abbrev pub read_answer : MemoryReading → ℕ → Result ℕ Failed
read_answer s room = if read_fails s then Err (record {}) else Ok (read_len s room)

-- the source after it
abbrev pub after_read : MemoryReading → ℕ → MemoryReading
after_read s room = if read_fails s
    then record s { calls = next_count s.calls; faults = next_count s.faults }
    else record s { left = drop (read_len s room) s.left; calls = next_count s.calls }

-- a sink in memory: the bytes written, the most that it holds, the most that a call takes, the calls
-- made, the calls that fail, and how often it has failed
pub record MemoryWriting : Type 0 where
  pub written : List ℕ
  pub room : ℕ
  pub step : ℕ
  pub calls : ℕ
  pub failing : List ℕ
  pub faults : ℕ

-- whether the next write fails
abbrev pub write_fails : MemoryWriting → Bool
write_fails s = is_failing s.failing (next_count s.calls)

-- how many of `len` bytes it takes, where it does not fail
abbrev pub write_len : MemoryWriting → ℕ → ℕ
write_len s len = min (min s.step len) (s.room - length s.written)

-- its answer
abbrev pub write_answer : MemoryWriting → ℕ → Result ℕ Failed
write_answer s len = if write_fails s then Err (record {}) else Ok (write_len s len)

-- whether it takes none of the bytes that it is given, since the sink is full
abbrev pub write_is_full : MemoryWriting → ℕ → Bool
write_is_full s len = nat_eq (write_len s len) 0 && nat_lt 0 len

-- the sink after it
abbrev pub after_write : MemoryWriting → List ℕ → MemoryWriting
after_write s bytes = if write_fails s
    then record s { calls = next_count s.calls; faults = next_count s.faults }
    else record s {
      written = s.written ++ take (write_len s (length bytes)) bytes;
      calls = next_count s.calls;
      faults = if write_is_full s (length bytes) then next_count s.faults else s.faults;
    }
