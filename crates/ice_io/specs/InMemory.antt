-- The forms in memory: what their calls do, and which fail.
use Rattle.std.specs.Prelude.{ℕ, ◌-◌, ◌++◌, min, List, length, take, drop, Contains}
use Rattle.ice_io.specs.Faults.{counted, counted_by}

-- the bytes not yet read, the greatest size of a read, the numbers of the reads that fail, counted from 1, how many reads there were and
-- have failed, and how many bytes were read
pub record SourceState : Type 0 where
  pub left : List ℕ
  pub most : ℕ
  pub failing : List ℕ
  pub calls : ℕ
  pub faults : ℕ
  pub bytes_read : ℕ

-- the next read is one of those that fail
abbrev pub ReadFails : SourceState → Type 0
ReadFails s = Contains s.failing (counted s.calls)

-- how many bytes a read into a buffer of that length gives
abbrev pub read_size : SourceState → ℕ → ℕ
read_size s len = min s.most (min (length s.left) len)

-- the source after a read that gave n bytes
abbrev pub after_read : SourceState → ℕ → SourceState
after_read s n = record s { left = drop n s.left; calls = counted s.calls; bytes_read = counted_by s.bytes_read n }

-- the source after a read that failed
abbrev pub after_failed_read : SourceState → SourceState
after_failed_read s = record s { calls = counted s.calls; faults = counted s.faults }

-- the bytes written so far, how many may be written in all, and the same of writes
pub record SinkState : Type 0 where
  pub held : List ℕ
  pub room : ℕ
  pub most : ℕ
  pub failing : List ℕ
  pub calls : ℕ
  pub faults : ℕ

-- how many more bytes a sink has room for
abbrev pub room_left : SinkState → ℕ
room_left s = s.room - length s.held

-- the next write is one of those that fail
abbrev pub WriteFails : SinkState → Type 0
WriteFails s = Contains s.failing (counted s.calls)

-- how many bytes of a piece of that length a write takes
abbrev pub write_size : SinkState → ℕ → ℕ
write_size s len = min s.most (min len (room_left s))

-- the sink after a write that took the first n bytes of the piece
abbrev pub after_write : SinkState → List ℕ → ℕ → SinkState
after_write s piece n = record s { held = s.held ++ take n piece; calls = counted s.calls }

-- the sink after a write that failed
abbrev pub after_failed_write : SinkState → SinkState
after_failed_write s = record s { calls = counted s.calls; faults = counted s.faults }
