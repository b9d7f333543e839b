-- Bytes in memory in the place of an input or an output, some of whose calls may fail.
use Rattle.std.specs.Prelude.{ℕ, Bool, ◌&&◌, ◌==◌, List, length, min}
use Rattle.cell_value.specs.Calls.{CallCount}

-- ---- pieces

-- the bytes left in a source, of which a read gives at most a piece
pub record SourceBytes : Type 0 where
  pub left : List ℕ
  pub piece : ℕ

-- how many bytes a read gives that has room for so many: a piece, or as many as are left or have room
abbrev pub given : SourceBytes → ℕ → ℕ
given source room = min source.piece (min (length source.left) room)

-- the bytes that were written to a sink, of which a write takes at most a piece, and how often a write
-- found no memory
pub record SinkBytes : Type 0 where
  pub written : List ℕ
  pub piece : ℕ
  pub shortages : ℕ

-- how many of the bytes a write takes: a piece, or all
abbrev pub taken : SinkBytes → List ℕ → ℕ
taken sink bytes = min sink.piece (length bytes)

-- ---- calls that are to fail

-- no call fails, and none has failed
abbrev pub never_fails : CallCount → Bool
never_fails calls = length calls.failing == 0 && calls.faults == 0

-- a source whose calls are counted
pub record CountedSource : Type 0 where
  pub bytes : SourceBytes
  pub calls : CallCount

-- a sink whose calls are counted
pub record CountedSink : Type 0 where
  pub bytes : SinkBytes
  pub calls : CallCount
