-- Which calls of a disk in memory fail.
use Rattle.std.specs.Prelude.{ℕ, Bool, false, ◌||◌, nat_le, Option, Some, None}
use Rattle.cell_value.specs.Calls.{CallCount, one_more, fails_next}

-- The number of the call from which on each fails, if there is one, and for how many calls and how many written bytes
-- the record has room.
pub record Bounds : Type 0 where
  pub stop : Option ℕ
  pub calls : ℕ
  pub bytes : ℕ

-- the next call has this number, or a later one
abbrev pub is_stopped : Option ℕ → CallCount → Bool
is_stopped None calls = false
is_stopped (Some stop) calls = nat_le stop (one_more calls.made)

-- the record has no room for one call more
abbrev pub is_full : Bounds → CallCount → Bool
is_full bounds calls = nat_le bounds.calls calls.made

-- the next call fails: its number is one of those, or isn't before the stop, or the record has no room for it
abbrev pub call_fails : Bounds → CallCount → Bool
call_fails bounds calls = fails_next calls || is_stopped bounds.stop calls || is_full bounds calls

-- the calls that were made, and what ends them
pub record Outage : Type 0 where
  pub calls : CallCount
  pub bounds : Bounds
