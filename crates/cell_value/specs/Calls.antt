-- Calls of a device in memory, some of which are to fail.
use Rattle.std.specs.Prelude.{ℕ, ◌+◌, Bool, ◌==◌, List, min, if◌then◌else◌}
use Rattle.std.specs.List.{list_any}
use Rattle.cell_value.specs.FaultCount.{last_count}

-- how many calls were made, the numbers of those that fail, counted from 1, and how many have failed
pub record CallCount : Type 0 where
  pub made : ℕ
  pub failing : List ℕ
  pub faults : ℕ

-- no call was made yet
abbrev pub no_calls : List ℕ → CallCount
no_calls failing = record { made = 0; failing = failing; faults = 0 }

-- a count with one more; it stands still at its last value
abbrev pub one_more : ℕ → ℕ
one_more count = min (count + 1) last_count

-- the number of the next call is one of those
abbrev pub fails_next : CallCount → Bool
fails_next calls = list_any (λ number. number == one_more calls.made) calls.failing

-- one more call was made, and failed or not
abbrev pub after_call : Bool → CallCount → CallCount
after_call fails calls = record {
  made = one_more calls.made;
  failing = calls.failing;
  faults = if fails then one_more calls.faults else calls.faults;
}
