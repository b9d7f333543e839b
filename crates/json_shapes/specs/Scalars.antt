-- Indices, ids and counts, and truth values.
use Rattle.std.specs.Prelude.{ℕ, Bool, nat_le, if◌then◌else◌, Option, None, Some, option_and_then}
use Rattle.serde_json.specs.Data.{Num}
use Rattle.serde_json.specs.Find.{as_bool, as_number, as_u64}
use Rattle.json_shapes.specs.Reading.{Shape, or_bad_shape}

-- the greatest of 32 bits with a sign
abbrev pub greatest_index : ℕ
greatest_index = 2147483647

abbrev pub within_index : ℕ → Option ℕ
within_index whole = if nat_le whole greatest_index then Some whole else None

abbrev pub index_of : Num → Option ℕ
index_of n = option_and_then within_index (as_u64 n)

-- a whole number from 0 on, written as one
abbrev pub index : Shape ℕ
index value = or_bad_shape (option_and_then index_of (as_number value))

abbrev pub truth : Shape Bool
truth value = or_bad_shape (as_bool value)
