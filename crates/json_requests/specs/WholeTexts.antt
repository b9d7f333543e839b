-- Texts that are whole numbers: the values of a NUMBER condition, columns as names of members, and ids in paths
-- (Google Sheets API v4 reference, ConditionType, `criteria` of BasicFilter and developerMetadata.get). 48 is 0.
use Rattle.std.specs.Prelude.{ℕ, ℤ, ◌==◌, Bool, false, List, [], ◌∷◌, nat_le, if◌then◌else◌, Option, None, unsigned_abs, Ok, Err}
use Rattle.std.specs.Str.Parse.{digits_value, signed_digits_value}
use Rattle.cell_value.specs.Limits.{largest}
use Rattle.cell_value.specs.Typed.{are_digits, is_whole}
use Rattle.json_shapes.specs.declared.fault.ShapeFault.TheVariants.{BadNumber}
use Rattle.json_shapes.specs.Reading.{Reading}
use Rattle.json_shapes.specs.Scalars.{within_index}

-- a number within 2^53 either way
abbrev pub number_within : ℤ → Reading ℤ
number_within number = if nat_le (unsigned_abs number) largest then Ok number else Err BadNumber

-- digits behind an optional sign
abbrev pub number_of : List ℕ → Reading ℤ
number_of digits = if is_whole digits then number_within (signed_digits_value 10 digits) else Err BadNumber

-- an index in digits
abbrev pub index_named : List ℕ → Option ℕ
index_named text = if are_digits text then within_index (digits_value 10 text) else None

abbrev pub leads_with_zero : List ℕ → Bool
leads_with_zero [] = false
leads_with_zero (first ∷ []) = false
leads_with_zero (first ∷ second ∷ more) = first == 48
