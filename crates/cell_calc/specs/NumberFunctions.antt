-- The values of functions of numbers (Google Docs Editors Help, "Google Sheets function list"). That
-- numbers are whole is this project's profile.
use Rattle.std.specs.Prelude.{ℤ, pos, neg_ℤ, unsigned_abs, int_div, if◌then◌else◌}
use Rattle.std.specs.Int.{int_signum, int_rem_euclid, is_negative}
use Rattle.std.specs.Ordering.{int_eq}
use Rattle.cell_value.specs.declared.cell.Kind.TheVariants as kind
use Rattle.cell_value.specs.declared.cell.Value.{Value}
use Rattle.cell_value.specs.declared.cell.Value.TheVariants.{Error}
use Rattle.cell_calc.specs.Conversion.{number_of}
use Rattle.cell_calc.specs.Outcome.{whole, value_by, two_numbers}

-- ABS: the number without its sign
abbrev pub absolute : Value → Value
absolute value = value_by (λ number. whole (pos (unsigned_abs number))) (number_of value)

-- SIGN: 1, 0 or -1
abbrev pub sign : Value → Value
sign value = value_by (λ number. whole (int_signum number)) (number_of value)

-- the remainder of a division rounded down: it has the sign of the divisor
abbrev pub floored_remainder : ℤ → ℤ → ℤ
floored_remainder left right =
    if is_negative right then neg_ℤ (int_rem_euclid (neg_ℤ left) right) else int_rem_euclid left right

-- #DIV/0! of a divisor 0
abbrev pub unless_zero : ℤ → Value → Value
unless_zero divisor value = if int_eq divisor (pos 0) then Error kind.Div0 else value

-- MOD: the remainder with the sign of the divisor
abbrev pub modulo : Value → Value → Value
modulo left right =
    value_by (λ pair. unless_zero pair.1 (whole (floored_remainder pair.0 pair.1))) (two_numbers left right)

-- QUOTIENT: the quotient cut towards 0
abbrev pub whole_quotient : Value → Value → Value
whole_quotient left right =
    value_by (λ pair. unless_zero pair.1 (whole (int_div pair.0 pair.1))) (two_numbers left right)
