-- The values of operators (Google Docs Editors Help, "Google Sheets function list": ADD, MINUS, MULTIPLY,
-- DIVIDE, CONCAT, EQ, NE, LT, LTE, GT, GTE and UMINUS). That numbers are whole, so that a quotient that
-- isn't is #NUM!, is this project's profile.
use Rattle.std.specs.Prelude.{ℤ, pos, ◌+ℤ◌, ◌-ℤ◌, ◌*ℤ◌, neg_ℤ, int_div, int_rem, ◌++◌, [], ◌∷◌, if◌then◌else◌}
use Rattle.std.specs.Ordering.{int_eq, is_eq, is_ne, is_lt, is_le, is_gt, is_ge}
use Rattle.formula_reader.specs.declared.tokens.token.Operator.{Operator}
use Rattle.formula_reader.specs.declared.tokens.token.Operator.TheVariants.{Equal, NotEqual, Less, AtMost, Greater, AtLeast, Join, Add, Subtract, Multiply, Divide}
use Rattle.cell_value.specs.declared.cell.Kind.TheVariants as kind
use Rattle.cell_value.specs.declared.cell.Value.{Value}
use Rattle.cell_value.specs.declared.cell.Value.TheVariants.{Truth, Error}
use Rattle.cell_calc.specs.Conversion.{number_of}
use Rattle.cell_calc.specs.Outcome.{whole, text_within, value_by, two_numbers, two_texts, leftmost_error, unless_error}
use Rattle.cell_calc.specs.Comparison.{compared}

-- a quotient: #DIV/0! of a divisor 0, #NUM! where it isn't whole
abbrev pub quotient : ℤ → ℤ → Value
quotient left right =
    if int_eq right (pos 0) then Error kind.Div0
    else if int_eq (int_rem left right) (pos 0) then whole (int_div left right)
    else Error kind.Num

-- by the sign of the operator, where neither operand is an error
abbrev pub operated : Operator → Value → Value → Value
operated Equal left right = Truth (is_eq (compared left right))
operated NotEqual left right = Truth (is_ne (compared left right))
operated Less left right = Truth (is_lt (compared left right))
operated AtMost left right = Truth (is_le (compared left right))
operated Greater left right = Truth (is_gt (compared left right))
operated AtLeast left right = Truth (is_ge (compared left right))
operated Join left right = value_by (λ pair. text_within (pair.0 ++ pair.1)) (two_texts left right)
operated Add left right = value_by (λ pair. whole (pair.0 +ℤ pair.1)) (two_numbers left right)
operated Subtract left right = value_by (λ pair. whole (pair.0 -ℤ pair.1)) (two_numbers left right)
operated Multiply left right = value_by (λ pair. whole (pair.0 *ℤ pair.1)) (two_numbers left right)
operated Divide left right = value_by (λ pair. quotient pair.0 pair.1) (two_numbers left right)

-- the value of an operator between two operands
abbrev pub operation : Operator → Value → Value → Value
operation operator left right = unless_error (leftmost_error (left ∷ right ∷ [])) (operated operator left right)

-- the value of `-` before an operand
abbrev pub negation : Value → Value
negation operand = value_by (λ number. whole (neg_ℤ number)) (number_of operand)
