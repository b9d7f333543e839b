-- The values of functions of truth values and errors (Google Docs Editors Help, "Google Sheets function
-- list").
use Rattle.std.specs.Prelude.{Bool, true, false, not, if◌then◌else◌, is_some}
use Rattle.cell_value.specs.declared.cell.Value.{Value}
use Rattle.cell_value.specs.declared.cell.Value.TheVariants.{Blank, Number, Text, Truth, Error}
use Rattle.cell_calc.specs.Conversion.{truth_of, error_in}
use Rattle.cell_calc.specs.Outcome.{value_by}

-- NOT
abbrev pub negated : Value → Value
negated value = value_by (λ truth. Truth (not truth)) (truth_of value)

-- IF: one of two values by the condition, whatever the other one is
abbrev pub chosen : Value → Value → Value → Value
chosen condition one other = value_by (λ truth. if truth then one else other) (truth_of condition)

-- IFERROR: the value, or the other one where it is an error
abbrev pub unless_it_fails : Value → Value → Value
unless_it_fails value other = if is_some (error_in value) then other else value

-- ISBLANK
abbrev pub is_blank : Value → Bool
is_blank Blank = true
is_blank (Number number) = false
is_blank (Text text) = false
is_blank (Truth truth) = false
is_blank (Error fault) = false

-- ISNUMBER
abbrev pub is_number : Value → Bool
is_number Blank = false
is_number (Number number) = true
is_number (Text text) = false
is_number (Truth truth) = false
is_number (Error fault) = false

-- ISTEXT
abbrev pub is_text : Value → Bool
is_text Blank = false
is_text (Number number) = false
is_text (Text text) = true
is_text (Truth truth) = false
is_text (Error fault) = false

-- ISERROR
abbrev pub is_error : Value → Bool
is_error value = is_some (error_in value)
