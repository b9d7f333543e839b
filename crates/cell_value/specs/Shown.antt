-- The text that a value shows (Google Sheets API v4 reference, `FORMATTED_VALUE` of ValueRenderOption,
-- and ErrorType).
use Rattle.std.specs.Prelude.{ℕ, true, false, List, [], codes}
use Rattle.std.specs.Fmt.{signed_decimal}
use Rattle.cell_value.specs.declared.cell.Kind.{Kind}
use Rattle.cell_value.specs.declared.cell.Kind.TheVariants as kind
use Rattle.cell_value.specs.declared.cell.Value.{Value}
use Rattle.cell_value.specs.declared.cell.Value.TheVariants as value

-- the name of an error
abbrev pub error_name : Kind → List ℕ
error_name kind.Ref = codes "#REF!"
error_name kind.Div0 = codes "#DIV/0!"
error_name kind.Value = codes "#VALUE!"
error_name kind.Name = codes "#NAME?"
error_name kind.Num = codes "#NUM!"
error_name kind.Na = codes "#N/A"
error_name kind.Error = codes "#ERROR!"

-- a number in decimal, and nothing for a blank cell
abbrev pub shown_text : Value → List ℕ
shown_text value.Blank = []
shown_text (value.Number whole) = signed_decimal whole
shown_text (value.Text text) = text
shown_text (value.Truth true) = codes "TRUE"
shown_text (value.Truth false) = codes "FALSE"
shown_text (value.Error kind) = error_name kind
