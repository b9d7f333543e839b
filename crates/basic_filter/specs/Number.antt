-- The number that a cell holds: the `numberValue` of the `ExtendedValue` of the Google Sheets API v4.
use Rattle.std.specs.Prelude.{ℤ, Option, None, Some}
use Rattle.cell_value.specs.declared.cell.Value.{Value}
use Rattle.cell_value.specs.declared.cell.Value.TheVariants.{Blank, Number, Text, Truth, Error}

-- a text of digits is no number
abbrev pub number_of : Value → Option ℤ
number_of Blank = None
number_of (Number number) = Some number
number_of (Text _) = None
number_of (Truth _) = None
number_of (Error _) = None
