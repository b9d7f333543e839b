-- What a JSON value means that is entered into a cell (Google Sheets API v4 reference, ValueRange and
-- ValueInputOption).
use Rattle.std.specs.Prelude.{ℕ, List, Result, Ok, Err}
use Rattle.serde_json.specs.Data.{Num, Data, null, boolean, number, string, array, object}
use Rattle.serde_json.specs.Find.{as_i64}
use Rattle.cell_value.specs.declared.entered.Input.{Input}
use Rattle.cell_value.specs.declared.entered.Input.TheVariants.{Skip, Truth}
use Rattle.cell_value.specs.declared.entered.Mode.{Mode}
use Rattle.cell_value.specs.declared.entered.Mode.TheVariants.{Raw, UserEntered}
use Rattle.cell_value.specs.declared.entered.Bad.{Bad}
use Rattle.cell_value.specs.declared.entered.Bad.TheVariants.{NotScalar}
use Rattle.cell_value.specs.Stored.{whole_input, text_or_empty, within_longest}
use Rattle.cell_value.specs.Typed.{typed_input}

-- a number with a fraction or an exponent is no whole number, and one past 64 bits neither
abbrev pub number_input_of : Num → Result Input Bad
number_input_of n = whole_input (as_i64 n)

-- A text as it is, or as it is typed. It has at most 50,000 bytes; a typed number that is none that a
-- cell holds is told before that.
abbrev pub entered_text : Mode → List ℕ → Result Input Bad
entered_text Raw text = within_longest text (Ok (text_or_empty text))
entered_text UserEntered text = within_longest text (typed_input text)

-- what a value means: null leaves the cell alone
abbrev pub entered_input : Mode → Data → Result Input Bad
entered_input mode null = Ok Skip
entered_input mode (boolean truth) = Ok (Truth truth)
entered_input mode (number n) = number_input_of n
entered_input mode (string text) = entered_text mode text
entered_input mode (array _) = Err NotScalar
entered_input mode (object _) = Err NotScalar
