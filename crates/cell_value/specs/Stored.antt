-- What of an entered number or text may be stored in a cell.
use Rattle.std.specs.Prelude.{ℕ, ℤ, List, [], ◌∷◌, length, nat_le, unsigned_abs, if◌then◌else◌, Option, Some, None, Result, Ok, Err}
use Rattle.cell_value.specs.Limits.{largest, longest}
use Rattle.cell_value.specs.declared.entered.Input.{Input}
use Rattle.cell_value.specs.declared.entered.Input.TheVariants.{Empty, Number, Text}
use Rattle.cell_value.specs.declared.entered.Bad.{Bad}
use Rattle.cell_value.specs.declared.entered.Bad.TheVariants.{NotWhole, TooLong}

-- a whole number within 2^53 either way
abbrev pub whole_input : Option ℤ → Result Input Bad
whole_input (Some whole) = if nat_le (unsigned_abs whole) largest then Ok (Number whole) else Err NotWhole
whole_input None = Err NotWhole

-- a text; the empty one empties the cell
abbrev pub text_or_empty : List ℕ → Input
text_or_empty [] = Empty
text_or_empty (byte ∷ bytes) = Text (byte ∷ bytes)

-- what is answered for a text, unless the text has more than 50,000 bytes
abbrev pub within_longest : {A : Type 0} → List ℕ → Result A Bad → Result A Bad
within_longest text (Ok answer) = if nat_le (length text) longest then Ok answer else Err TooLong
within_longest text (Err why) = Err why
