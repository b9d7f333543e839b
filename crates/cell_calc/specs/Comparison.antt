-- The order of values (Google Docs Editors Help, "Google Sheets function list": EQ, LT and the others; that
-- texts are compared by their bytes is this project's profile).
use Rattle.std.specs.Prelude.{ℕ, false, [], pos}
use Rattle.std.specs.Cmp.Lexicographic.{slice_cmp}
use Rattle.std.specs.declared.cmp.Ordering.{Ordering}
use Rattle.std.specs.Ordering.{nat_cmp, int_cmp, bool_cmp}
use Rattle.std.specs.Str.{str_to_ascii_lowercase}
use Rattle.cell_value.specs.declared.cell.Value.{Value}
use Rattle.cell_value.specs.declared.cell.Value.TheVariants.{Blank, Number, Text, Truth, Error}

-- what blank counts as beside a value: 0, the empty text or FALSE by its kind, and blank beside blank
abbrev pub blank_beside : Value → Value
blank_beside Blank = Blank
blank_beside (Number number) = Number (pos 0)
blank_beside (Text text) = Text []
blank_beside (Truth truth) = Truth false
blank_beside (Error fault) = Blank

-- a value as it counts beside another
abbrev pub counted_beside : Value → Value → Value
counted_beside other Blank = blank_beside other
counted_beside other (Number number) = Number number
counted_beside other (Text text) = Text text
counted_beside other (Truth truth) = Truth truth
counted_beside other (Error fault) = Error fault

-- numbers are below texts, and texts below truth values
abbrev pub place_of_kind : Value → ℕ
place_of_kind Blank = 0
place_of_kind (Number number) = 1
place_of_kind (Text text) = 2
place_of_kind (Truth truth) = 3
place_of_kind (Error fault) = 4

-- values of one kind: texts by their bytes, with small letters in place of A to Z, and FALSE below TRUE;
-- others by their kinds
abbrev pub ordered : Value → Value → Ordering
ordered (Number left) (Number right) = int_cmp left right
ordered (Text left) (Text right) = slice_cmp nat_cmp (str_to_ascii_lowercase left) (str_to_ascii_lowercase right)
ordered (Truth left) (Truth right) = bool_cmp left right
ordered left right = nat_cmp (place_of_kind left) (place_of_kind right)

-- how two values compare that are no errors
abbrev pub compared : Value → Value → Ordering
compared left right = ordered (counted_beside right left) (counted_beside left right)
