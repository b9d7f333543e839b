-- What a value is as a number, as a text and as a truth value (Google Docs Editors Help, "Google Sheets
-- function list": N, VALUE, TO_TEXT and AND; Google Sheets API v4 reference, ErrorType). An error is
-- itself; what has no number or no truth is #VALUE!. That a text of digits is read as a whole number alone
-- is this project's profile.
use Rattle.std.specs.Prelude.{ℕ, ℤ, pos, unsigned_abs, Bool, true, false, not, List, nat_le, codes, if◌then◌else◌, Option, Some, None, Result, Ok, Err, ok_or}
use Rattle.std.specs.Option.{option_map_or}
use Rattle.std.specs.Ordering.{int_eq}
use Rattle.std.specs.Str.{str_eq_ignore_ascii_case}
use Rattle.std.specs.Str.Parse.{signed_digits_value}
use Rattle.cell_value.specs.Limits.{largest}
use Rattle.cell_value.specs.Shown.{shown_text}
use Rattle.cell_value.specs.Typed.{is_whole}
use Rattle.cell_value.specs.declared.cell.Kind.{Kind}
use Rattle.cell_value.specs.declared.cell.Kind.TheVariants as kind
use Rattle.cell_value.specs.declared.cell.Value.{Value}
use Rattle.cell_value.specs.declared.cell.Value.TheVariants.{Blank, Number, Text, Truth, Error}

-- within 2^53 either way
abbrev pub is_within : ℤ → Bool
is_within number = nat_le (unsigned_abs number) largest

-- the number, where it is so
abbrev pub within : ℤ → Option ℤ
within number = if is_within number then Some number else None

-- the whole number within 2^53 that a text writes: digits behind an optional sign
abbrev pub number_in : List ℕ → Option ℤ
number_in text = if is_whole text then within (signed_digits_value 10 text) else None

-- the truth value that a text writes, in any ASCII case
abbrev pub truth_in : List ℕ → Option Bool
truth_in text =
    if str_eq_ignore_ascii_case text (codes "TRUE") then Some true
    else if str_eq_ignore_ascii_case text (codes "FALSE") then Some false
    else None

-- as a number
abbrev pub number_of : Value → Result ℤ Kind
number_of Blank = Ok (pos 0)
number_of (Number number) = Ok number
number_of (Text text) = ok_or (number_in text) kind.Value
number_of (Truth truth) = Ok (if truth then pos 1 else pos 0)
number_of (Error fault) = Err fault

-- as a truth value
abbrev pub truth_of : Value → Result Bool Kind
truth_of Blank = Ok false
truth_of (Number number) = Ok (not (int_eq number (pos 0)))
truth_of (Text text) = ok_or (truth_in text) kind.Value
truth_of (Truth truth) = Ok truth
truth_of (Error fault) = Err fault

-- the error that a value is
abbrev pub error_in : Value → Option Kind
error_in Blank = None
error_in (Number number) = None
error_in (Text text) = None
error_in (Truth truth) = None
error_in (Error fault) = Some fault

-- as a text: the one that it shows
abbrev pub text_of : Value → Result (List ℕ) Kind
text_of value = option_map_or (λ fault. Err fault) (error_in value) (Ok (shown_text value))
