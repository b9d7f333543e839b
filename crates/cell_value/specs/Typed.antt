-- What a text means that is typed into a cell (Google Sheets API v4 reference, `USER_ENTERED` of
-- ValueInputOption). A text is the list of its UTF-8 bytes: 39 is ', 46 is ., 61 is =, 69 and 101 are
-- E and e.
use Rattle.std.specs.Prelude.{ℕ, ◌+◌, Bool, true, false, List, [], ◌∷◌, length, take, drop, ◌&&◌, ◌||◌, ◌==◌, nat_lt, nat_le, if◌then◌else◌, codes, Option, None, Some, Result, Ok, Err}
use Rattle.std.specs.List.{list_all, list_any, count_by, position}
use Rattle.std.specs.Char.{is_ascii_digit}
use Rattle.std.specs.Str.{str_eq_ignore_ascii_case}
use Rattle.std.specs.Str.Parse.{signed_digits_value, without_leading_sign}
use Rattle.cell_value.specs.declared.entered.Input.{Input}
use Rattle.cell_value.specs.declared.entered.Input.TheVariants.{Truth, FormulaText}
use Rattle.cell_value.specs.declared.entered.Bad.{Bad}
use Rattle.cell_value.specs.declared.entered.Bad.TheVariants.{NotWhole}
use Rattle.cell_value.specs.Stored.{whole_input, text_or_empty}

-- = and at least one byte more
abbrev pub is_formula : List ℕ → Bool
is_formula [] = false
is_formula (first ∷ []) = false
is_formula (first ∷ second ∷ more) = first == 61

-- a leading ', behind which a text stands
abbrev pub is_marked_text : List ℕ → Bool
is_marked_text [] = false
is_marked_text (first ∷ more) = first == 39

-- one digit or more, and nothing else
abbrev pub are_digits : List ℕ → Bool
are_digits text = nat_lt 0 (length text) && list_all is_ascii_digit text

-- an optional + or -, and digits
abbrev pub is_whole : List ℕ → Bool
is_whole text = are_digits (without_leading_sign text)

-- at least one digit, with at most one . among them
abbrev pub is_mantissa : List ℕ → Bool
is_mantissa text =
    list_any is_ascii_digit text && list_all (λ c. is_ascii_digit c || c == 46) text
    && nat_le (count_by (λ c. c == 46) text) 1

abbrev pub is_exponent_letter : ℕ → Bool
is_exponent_letter c = c == 101 || c == 69

-- a mantissa, and behind e or E, if one stands there, an optional sign and digits
abbrev pub is_scaled_at : List ℕ → Option ℕ → Bool
is_scaled_at number None = is_mantissa number
is_scaled_at number (Some at) = is_mantissa (take at number) && is_whole (drop (at + 1) number)

abbrev pub is_scaled : List ℕ → Bool
is_scaled number = is_scaled_at number (position is_exponent_letter number)

-- an optional sign and a number that may have a fraction and an exponent
abbrev pub is_decimal : List ℕ → Bool
is_decimal text = is_scaled (without_leading_sign text)

-- a text that is none of the others: a number with a fraction or an exponent is in no cell
abbrev pub plain_input : List ℕ → Result Input Bad
plain_input text = if is_decimal text then Err NotWhole else Ok (text_or_empty text)

-- A typed text, by the first line that fits: a formula; a text behind a '; a whole number; a truth
-- value; and any other.
abbrev pub typed_input : List ℕ → Result Input Bad
typed_input text =
    if is_formula text then Ok (FormulaText text)
    else if is_marked_text text then Ok (text_or_empty (drop 1 text))
    else if is_whole text then whole_input (Some (signed_digits_value 10 text))
    else if str_eq_ignore_ascii_case text (codes "TRUE") then Ok (Truth true)
    else if str_eq_ignore_ascii_case text (codes "FALSE") then Ok (Truth false)
    else plain_input text
