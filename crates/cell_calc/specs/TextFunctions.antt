-- The values of functions of texts (Google Docs Editors Help, "Google Sheets function list"). A text is the
-- list of its UTF-8 bytes; its characters are those of Unicode.
use Rattle.std.specs.Prelude.{ℕ, ◌-◌, ℤ, pos, unsigned_abs, int_lt, List, [], ◌∷◌, length, take, drop, encode_utf8_all, if◌then◌else◌, Result, Ok, Err}
use Rattle.std.specs.Str.{chars, bytes_eq}
use Rattle.cell_value.specs.declared.cell.Kind.{Kind}
use Rattle.cell_value.specs.declared.cell.Kind.TheVariants as kind
use Rattle.cell_value.specs.declared.cell.Value.{Value}
use Rattle.cell_value.specs.declared.cell.Value.TheVariants.{Truth, Error}
use Rattle.cell_calc.specs.Conversion.{number_of, text_of}
use Rattle.cell_calc.specs.Outcome.{whole, text_within, value_by, both, two_texts, leftmost_error, error_or}

-- LEN: the number of characters
abbrev pub text_length : Value → Value
text_length value = value_by (λ text. whole (pos (length (chars text)))) (text_of value)

-- a number of characters; #VALUE! below 0
abbrev pub count_of : ℤ → Result ℕ Kind
count_of number = if int_lt number (pos 0) then Err kind.Value else Ok (unsigned_abs number)

-- the first characters
abbrev pub first_characters : List ℕ → ℤ → Value
first_characters text number =
    value_by (λ count. text_within (encode_utf8_all (take count (chars text)))) (count_of number)

-- the last characters
abbrev pub last_characters : List ℕ → ℤ → Value
last_characters text number =
    value_by (λ count. text_within (encode_utf8_all (drop (length (chars text) - count) (chars text))))
    (count_of number)

-- characters from the start-th one on, counted from 1
abbrev pub inner_characters : List ℕ → ℤ → ℤ → Value
inner_characters text start number =
    if int_lt start (pos 1) then Error kind.Value
    else value_by (λ count. text_within (encode_utf8_all (take count (drop (unsigned_abs start - 1) (chars text)))))
    (count_of number)

-- a text and a number, the leftmost error before anything else
abbrev pub text_and_number : Value → Value → Result (List ℕ × ℤ) Kind
text_and_number one other = error_or (leftmost_error (one ∷ other ∷ [])) (both (text_of one) (number_of other))

-- a text and two numbers
abbrev pub text_and_numbers : Value → Value → Value → Result (List ℕ × (ℤ × ℤ)) Kind
text_and_numbers value start count =
    error_or (leftmost_error (value ∷ start ∷ count ∷ []))
    (both (text_of value) (both (number_of start) (number_of count)))

-- LEFT
abbrev pub left_part : Value → Value → Value
left_part value count = value_by (λ pair. first_characters pair.0 pair.1) (text_and_number value count)

-- RIGHT
abbrev pub right_part : Value → Value → Value
right_part value count = value_by (λ pair. last_characters pair.0 pair.1) (text_and_number value count)

-- MID
abbrev pub middle_part : Value → Value → Value → Value
middle_part value start count =
    value_by (λ parts. inner_characters parts.0 parts.1.0 parts.1.1) (text_and_numbers value start count)

-- EXACT: whether the texts have the same bytes
abbrev pub same_text : Value → Value → Value
same_text one other = value_by (λ pair. Truth (bytes_eq pair.0 pair.1)) (two_texts one other)
