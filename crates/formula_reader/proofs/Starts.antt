-- The first byte of a lexeme of each form.
use Rattle.std.proofs.Common.{◌≡◌, ℕ, Bool, true, false, List, [], ◌∷◌, ◌++◌, refl, sym, ap, ◌∙◌, inl, inr, arith, append_assoc}
use Rattle.std.specs.Prelude.{◌||◌, ◌==◌, None}
use Rattle.std.specs.Char.{is_ascii_alphanumeric, is_ascii_alphabetic, is_ascii_digit}
use Rattle.std.specs.List.{list_any}
use Rattle.std.proofs.lemmas.Bool.{false≢true, eq-eqb, or_parts}
use Rattle.std.proofs.lemmas.Bool.Decides.{nat_tests}
use Rattle.formula_reader.specs.declared.tokens.corner.Coordinate.{Coordinate}
use Rattle.formula_reader.specs.declared.tokens.corner.MarkedCorner.{MarkedCorner}
use Rattle.formula_reader.specs.declared.tokens.corner.MarkedCorner.TheVariants.{Cell, Column, Row}
use Rattle.formula_reader.specs.declared.tokens.token.Token.{Token}
use Rattle.formula_reader.specs.declared.tokens.token.MarkedArea.{MarkedArea}
use Rattle.a1_notation.specs.Run.{begins}
use Rattle.a1_notation.specs.Word.{begins_word}
use Rattle.formula_reader.specs.Corner.{marked_text, IsMarkedColumn, IsMarkedRow, IsMarkedCorner}
use Rattle.formula_reader.specs.Reference.{IsPart}
use Rattle.formula_reader.specs.Form.{IsTitleBefore, Form, Fits, Titled, FunctionName, OwnReference, AnyWord, Digits, Quoted, Sign}
use Rattle.formula_reader.specs.Parts.{is_double_quote}
use Rattle.formula_reader.specs.Tokens.{FitsNowhere, FitsFirst}
use Rattle.formula_reader.specs.Reading.{Reads}
use Rattle.formula_reader.proofs.Corners.{first_letter, first_digit}
use Rattle.formula_reader.proofs.Marks.{marked-append}
use Rattle.formula_reader.proofs.Firsts.{pass_over, nothing_first}

-- a reference begins with a letter, a digit or a $
abbrev pub starts_reference : ℕ → Bool
starts_reference byte = is_ascii_alphanumeric byte || byte == 36

abbrev pub starts_titled : ℕ → Bool
starts_titled byte = begins_word byte || byte == 39

-- whether a lexeme of the form may stand at the front of the text, by the first byte
abbrev pub may_start : Form → List ℕ → Bool
may_start Titled text = begins starts_titled text
may_start FunctionName text = begins begins_word text
may_start OwnReference text = begins starts_reference text
may_start AnyWord text = begins begins_word text
may_start Digits text = begins is_ascii_digit text
may_start Quoted text = begins is_double_quote text
may_start (Sign [] token) text = true
may_start (Sign (first ∷ spelling) token) text = begins (λ byte. byte == first) text

begins_weaker : (one other : ℕ → Bool) → ((b : ℕ) → one b ≡ true → other b ≡ true) → (text : List ℕ)
    → begins one text ≡ true → begins other text ≡ true
begins_weaker one other weaker [] is = absurd (false≢true is)
begins_weaker one other weaker (b ∷ text) is = weaker b is

pub begins-front : (class : ℕ → Bool) (xs ys : List ℕ) → begins class xs ≡ true → begins class (xs ++ ys) ≡ true
begins-front class [] ys is = absurd (false≢true is)
begins-front class (x ∷ xs) ys is = is

letter_starts : (b : ℕ) → is_ascii_alphabetic b ≡ true → starts_reference b ≡ true
letter_starts b h = grind (arith, nat_tests)

digit_starts : (b : ℕ) → is_ascii_digit b ≡ true → starts_reference b ≡ true
digit_starts b h = grind (arith, nat_tests)

word_starts_titled : (b : ℕ) → begins_word b ≡ true → starts_titled b ≡ true
word_starts_titled b h = rw h refl

marked_starts : (m : Bool) (text : List ℕ) → begins starts_reference text ≡ true
    → begins starts_reference (marked_text m text) ≡ true
marked_starts true text is = refl
marked_starts false text is = is

column_starts : (text : List ℕ) (column : Coordinate) (rest : List ℕ) → IsMarkedColumn text column
    → begins starts_reference (text ++ rest) ≡ true
column_starts text column rest is =
    rw (is.spelled, marked-append column.marked is.name rest)
    (marked_starts column.marked (is.name ++ rest)
    (begins_weaker is_ascii_alphabetic starts_reference letter_starts (is.name ++ rest)
    (first_letter is.name column.line rest is.name_is)))

row_starts : (text : List ℕ) (row : Coordinate) (rest : List ℕ) → IsMarkedRow text row
    → begins starts_reference (text ++ rest) ≡ true
row_starts text row rest is =
    rw (is.spelled, marked-append row.marked is.name rest)
    (marked_starts row.marked (is.name ++ rest)
    (begins_weaker is_ascii_digit starts_reference digit_starts (is.name ++ rest)
    (first_digit is.name row.line rest is.name_is)))

corner_starts : (text : List ℕ) (corner : MarkedCorner) (rest : List ℕ) → IsMarkedCorner text corner
    → begins starts_reference (text ++ rest) ≡ true
corner_starts text (Cell row column) rest is =
    rw (is.spelled, append_assoc is.first is.second rest)
    (column_starts is.first column (is.second ++ rest) is.column_is)
corner_starts text (Column column) rest is = column_starts text column rest is
corner_starts text (Row row) rest is = row_starts text row rest is

pub part_starts : (part : List ℕ) (w : MarkedArea) (rest : List ℕ) → IsPart part w
    → begins starts_reference (part ++ rest) ≡ true
part_starts part w rest (inl cell) = corner_starts part (Cell cell.row cell.column) rest cell.cell
part_starts part w rest (inr two) =
    rw (two.spelled, append_assoc two.first (58 ∷ two.second) rest)
    (corner_starts two.first two.one (58 ∷ two.second ++ rest) two.one_is)

title_starts : (sheet title behind : List ℕ) → IsTitleBefore sheet title behind → begins starts_titled sheet ≡ true
title_starts sheet title behind (inl quoted) = rw quoted.spelled refl
title_starts sheet title behind (inr word) =
    begins_weaker begins_word starts_titled word_starts_titled sheet word.0.first

-- a lexeme that has the form begins so
fits_starts : (form : Form) (lexeme : List ℕ) (token : Token) (rest : List ℕ) → Fits form lexeme token rest
    → may_start form (lexeme ++ rest) ≡ true
fits_starts Titled lexeme token rest is =
    rw (is.spelled, append_assoc is.sheet is.behind rest)
    (begins-front starts_titled is.sheet (is.behind ++ rest) (title_starts is.sheet is.title
    (is.behind ++ rest) is.title_is))
fits_starts FunctionName lexeme token rest is = begins-front begins_word lexeme rest is.word.first
fits_starts OwnReference lexeme token rest is = part_starts lexeme is.written rest is.reference.stands.part_is
fits_starts AnyWord lexeme token rest is = begins-front begins_word lexeme rest is.word.first
fits_starts Digits lexeme token rest is = begins-front is_ascii_digit lexeme rest is.some
fits_starts Quoted lexeme token rest is = rw is.spelled refl
fits_starts (Sign [] sign) lexeme token rest is = refl
fits_starts (Sign (first ∷ spelling) sign) lexeme token rest is = rw is.0 (eq-eqb first first refl)

-- so a form that may not start there fits nowhere
pub cannot_start : (form : Form) (text : List ℕ) → may_start form text ≡ false → FitsNowhere form text
cannot_start form text none lexeme token rest e is =
    false≢true (sym none ∙ ap (may_start form) e ∙ fits_starts form lexeme token rest is)

pub none_starts : (forms : List Form) (text : List ℕ) → list_any (λ form. may_start form text) forms ≡ false
    → Reads (FitsFirst forms) text None
none_starts [] text none = nothing_first text
none_starts (form ∷ later) text none =
    let parts = or_parts (may_start form text) (list_any (λ other. may_start other text) later) none in
    pass_over form later text None (cannot_start form text parts.0) (none_starts later text parts.1)
